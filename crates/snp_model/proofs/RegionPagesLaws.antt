-- A page of 4 KB of a region whose entry and words are written.
use Rattle.std.proofs.Common.{◌≡◌, ◌≢◌, ℕ, ◌+◌, ◌-◌, ◌*◌, ◌/◌, ◌%◌, ◌<◌, ◌≤◌, false, List, [], length, replicate, refl, sym, ap, ◌∙◌, inl, inr, arith}
use Rattle.std.proofs.lemmas.Bool.{cases_eq, cond-true, cond-false, eq-eqb, ne_eqb}
use Rattle.std.proofs.lemmas.List.{get_or-set_same, get_or-set_other, set-get_or}
use Rattle.snp_model.specs.declared.entry.Kind.TheVariants.{Plain}
use Rattle.snp_model.specs.declared.entry.PageSize.{PageSize}
use Rattle.snp_model.specs.declared.entry.PageSize.TheVariants.{Small, Large}
use Rattle.snp_model.specs.declared.entry.RmpEntry.{RmpEntry}
use Rattle.snp_model.specs.Entries.{Entries, IsTable, facts_at, facts_within, region_pages, with_entry}
use Rattle.snp_model.specs.Facts.{frames_in, page_base}
use Rattle.snp_model.specs.FirmwareCommits.{at_frame, reclaim_facts}
use Rattle.snp_model.specs.Verdicts.{is_large}
use Rattle.snp_model.specs.Locks.{over, over_lock, page_lock}
use Rattle.snp_model.specs.RegionWords.{page_at, page_set}
use Rattle.snp_model.specs.State.{Page, Pages}
use Rattle.snp_model.proofs.EntriesLaws.{over_alike, over_in, over_is, over_out, within_first}

-- the entry of a page of 4 KB is written at its frame alone
small_entry : (slot : ℕ) (entry : RmpEntry) (facts : ℕ → RmpEntry) → entry.size ≡ Small → with_entry slot entry facts ≡ over slot 1 (λ place old. facts_within entry place) facts
small_entry slot entry facts small = ap (λ (size : PageSize). over slot (frames_in size) (λ place old. facts_within entry place) facts) small

entry_here : (slot : ℕ) (entry : RmpEntry) (facts : ℕ → RmpEntry) → entry.size ≡ Small → with_entry slot entry facts slot ≡ entry
entry_here slot entry facts small =
    let none : slot - slot ≡ 0 = omega arith in
    (λ i. small_entry slot entry facts small i slot)
    ∙ over_in slot 1 (λ place old. facts_within entry place) facts slot (omega arith) (omega arith)
    ∙ ap (facts_within entry) none ∙ within_first entry

entry_other : (slot other : ℕ) (entry : RmpEntry) (facts : ℕ → RmpEntry) → entry.size ≡ Small → slot ≢ other → with_entry slot entry facts other ≡ facts other
entry_other slot other entry facts small apart =
    (λ i. small_entry slot entry facts small i other)
    ∙ over_out slot 1 (λ place old. facts_within entry place) facts other (λ low high. apart (omega arith))

-- the page at a frame, and at another one
frame_here : (frame f : ℕ) (page : Page) (pages : Pages) → frame ≡ f → page ≡ at_frame frame page pages f
unfolding at_frame
frame_here frame f page pages same = sym (cond-true _ _ _ (eq-eqb frame f same))

frame_other : (frame f : ℕ) (page : Page) (pages : Pages) → frame ≢ f → pages f ≡ at_frame frame page pages f
unfolding at_frame
frame_other frame f page pages apart = sym (cond-false _ _ _ (ne_eqb frame f apart))

-- the pages of the region where a page is changed
pages_at : (memory new : List (List ℕ)) (rmp rmp' : Entries) (slot : ℕ) (entry : RmpEntry) (words : List ℕ) → slot < length memory → entry.size ≡ Small
    → new ≡ page_set memory slot words → facts_at rmp' ≡ with_entry slot entry (facts_at rmp)
    → (f : ℕ) → region_pages new rmp' f ≡ at_frame slot (record { facts = entry; words = words }) (region_pages memory rmp) f
pages_at memory new rmp rmp' slot entry words inside small is_new is_facts f = elim (cases_eq slot f) [
  | inl same ↦
      (λ i. record {
        facts = (ap (facts_at rmp') (sym same) ∙ (λ j. is_facts j slot) ∙ entry_here slot entry (facts_at rmp) small) i;
        words = (ap (page_at new) (sym same) ∙ (λ j. page_at (is_new j) slot) ∙ get_or-set_same memory slot words [] inside) i;
      })
      ∙ frame_here slot f (record { facts = entry; words = words }) (region_pages memory rmp) same
  | inr apart ↦
      (λ i. record {
        facts = ((λ j. is_facts j f) ∙ entry_other slot f entry (facts_at rmp) small apart) i;
        words = ((λ j. page_at (is_new j) f) ∙ get_or-set_other memory slot f words [] (λ e. apart (sym e))) i;
      })
      ∙ frame_other slot f (record { facts = entry; words = words }) (region_pages memory rmp) apart
]

-- both are written
pub page_put : (memory new : List (List ℕ)) (rmp rmp' : Entries) (slot : ℕ) (entry : RmpEntry) (words : List ℕ) → slot < length memory → entry.size ≡ Small
    → new ≡ page_set memory slot words → facts_at rmp' ≡ with_entry slot entry (facts_at rmp)
    → region_pages new rmp' ≡ at_frame slot (record { facts = entry; words = words }) (region_pages memory rmp)
page_put memory new rmp rmp' slot entry words inside small is_new is_facts =
    λ i f. pages_at memory new rmp rmp' slot entry words inside small is_new is_facts f i

-- the entry alone is
pub entry_put : (memory : List (List ℕ)) (rmp rmp' : Entries) (slot : ℕ) (entry : RmpEntry) → slot < length memory → entry.size ≡ Small
    → facts_at rmp' ≡ with_entry slot entry (facts_at rmp)
    → region_pages memory rmp' ≡ at_frame slot (record { facts = entry; words = page_at memory slot }) (region_pages memory rmp)
entry_put memory rmp rmp' slot entry inside small is_facts =
    page_put memory memory rmp rmp' slot entry (page_at memory slot) inside small (sym (set-get_or memory slot [])) is_facts

-- ---- pages that are changed as a whole, of 4 KB or of 2 MB

-- a page's frames are those from its first on
pub record InPage (rmp : Entries) (slot k : ℕ) : Type 0 where
  pub low : page_base (facts_at rmp slot).size slot ≤ k
  pub high : k < page_base (facts_at rmp slot).size slot + frames_in (facts_at rmp slot).size

-- where the frames of a page that is locked have other facts and other words
pub page_over : (memory new : List (List ℕ)) (rmp rmp' : Entries) (slot : ℕ) (facts : RmpEntry → RmpEntry) (words : List ℕ → List ℕ) (change : Page → Page)
    → facts_at rmp' ≡ over_lock (page_lock (facts_at rmp slot).size slot) facts (facts_at rmp)
    → page_at new ≡ over_lock (page_lock (facts_at rmp slot).size slot) words (page_at memory)
    → ((k : ℕ) → InPage rmp slot k → change (region_pages memory rmp k) ≡ record { facts = facts (facts_at rmp k); words = words (page_at memory k) })
    → region_pages new rmp' ≡ over_lock (page_lock (facts_at rmp slot).size slot) change (region_pages memory rmp)
page_over memory new rmp rmp' slot facts words change is_facts is_words each =
    let lock = page_lock (facts_at rmp slot).size slot in
    over_is (region_pages new rmp') (region_pages memory rmp) lock.base lock.count (λ place. change)
    (λ k low high.
    (λ i. record {
      facts = ((λ j. is_facts j k) ∙ over_in lock.base lock.count (λ place. facts) (facts_at rmp) k low high) i;
      words = ((λ j. is_words j k) ∙ over_in lock.base lock.count (λ place. words) (page_at memory) k low high) i;
    })
    ∙ sym (each k (record { low = low; high = high })))
    (λ k out. λ i. record {
      facts = ((λ j. is_facts j k) ∙ over_out lock.base lock.count (λ place. facts) (facts_at rmp) k out) i;
      words = ((λ j. is_words j k) ∙ over_out lock.base lock.count (λ place. words) (page_at memory) k out) i;
    })

-- and where their words stay
pub entry_over : (memory : List (List ℕ)) (rmp rmp' : Entries) (slot : ℕ) (facts : RmpEntry → RmpEntry) (change : Page → Page)
    → facts_at rmp' ≡ over_lock (page_lock (facts_at rmp slot).size slot) facts (facts_at rmp)
    → ((k : ℕ) → InPage rmp slot k → change (region_pages memory rmp k) ≡ record { facts = facts (facts_at rmp k); words = page_at memory k })
    → region_pages memory rmp' ≡ over_lock (page_lock (facts_at rmp slot).size slot) change (region_pages memory rmp)
entry_over memory rmp rmp' slot facts change is_facts each =
    let lock = page_lock (facts_at rmp slot).size slot in
    page_over memory memory rmp rmp' slot facts (λ words. words) change is_facts
    (over_is (page_at memory) (page_at memory) lock.base lock.count (λ place words. words) (λ k low high. refl) (λ k out. refl)) each

-- what the entry of the whole page tells of each of its frames
pub entry_over_frames : (rmp : Entries) (slot : ℕ) (entry : RmpEntry) (change : RmpEntry → RmpEntry) → entry.size ≡ (facts_at rmp slot).size
    → ((k : ℕ) → InPage rmp slot k → facts_within entry (k - page_base (facts_at rmp slot).size slot) ≡ change (facts_at rmp k))
    → with_entry (page_base entry.size slot) entry (facts_at rmp) ≡ over_lock (page_lock (facts_at rmp slot).size slot) change (facts_at rmp)
entry_over_frames rmp slot entry change size each =
    let lock = page_lock (facts_at rmp slot).size slot in
    ap (λ (s : PageSize). over (page_base s slot) (frames_in s) (λ place old. facts_within entry place) (facts_at rmp)) size
    ∙ over_alike lock.base lock.count (λ place old. facts_within entry place) (λ place. change) (facts_at rmp) (λ k low high. each k (record { low = low; high = high }))

-- each frame of a page has the facts of its entry, but for its page number
pub frame_within : (rmp : Entries) (slot k : ℕ) → IsTable rmp → slot < 512 → InPage rmp slot k
    → facts_at rmp k ≡ facts_within (facts_at rmp (page_base (facts_at rmp slot).size slot)) (k - page_base (facts_at rmp slot).size slot)
frame_within rmp slot k table below in_page = by_size (facts_at rmp slot).size refl in_page.low in_page.high
  where
    by_size : (size : PageSize) → (facts_at rmp slot).size ≡ size → page_base size slot ≤ k → k < page_base size slot + frames_in size
        → facts_at rmp k ≡ facts_within (facts_at rmp (page_base size slot)) (k - page_base size slot)
    by_size Small is low high =
        let none : k - slot ≡ 0 = omega arith in
        let here : k ≡ slot = omega arith in
        ap (facts_at rmp) here ∙ sym (within_first (facts_at rmp slot)) ∙ ap (facts_within (facts_at rmp slot)) (sym none)
    by_size Large is low high =
        let base : slot / 512 * 512 ≡ 0 = omega arith in
        let place : k - slot / 512 * 512 ≡ k = omega arith in
        (table.one_page slot below is).follow k (omega arith)
        ∙ ap (λ (n : ℕ). facts_within (facts_at rmp n) k) (sym base)
        ∙ ap (facts_within (facts_at rmp (slot / 512 * 512))) (sym place)

-- a page of 4 KB that becomes Reclaim has guest page number 0
pub reclaimed_small : (facts : RmpEntry) → facts.size ≡ Small
    → record facts { validated = false; immutable = false; gpn = 0; asid = 0; vmsa = false; perms = replicate 4 0; kind = Plain } ≡ reclaim_facts facts
unfolding reclaim_facts
reclaimed_small facts small = λ i.
    record facts { validated = false; immutable = false; gpn = sym (cond-false _ (facts.gpn % 512) 0 (ap is_large small)) i; asid = 0; vmsa = false; perms = replicate 4 0; kind = Plain }
