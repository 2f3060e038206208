-- What the commits of RMPUPDATE and PSMASH leave of a region.
use Rattle.std.proofs.Common.{◌≡◌, ℕ, ◌+◌, ◌-◌, ◌<◌, ◌≤◌, Bool, true, false, not, List, [], length, get_or, replicate, refl, sym, ap, ◌∙◌, inl, inr, arith}
use Rattle.std.proofs.lemmas.Bool.{cases_eq, cases_lt, cond-true, cond-false}
use Rattle.std.proofs.lemmas.List.{get_or_past, get_or-set_same}
use Rattle.snp_model.specs.declared.entry.RmpEntry.{RmpEntry}
use Rattle.snp_model.specs.declared.entry.PageSize.{PageSize}
use Rattle.snp_model.specs.declared.entry.PageSize.TheVariants.{Small, Large}
use Rattle.snp_model.specs.declared.item.Update.{Update}
use Rattle.snp_model.specs.Entries.{Entries, IsTable, facts_at, facts_within, region_pages, with_entry}
use Rattle.snp_model.specs.Facts.{free_entry, frames_in, page_base}
use Rattle.snp_model.specs.Locks.{over, over_lock, page_lock, range_lock}
use Rattle.snp_model.specs.RegionWords.{page_at, page_set}
use Rattle.snp_model.specs.RmpUpdate.{assigned_facts, immutable_kind, makes_immutable, pages_updated, smashed_facts, updated_facts, updated_page, updated_words}
use Rattle.snp_model.specs.State.{zero_words}
use Rattle.snp_model.proofs.EntriesLaws.{IsOfPage, over_alike, over_in, over_is, over_out, page_changed, within_first}
use Rattle.rmp_update.specs.Regions.{AreCleared, AreUpdated, IsRange, cleared}

-- ---- words

-- a page that is filled with zero words
pub filled : (pages : List (List ℕ)) (page : ℕ) (assigned : Bool) → page < length pages → assigned ≡ true → page_at (page_set pages page (replicate 512 0)) page ≡ cleared assigned (page_at pages page)
unfolding zero_words
filled pages page assigned low is = get_or-set_same pages page (replicate 512 0) [] low ∙ sym (cond-true _ _ _ is)

-- none is cleared at first, and one more
pub none_cleared : (rmp : Entries) (first : ℕ) (pages : List (List ℕ)) → AreCleared rmp first 0 pages pages
none_cleared rmp first pages = record { here = λ k low high. absurd (omega arith); there = λ k out. refl }

pub one_more_cleared : (rmp : Entries) (first page : ℕ) (old mid new : List (List ℕ)) → first ≤ page → AreCleared rmp first (page - first) old mid
    → page_at new page ≡ cleared (facts_at rmp page).assigned (page_at mid page) → ((k : ℕ) → (k ≡ page → ⊥) → page_at new k ≡ page_at mid k) → AreCleared rmp first (page + 1 - first) old new
one_more_cleared rmp first page old mid new low so_far here there = record {
  here = λ k at below. elim (cases_eq k page) [
    | inl e ↦
        ap (page_at new) e ∙ here
        ∙ ap (cleared (facts_at rmp page).assigned) (so_far.there page (λ h l. omega arith))
        ∙ ap (λ (p : ℕ). cleared (facts_at rmp p).assigned (page_at old p)) (sym e)
    | inr o ↦ there k o ∙ so_far.here k at (omega (arith, o))
  ];
  there = λ k out. there k (λ e. out (omega (arith, e)) (omega (arith, e))) ∙ so_far.there k (λ h l. out h (omega arith));
}

-- the words of the range, where the page becomes immutable and where not
kept_words : (update : Update) (first facts : RmpEntry) (words : List ℕ) → makes_immutable update first ≡ true → words ≡ updated_words update first facts words
unfolding updated_words
kept_words update first facts words is = sym (cond-true _ _ _ is)

cleared_words : (update : Update) (first facts : RmpEntry) (words : List ℕ) → makes_immutable update first ≡ false → cleared facts.assigned words ≡ updated_words update first facts words
unfolding updated_words
cleared_words update first facts words is = sym (cond-false _ _ _ is)

pub words_kept : (rmp : Entries) (update : Update) (slot : ℕ) (pages : List (List ℕ)) → makes_immutable update (facts_at rmp slot) ≡ true → AreUpdated rmp update slot pages pages
words_kept rmp update slot pages is = record { here = λ k low high. kept_words update (facts_at rmp slot) (facts_at rmp k) (page_at pages k) is; there = λ k out. refl }

pub words_cleared : (rmp : Entries) (update : Update) (slot count : ℕ) (old new : List (List ℕ)) → makes_immutable update (facts_at rmp slot) ≡ false → count ≡ frames_in update.size → AreCleared rmp slot count old new → AreUpdated rmp update slot old new
words_cleared rmp update slot count old new is many all = record {
  here = λ k low high. all.here k low (omega (arith, many)) ∙ cleared_words update (facts_at rmp slot) (facts_at rmp k) (page_at old k) is;
  there = λ k out. all.there k (λ h l. out h (omega (arith, many)));
}

-- ---- entries

-- an entry that becomes immutable
abbrev pub with_immutable : ℕ → RmpEntry → RmpEntry
with_immutable asid entry = record entry { immutable = true; kind = immutable_kind asid entry.kind }

immutable_of_page : (asid : ℕ) → IsOfPage (with_immutable asid)
immutable_of_page asid = record { same_size = λ entry. refl; follows = λ entry place. refl }

first_case : (update : Update) (first facts : RmpEntry) (place : ℕ) → makes_immutable update first ≡ true → with_immutable update.asid facts ≡ updated_facts update first place facts
unfolding updated_facts
first_case update first facts place is = sym (cond-true _ _ _ is)

second_case : (update : Update) (first facts : RmpEntry) (place : ℕ) → makes_immutable update first ≡ false → update.assigned ≡ false → free_entry ≡ updated_facts update first place facts
unfolding updated_facts
second_case update first facts place other free = sym (cond-false _ _ _ other ∙ cond-true _ _ _ (ap not free))

third_case : (update : Update) (first facts : RmpEntry) (place : ℕ) → makes_immutable update first ≡ false → update.assigned ≡ true → assigned_facts update place ≡ updated_facts update first place facts
unfolding updated_facts
third_case update first facts place other assigned = sym (cond-false _ _ _ other ∙ cond-false _ _ _ (ap not assigned))

assigned_within : (update : Update) (place : ℕ) → facts_within (assigned_facts update 0) place ≡ assigned_facts update place
unfolding assigned_facts
assigned_within update place = let e : update.gpn + 0 + place ≡ update.gpn + place = omega arith in λ i. record (assigned_facts update place) { gpn = e i }

base_of : (size : PageSize) (slot : ℕ) → (size ≡ Large → slot ≡ 0) → page_base size slot ≡ slot
base_of Small slot first = refl
base_of Large slot first = let none = first refl in omega arith

ends : (slot : ℕ) (size : PageSize) → slot + frames_in size ≤ 512 → slot < 512
ends slot Small inside = omega arith
ends slot Large inside = omega arith

pub immutable_facts : (rmp : Entries) (update : Update) (slot : ℕ) (first entry : RmpEntry) → IsTable rmp → IsRange rmp update slot → first ≡ facts_at rmp slot → first.size ≡ update.size → makes_immutable update first ≡ true → entry ≡ with_immutable update.asid first
    → with_entry (page_base entry.size slot) entry (facts_at rmp) ≡ over slot (frames_in update.size) (updated_facts update (facts_at rmp slot)) (facts_at rmp)
immutable_facts rmp update slot first entry table range first_is size is entry_is =
    let own : (facts_at rmp slot).size ≡ update.size = ap (λ (e : RmpEntry). e.size) (sym first_is) ∙ size in
    let base : page_base (facts_at rmp slot).size slot ≡ slot = base_of (facts_at rmp slot).size slot (λ large. range.first (sym own ∙ large)) in
    let count = ends slot update.size range.inside in
    page_changed rmp slot (with_immutable update.asid) entry table (omega (arith, count)) (immutable_of_page update.asid)
    (entry_is ∙ ap (with_immutable update.asid) first_is ∙ ap (λ (s : ℕ). with_immutable update.asid (facts_at rmp s)) (sym base))
    (ap (λ (e : RmpEntry). e.size) entry_is ∙ size ∙ sym own)
    ∙ (λ i. over (base i) (frames_in (own i)) (λ place. with_immutable update.asid) (facts_at rmp))
    ∙ over_alike slot (frames_in update.size) (λ place. with_immutable update.asid) (updated_facts update (facts_at rmp slot)) (facts_at rmp)
    (λ k low high. first_case update (facts_at rmp slot) (facts_at rmp k) (k - slot) (ap (makes_immutable update) (sym first_is) ∙ is))

-- a range has a frame
pub slot_below : (rmp : Entries) (update : Update) (slot : ℕ) → IsRange rmp update slot → slot < 512
slot_below rmp update slot range = ends slot update.size range.inside

pub free_facts : (rmp : Entries) (update : Update) (slot : ℕ) → makes_immutable update (facts_at rmp slot) ≡ false → update.assigned ≡ false
    → over slot (frames_in update.size) (λ place old. free_entry) (facts_at rmp) ≡ over slot (frames_in update.size) (updated_facts update (facts_at rmp slot)) (facts_at rmp)
free_facts rmp update slot other free =
    over_alike slot (frames_in update.size) (λ place old. free_entry) (updated_facts update (facts_at rmp slot)) (facts_at rmp) (λ k low high. second_case update (facts_at rmp slot) (facts_at rmp k) (k - slot) other free)

pub assigned_range : (rmp : Entries) (update : Update) (slot : ℕ) (entry : RmpEntry) → makes_immutable update (facts_at rmp slot) ≡ false → update.assigned ≡ true → entry ≡ assigned_facts update 0 → entry.size ≡ update.size
    → with_entry slot entry (facts_at rmp) ≡ over slot (frames_in update.size) (updated_facts update (facts_at rmp slot)) (facts_at rmp)
assigned_range rmp update slot entry other assigned is size =
    (λ i. over slot (frames_in (size i)) (λ place old. facts_within entry place) (facts_at rmp))
    ∙ over_alike slot (frames_in update.size) (λ place old. facts_within entry place) (updated_facts update (facts_at rmp slot)) (facts_at rmp)
    (λ k low high.
    ap (λ (e : RmpEntry). facts_within e (k - slot)) is ∙ assigned_within update (k - slot) ∙ third_case update (facts_at rmp slot) (facts_at rmp k) (k - slot) other assigned)

-- one frame becomes free, and all do
pub free_one : (rmp : Entries) (slot : ℕ) (entry : RmpEntry) → entry ≡ free_entry → entry.size ≡ Small → with_entry slot entry (facts_at rmp) ≡ over slot 1 (λ place old. free_entry) (facts_at rmp)
free_one rmp slot entry is small =
    (λ i. over slot (frames_in (small i)) (λ place old. facts_within entry place) (facts_at rmp))
    ∙ over_alike slot 1 (λ place old. facts_within entry place) (λ place old. free_entry) (facts_at rmp)
    (λ k low high. let none : k - slot ≡ 0 = omega arith in ap (facts_within entry) none ∙ within_first entry ∙ is)

beyond : (k : ℕ) → (0 ≤ k → k < 0 + 512 → ⊥) → 512 ≤ k
beyond k out = elim (cases_lt k 512) [ inl low ↦ absurd (out (omega arith) (omega arith)) | inr high ↦ high ]

pub free_every : (old new : Entries) (slot : ℕ) → IsTable old → slot ≡ 0 → ((s : ℕ) → facts_at new s ≡ free_entry) → facts_at new ≡ over slot 512 (λ place old. free_entry) (facts_at old)
free_every old new slot table first free =
    over_is (facts_at new) (facts_at old) slot 512 (λ place old. free_entry) (λ k low high. free k)
    (λ k out. free k ∙ sym (get_or_past old.facts k free_entry (omega (arith, beyond k (λ h l. out (omega (arith, first)) (omega (arith, first))), table.facts_count))))

-- ---- the whole commit

pub pages_are : (old new : Entries) (update : Update) (slot : ℕ) (memory written : List (List ℕ)) → AreUpdated old update slot memory written
    → facts_at new ≡ over slot (frames_in update.size) (updated_facts update (facts_at old slot)) (facts_at old)
    → region_pages written new ≡ pages_updated update (range_lock update.size slot) (region_pages memory old)
unfolding pages_updated
pages_are old new update slot memory written words facts =
    over_is (region_pages written new) (region_pages memory old) slot (frames_in update.size) (updated_page update (facts_at old slot))
    (λ k low high. λ i. record {
      facts = ((λ j. facts j k) ∙ over_in slot (frames_in update.size) (updated_facts update (facts_at old slot)) (facts_at old) k low high) i;
      words = words.here k low high i;
    })
    (λ k out. λ i. record {
      facts = ((λ j. facts j k) ∙ over_out slot (frames_in update.size) (updated_facts update (facts_at old slot)) (facts_at old) k out) i;
      words = words.there k out i;
    })

-- ---- PSMASH

smashed_free : free_entry ≡ smashed_facts free_entry
unfolding free_entry
smashed_free = refl

pub smashed_is : (old new : Entries) → IsTable old → (facts_at old 0).size ≡ Large → ((slot : ℕ) → facts_at new slot ≡ smashed_facts (facts_at old slot)) → facts_at new ≡ over_lock (page_lock (facts_at old 0).size 0) smashed_facts (facts_at old)
smashed_is old new table large all =
    over_is (facts_at new) (facts_at old) 0 512 (λ place. smashed_facts) (λ k low high. all k)
    (λ k out.
    let past : get_or old.facts k free_entry ≡ free_entry = get_or_past old.facts k free_entry (omega (arith, beyond k out, table.facts_count)) in
    all k ∙ ap smashed_facts past ∙ sym smashed_free ∙ sym past)
    ∙ ap (λ (s : PageSize). over_lock (page_lock s 0) smashed_facts (facts_at old)) (sym large)
