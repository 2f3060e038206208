-- At the opening each page of a guest has one holder, with the words of the guest's memory.
use Rattle.std.proofs.Common.{◌≡◌, ◌≢◌, ◌⊎◌, ℕ, zero, suc, ◌+◌, ◌-◌, true, false, ◌&&◌, eqb, List, [], ◌∷◌, length, map, get_or, slice_get, Option, Some, None, refl, sym, ap, ◌∙◌, ⊎_elim, inl, inr, arith}
use Rattle.std.specs.FinMap.{get, empty}
use Rattle.std.specs.List.{AllByRecursion}
use Rattle.std.proofs.lemmas.Bool.{cond_both, cases_Bool, eqb-true, eqb-false, and_parts, and_cases, true≢false}
use Rattle.std.proofs.lemmas.Bool.Decides.{nat_tests}
use Rattle.std.proofs.lemmas.List.{length-set}
use Rattle.snp_model.specs.declared.entry.Kind.{Kind}
use Rattle.snp_model.specs.declared.entry.Kind.TheVariants as kinds
use Rattle.snp_model.specs.declared.entry.RmpEntry.{RmpEntry}
use Rattle.snp_model.specs.declared.firmware.MetaEntry.{MetaEntry}
use Rattle.snp_model.specs.declared.scenario.GuestSpec.{GuestSpec}
use Rattle.snp_model.specs.declared.scenario.PageSpec.{PageSpec}
use Rattle.snp_model.specs.declared.scenario.WordSpec.{WordSpec}
use Rattle.snp_model.specs.Facts.{free_entry}
use Rattle.snp_model.specs.Locks.{in_range}
use Rattle.snp_model.specs.State.{Pages, zero_words}
use Rattle.snp_model.specs.Sound.{Pairwise}
use Rattle.snp_model.specs.Facts.{frames_in}
use Rattle.snp_model.specs.Opening.{asid_of, page_facts, with_page, facts_from, with_word_spec, words_from, opening_context}
use Rattle.snp_model.specs.GuestMemory.{Memory, IsHeld, known, with_frames, with_line, with_lines}
use Rattle.snp_model.specs.Live.{Archive, InEntry, InRoot, Under}
use Rattle.snp_model.specs.Holders.{IsHeldAs}
use Rattle.run_laws.proofs.CoreLaws.{FrameCore, IsDead, AreFit}
use Rattle.run_laws.proofs.MemoryLaws.{with_frames_holds, with_frames_keeps, with_frames_known, known_before, empty_known}

-- pages with these facts and words
abbrev pub pages_with : (ℕ → RmpEntry) → (ℕ → List ℕ) → Pages
pages_with facts words f = record { facts = facts f; words = words f }

-- a page line's guest page numbers are not held yet
pub record IsLacking (guest : ℕ) (memory : Memory) (page : PageSpec) : Type 0 where
  pub lacks : (q : ℕ) → page.guest ≡ guest → in_range page.gpn (frames_in page.size) q ≡ true → get memory q ≡ None

-- another guest's page line has another ASID
pub record IsApartFrom (guests : List GuestSpec) (guest : ℕ) (page : PageSpec) : Type 0 where
  pub other : page.guest ≢ guest → asid_of guests page.guest ≢ asid_of guests guest

-- two page lines of one guest have no guest page number in common
pub record RangesApart (page other : PageSpec) : Type 0 where
  pub apart : (q : ℕ) → page.guest ≡ other.guest → in_range page.gpn (frames_in page.size) q ≡ true → in_range other.gpn (frames_in other.size) q ≡ true → ⊥

-- the facts of a frame with one more page: the page's, or those before
pub page_or_before : (guests : List GuestSpec) (page : PageSpec) (facts : ℕ → RmpEntry) (f : ℕ) (P : RmpEntry → Type 0)
    → (in_range page.frame (frames_in page.size) f ≡ true → P (page_facts guests page (f - page.frame))) → P (facts f) → P (with_page guests page facts f)
page_or_before guests page facts f P inside otherwise = cond_both (in_range page.frame (frames_in page.size) f) _ _ P inside (λ _. otherwise)

-- a frame of the page, as a holder
pub record IsNewAt (page : PageSpec) (q f : ℕ) : Type 0 where
  pub inside : in_range page.gpn (frames_in page.size) q ≡ true
  pub frame_is : f ≡ page.frame + (q - page.gpn)

new_at : (page : PageSpec) (q f : ℕ) → in_range page.frame (frames_in page.size) f ≡ true → page.gpn + (f - page.frame) ≡ q → IsNewAt page q f
new_at page q f inside is = record { inside = grind (arith, nat_tests); frame_is = grind (arith, nat_tests) }

page_gpn : (guests : List GuestSpec) (page : PageSpec) (place asid q : ℕ) → IsHeldAs (page_facts guests page place) asid q → page.gpn + place ≡ q
unfolding page_facts
page_gpn guests page place asid q h = h.gpn_is

page_asid : (guests : List GuestSpec) (page : PageSpec) (place asid q : ℕ) → IsHeldAs (page_facts guests page place) asid q → asid_of guests page.guest ≡ asid
unfolding page_facts
page_asid guests page place asid q h = h.asid_is

page_valid : (guests : List GuestSpec) (page : PageSpec) (place asid q : ℕ) → IsHeldAs (page_facts guests page place) asid q → page.valid ≡ true
unfolding page_facts
page_valid guests page place asid q h = h.validated

-- a holder with one more page is a frame of the page, or held before
new_or_before : (guests : List GuestSpec) (page : PageSpec) (facts : ℕ → RmpEntry) (asid q f : ℕ)
    → IsHeldAs (with_page guests page facts f) asid q → IsNewAt page q f ⊎ IsHeldAs (facts f) asid q
new_or_before guests page facts asid q f =
    page_or_before guests page facts f (λ (found : RmpEntry). IsHeldAs found asid q → IsNewAt page q f ⊎ IsHeldAs (facts f) asid q)
    (λ inside h. inl (new_at page q f inside (page_gpn guests page (f - page.frame) asid q h)))
    (λ h. inr h)

-- a page line that gives the guest nothing makes no holder of it
none_new : (guests : List GuestSpec) (guest : ℕ) (page : PageSpec) (facts : ℕ → RmpEntry) (q f : ℕ) → IsApartFrom guests guest page → (page.valid && eqb page.guest guest) ≡ false
    → IsHeldAs (with_page guests page facts f) (asid_of guests guest) q → IsHeldAs (facts f) (asid_of guests guest) q
none_new guests guest page facts q f apart none =
    page_or_before guests page facts f (λ (found : RmpEntry). IsHeldAs found (asid_of guests guest) q → IsHeldAs (facts f) (asid_of guests guest) q)
    (λ inside h.
    let valid = page_valid guests page (f - page.frame) (asid_of guests guest) q h in
    let same = page_asid guests page (f - page.frame) (asid_of guests guest) q h in
    absurd (⊎_elim (λ (invalid : page.valid ≡ false). true≢false (sym valid ∙ invalid))
    (λ (different : eqb page.guest guest ≡ false). apart.other (eqb-false page.guest guest different) same)
    (and_cases page.valid (eqb page.guest guest) none)))
    (λ h. h)

-- a valid page line of the guest
outside_held : (page : PageSpec) (guest q : ℕ) (memory : Memory) → page.guest ≡ guest → IsLacking guest memory page → IsHeld memory q → in_range page.gpn (frames_in page.size) q ≡ false
outside_held page guest q memory mine lacking held =
    ⊎_elim (λ (inside : in_range page.gpn (frames_in page.size) q ≡ true). absurd (held (lacking.lacks q mine inside))) (λ outside. outside) (cases_Bool (in_range page.gpn (frames_in page.size) q))

new_unique : (guests : List GuestSpec) (guest : ℕ) (page : PageSpec) (facts : ℕ → RmpEntry) (words : ℕ → List ℕ) (memory : Memory)
    → page.guest ≡ guest → IsLacking guest memory page → FrameCore (pages_with facts words) (asid_of guests guest) memory
    → (q f g : ℕ) → IsHeldAs (with_page guests page facts f) (asid_of guests guest) q → IsHeldAs (with_page guests page facts g) (asid_of guests guest) q → f ≡ g
new_unique guests guest page facts words memory mine lacking core q f g hx hy =
    let asid = asid_of guests guest in
    let fresh = λ (k l : ℕ) (a : IsNewAt page q k) (b : IsHeldAs (facts l) asid q). core.held q l b (lacking.lacks q mine a.inside) in
    ⊎_elim
    (λ (a : IsNewAt page q f).
    ⊎_elim (λ (b : IsNewAt page q g). a.frame_is ∙ sym b.frame_is) (λ (b : IsHeldAs (facts g) asid q). absurd (fresh f g a b)) (new_or_before guests page facts asid q g hy))
    (λ (a : IsHeldAs (facts f) asid q).
    ⊎_elim (λ (b : IsNewAt page q g). absurd (fresh g f b a)) (λ (b : IsHeldAs (facts g) asid q). core.unique q f g a b) (new_or_before guests page facts asid q g hy))
    (new_or_before guests page facts asid q f hx)

new_agree : (guests : List GuestSpec) (guest : ℕ) (page : PageSpec) (facts : ℕ → RmpEntry) (words : ℕ → List ℕ) (memory : Memory)
    → page.guest ≡ guest → IsLacking guest memory page → FrameCore (pages_with facts words) (asid_of guests guest) memory
    → (q f index word : ℕ) → IsHeldAs (with_page guests page facts f) (asid_of guests guest) q
    → known (with_frames words page.frame page.gpn (frames_in page.size) memory) q index ≡ Some word
    → get_or (words f) index 0 ≡ word
new_agree guests guest page facts words memory mine lacking core q f index word hx k =
    let asid = asid_of guests guest in
    let n = frames_in page.size in
    ⊎_elim
    (λ (a : IsNewAt page q f).
    ap (λ (g : ℕ). get_or (words g) index 0) a.frame_is ∙ with_frames_known words n page.frame page.gpn memory q index word a.inside k)
    (λ (a : IsHeldAs (facts f) asid q).
    let outside = outside_held page guest q memory mine lacking (core.held q f a) in
    core.agree q f index word a (known_before words n page.frame page.gpn memory q index word outside k))
    (new_or_before guests page facts asid q f hx)

new_held : (guests : List GuestSpec) (guest : ℕ) (page : PageSpec) (facts : ℕ → RmpEntry) (words : ℕ → List ℕ) (memory : Memory)
    → page.guest ≡ guest → IsLacking guest memory page → FrameCore (pages_with facts words) (asid_of guests guest) memory
    → (q f : ℕ) → IsHeldAs (with_page guests page facts f) (asid_of guests guest) q
    → IsHeld (with_frames words page.frame page.gpn (frames_in page.size) memory) q
new_held guests guest page facts words memory mine lacking core q f hx =
    let asid = asid_of guests guest in
    let n = frames_in page.size in
    ⊎_elim
    (λ (a : IsNewAt page q f). with_frames_holds words n page.frame page.gpn memory q a.inside)
    (λ (a : IsHeldAs (facts f) asid q).
    let held = core.held q f a in
    let outside = outside_held page guest q memory mine lacking held in
    λ none. held (sym (with_frames_keeps words n page.frame page.gpn memory q outside) ∙ none))
    (new_or_before guests page facts asid q f hx)

-- one more page line
line_core : (guests : List GuestSpec) (guest : ℕ) (page : PageSpec) (facts : ℕ → RmpEntry) (words : ℕ → List ℕ) (memory : Memory)
    → IsApartFrom guests guest page → IsLacking guest memory page → FrameCore (pages_with facts words) (asid_of guests guest) memory
    → FrameCore (pages_with (with_page guests page facts) words) (asid_of guests guest) (with_line guest words page memory)
unfolding with_line
line_core guests guest page facts words memory apart lacking core =
    let new = pages_with (with_page guests page facts) words in
    let asid = asid_of guests guest in
    cond_both (page.valid && eqb page.guest guest) _ _ (FrameCore new asid)
    (λ gives.
    let mine = eqb-true page.guest guest (and_parts page.valid (eqb page.guest guest) gives).1 in
    record {
      unique = new_unique guests guest page facts words memory mine lacking core;
      held = new_held guests guest page facts words memory mine lacking core;
      agree = new_agree guests guest page facts words memory mine lacking core;
    })
    (λ none.
    let before = λ (q f : ℕ). none_new guests guest page facts q f apart none in
    record {
      unique = λ q f g hx hy. core.unique q f g (before q f hx) (before q g hy);
      held = λ q f hx. core.held q f (before q f hx);
      agree = λ q f index word hx k. core.agree q f index word (before q f hx) k;
    })

-- the page lines after it still find nothing held
still_lacking : (guest : ℕ) (words : ℕ → List ℕ) (page other : PageSpec) (memory : Memory) → RangesApart page other → IsLacking guest memory other → IsLacking guest (with_line guest words page memory) other
unfolding with_line
still_lacking guest words page other memory apart lacking = record {
  lacks = λ q mine inside.
      cond_both (page.valid && eqb page.guest guest) _ _ (λ (found : Memory). get found q ≡ None)
      (λ gives.
      let own = eqb-true page.guest guest (and_parts page.valid (eqb page.guest guest) gives).1 in
      let n = frames_in page.size in
      ⊎_elim
      (λ (within : in_range page.gpn n q ≡ true). absurd (apart.apart q (own ∙ sym mine) within inside))
      (λ (outside : in_range page.gpn n q ≡ false). with_frames_keeps words n page.frame page.gpn memory q outside ∙ lacking.lacks q mine inside)
      (cases_Bool (in_range page.gpn n q)))
      (λ _. lacking.lacks q mine inside);
}

still_lacking_all : (guest : ℕ) (words : ℕ → List ℕ) (page : PageSpec) (others : List PageSpec) (memory : Memory)
    → AllByRecursion (RangesApart page) others → AllByRecursion (IsLacking guest memory) others → AllByRecursion (IsLacking guest (with_line guest words page memory)) others
still_lacking_all guest words page [] memory apart lacking = tt
still_lacking_all guest words page (other ∷ others) memory apart lacking =
    (still_lacking guest words page other memory apart.0 lacking.0, still_lacking_all guest words page others memory apart.1 lacking.1)

-- all page lines
lines_core : (guests : List GuestSpec) (guest : ℕ) (lines : List PageSpec) (facts : ℕ → RmpEntry) (words : ℕ → List ℕ) (memory : Memory)
    → AllByRecursion (IsApartFrom guests guest) lines → Pairwise RangesApart lines → AllByRecursion (IsLacking guest memory) lines
    → FrameCore (pages_with facts words) (asid_of guests guest) memory
    → FrameCore (pages_with (facts_from guests facts lines) words) (asid_of guests guest) (with_lines guest words lines memory)
unfolding facts_from with_lines
lines_core guests guest [] facts words memory apart ranges lacking core = core
lines_core guests guest (page ∷ pages) facts words memory apart ranges lacking core =
    lines_core guests guest pages (with_page guests page facts) words (with_line guest words page memory) apart.1 ranges.1
    (still_lacking_all guest words page pages memory ranges.0 lacking.1)
    (line_core guests guest page facts words memory apart.0 lacking.0 core)

-- no frame is assigned, and no page is held, before the page lines
free_holds : (asid gpn : ℕ) → IsHeldAs free_entry asid gpn → ⊥
unfolding free_entry
free_holds asid gpn h = true≢false (sym h.assigned)

free_core : (words : ℕ → List ℕ) (asid : ℕ) (memory : Memory) → FrameCore (pages_with (λ _. free_entry) words) asid memory
free_core words asid memory = record {
  unique = λ gpn f g hx hy. absurd (free_holds asid gpn hx);
  held = λ gpn f h. absurd (free_holds asid gpn h);
  agree = λ gpn f index word h k. absurd (free_holds asid gpn h);
}

none_lacking : (guest : ℕ) (lines : List PageSpec) → AllByRecursion (IsLacking guest empty) lines
none_lacking guest [] = tt
none_lacking guest (page ∷ pages) = (record { lacks = λ q mine inside. empty_known q }, none_lacking guest pages)

pub opening_core : (guests : List GuestSpec) (guest : ℕ) (lines : List PageSpec) (words : ℕ → List ℕ)
    → AllByRecursion (IsApartFrom guests guest) lines → Pairwise RangesApart lines
    → FrameCore (pages_with (facts_from guests (λ _. free_entry) lines) words) (asid_of guests guest) (with_lines guest words lines empty)
opening_core guests guest lines words apart ranges =
    lines_core guests guest lines (λ _. free_entry) words empty apart ranges (none_lacking guest lines) (free_core words (asid_of guests guest) empty)

-- no frame is used by the firmware
facts_plain : (guests : List GuestSpec) (lines : List PageSpec) (facts : ℕ → RmpEntry) → ((f : ℕ) → (facts f).kind ≡ kinds.Plain) → (f : ℕ) → (facts_from guests facts lines f).kind ≡ kinds.Plain
unfolding facts_from page_facts
facts_plain guests [] facts plain f = plain f
facts_plain guests (page ∷ pages) facts plain f =
    facts_plain guests pages (with_page guests page facts) (λ g. page_or_before guests page facts g (λ (found : RmpEntry). found.kind ≡ kinds.Plain) (λ _. refl) (plain g)) f

free_plain : free_entry.kind ≡ kinds.Plain
unfolding free_entry
free_plain = refl

pub opening_plain : (guests : List GuestSpec) (lines : List PageSpec) (f : ℕ) → (facts_from guests (λ _. free_entry) lines f).kind ≡ kinds.Plain
opening_plain guests lines f = facts_plain guests lines (λ _. free_entry) (λ _. free_plain) f

pub opening_fits : (guests : List GuestSpec) (lines : List PageSpec) (words : ℕ → List ℕ) → AreFit (pages_with (facts_from guests (λ _. free_entry) lines) words)
opening_fits guests lines words f =
    let plain = opening_plain guests lines f in
    record { assigned = λ other. absurd (other plain); immutable = λ other. absurd (other plain); no_guest = λ other. absurd (other plain) }

-- and no entry is live
pub no_root : (spec : Option GuestSpec) → (opening_context spec).root ≡ None
unfolding opening_context
no_root None = refl
no_root (Some spec) = refl

pub some_none : (entry : MetaEntry) (root : Option MetaEntry) → root ≡ Some entry → root ≡ None → ⊥
some_none entry root a b = cc

pub plain_metadata : (kind : Kind) → kind ≡ kinds.Metadata → kind ≡ kinds.Plain → ⊥
plain_metadata kind a b = cc

pub opening_dead : (guests : List GuestSpec) (guest : ℕ) (lines : List PageSpec) (words : ℕ → List ℕ) (asid : ℕ) (archive : Archive)
    → IsDead asid (record { pages = pages_with (facts_from guests (λ _. free_entry) lines) words; context = opening_context (slice_get guests (guest - 1)); archive = archive })
opening_dead guests guest lines words asid archive (InEntry f number) entry live = plain_metadata _ live.metadata (opening_plain guests lines f)
opening_dead guests guest lines words asid archive InRoot entry live = some_none entry _ live (no_root (slice_get guests (guest - 1)))
opening_dead guests guest lines words asid archive (Under s number) entry live = opening_dead guests guest lines words asid archive s live.0 live.1

-- every frame has its 512 words
pub zero_length : length zero_words ≡ 512
unfolding zero_words
zero_length = refl

words_whole : (lines : List WordSpec) (words : ℕ → List ℕ) → ((f : ℕ) → length (words f) ≡ 512) → (f : ℕ) → length (words_from words lines f) ≡ 512
unfolding words_from
words_whole [] words whole f = whole f
words_whole (word ∷ others) words whole f = words_whole others (with_word_spec word words) (λ g. cond_both (eqb word.frame g) _ _ (λ (ws : List ℕ). length ws ≡ 512) (λ _. length-set (words g) word.index word.value ∙ whole g) (λ _. whole g)) f

pub opening_whole : (lines : List WordSpec) (f : ℕ) → length (words_from (λ _. zero_words) lines f) ≡ 512
opening_whole lines f = words_whole lines (λ _. zero_words) (λ _. zero_length) f

-- a guest's context has its ASID
context_asid : (guests : List GuestSpec) (k : ℕ) → (opening_context (slice_get guests k)).asid ≡ get_or (map (λ (spec : GuestSpec). spec.asid) guests) k 0
unfolding opening_context
context_asid [] k = refl
context_asid (spec ∷ guests) zero = refl
context_asid (spec ∷ guests) (suc k) = context_asid guests k

pub opening_asid : (guests : List GuestSpec) (guest : ℕ) → (opening_context (slice_get guests (guest - 1))).asid ≡ asid_of guests guest
opening_asid guests guest = context_asid guests (guest - 1)
