-- Frames whose facts go together and whose words are full stay so at each access and at each commit of an instruction of the RMP.
use Rattle.std.proofs.Common.{◌≡◌, ◌≢◌, ℕ, ◌+◌, ◌-◌, ◌^◌, ◌<◌, ◌≤◌, Bool, true, eqb, List, refl, sym, ap, ◌∙◌, subst, arith, set}
use Rattle.std.proofs.lemmas.Bool.{cond_both}
use Rattle.std.proofs.lemmas.Bool.Decides.{nat_tests}
use Rattle.std.proofs.lemmas.List.{length-set}
use Rattle.std.proofs.lemmas.Nat.{xor_lt}
use Rattle.snp_model.specs.declared.entry.PageSize.{PageSize}
use Rattle.snp_model.specs.declared.entry.PageSize.TheVariants.{Small, Large}
use Rattle.snp_model.specs.declared.entry.RmpEntry.{RmpEntry}
use Rattle.snp_model.specs.declared.item.Op.{Op}
use Rattle.snp_model.specs.declared.item.Op.TheVariants.{Load, Store, Swap, Compare, Xor}
use Rattle.snp_model.specs.declared.item.Update.{Update}
use Rattle.snp_model.specs.Bounds.{IsUpdate}
use Rattle.snp_model.specs.Facts.{frames_in}
use Rattle.snp_model.specs.Locks.{in_range, covers, page_lock}
use Rattle.snp_model.specs.RmpUpdate.{makes_immutable, updated_words, updated_page, pages_updated, smashed_page, pages_smashed}
use Rattle.snp_model.specs.State.{Page, Pages, PageLock, Contents, zero_words, with_word}
use Rattle.snp_model.specs.Step.{pages_after}
use Rattle.snp_model.specs.Validation.{validated_page, pages_validated, adjusted_page, pages_adjusted}
use Rattle.run_laws.specs.HeldLocks.{IsUpdateLock}
use Rattle.run_laws.specs.Operands.{AreWordsOf}
use Rattle.run_laws.specs.Shapes.{AreFactsOf}
use Rattle.run_laws.specs.Uniqueness.{IsFull}
use Rattle.run_laws.proofs.ChangeLaws.{IsPageOf}
use Rattle.run_laws.proofs.CoreLaws.{with_word_facts}
use Rattle.run_laws.proofs.EntryWords.{zeros_are_words}
use Rattle.run_laws.proofs.FitFacts.{updated_fit, smashed_fit, validated_fit, adjusted_fit}
use Rattle.run_laws.proofs.LargePages.{AreLargeWhole, same_facts_whole}
use Rattle.run_laws.proofs.LockLaws.{small_covered, page_region}
use Rattle.run_laws.proofs.OpeningParts.{set_fit}
use Rattle.run_laws.proofs.TestedRanges.{are_updatable}
use Rattle.run_laws.proofs.UpdateLaws.{over_frames}

-- the facts of a frame go together, and its words are full
pub record IsFitPage (page : Page) : Type 0 where
  pub facts : AreFactsOf page.facts
  pub words : IsFull page.words

abbrev pub AreFitPages : Pages → Type 0
AreFitPages pages = (f : ℕ) → IsFitPage (pages f)

pub zeros_full : IsFull zero_words
unfolding zero_words
zeros_full = record { whole = refl; fits = zeros_are_words 512 }

-- a word is written
set_full : (words : List ℕ) (index value : ℕ) → value < 2 ^ 64 → IsFull words → IsFull (set words index value)
set_full words index value small full = record { whole = length-set words index value ∙ full.whole; fits = λ k. set_fit words index value k small full.fits }

written_fit : (frame index value : ℕ) (pages : Pages) → value < 2 ^ 64 → AreFitPages pages → AreFitPages (with_word frame index value pages)
written_fit frame index value pages small fit f =
    cond_both (eqb frame f) _ _ IsFitPage (λ _. record { facts = (fit f).facts; words = set_full (pages f).words index value small (fit f).words }) (λ _. fit f)

pub access_fit : (op : Op) (frame index word : ℕ) (pages : Pages) → AreWordsOf op → word < 2 ^ 64 → AreFitPages pages → AreFitPages (pages_after op frame index word pages)
access_fit Load frame index word pages small found fit = fit
access_fit (Store value) frame index word pages small found fit = written_fit frame index value pages small fit
access_fit (Swap value) frame index word pages small found fit = written_fit frame index value pages small fit
access_fit (Compare expected next) frame index word pages small found fit =
    written_fit frame index _ pages (cond_both (eqb word expected) next word (λ (value : ℕ). value < 2 ^ 64) (λ _. small) (λ _. found)) fit
access_fit (Xor value) frame index word pages small found fit = written_fit frame index _ pages (xor_lt 64 word value found small) fit

pub access_large : (op : Op) (frame index word : ℕ) (pages : Pages) → AreLargeWhole pages → AreLargeWhole (pages_after op frame index word pages)
access_large Load frame index word pages whole = whole
access_large (Store value) frame index word pages whole = same_facts_whole pages _ (with_word_facts frame index value pages) whole
access_large (Swap value) frame index word pages whole = same_facts_whole pages _ (with_word_facts frame index value pages) whole
access_large (Compare expected next) frame index word pages whole = same_facts_whole pages _ (with_word_facts frame index _ pages) whole
access_large (Xor value) frame index word pages whole = same_facts_whole pages _ (with_word_facts frame index _ pages) whole

-- the place of a frame in a range
near : (size : PageSize) (base f : ℕ) → in_range base (frames_in size) f ≡ true → f - base < 512
near Small base f inside =
    let low : base ≤ f = grind (arith, nat_tests) in
    let high : f < base + 1 = grind (arith, nat_tests) in
    omega arith
near Large base f inside =
    let low : base ≤ f = grind (arith, nat_tests) in
    let high : f < base + 512 = grind (arith, nat_tests) in
    omega arith

-- RMPUPDATE
updated_full : (update : Update) (first facts : RmpEntry) (words : List ℕ) → IsFull words → IsFull (updated_words update first facts words)
unfolding updated_words
updated_full update first facts words full =
    cond_both (makes_immutable update first) _ _ IsFull (λ _. full) (λ _. cond_both facts.assigned zero_words words IsFull (λ _. zeros_full) (λ _. full))

pub update_fit : (frames : ℕ) (contents : Contents) (update : Update) (lock : PageLock) → IsUpdate update → IsUpdateLock frames contents update lock → AreLargeWhole contents.pages → AreFitPages contents.pages
    → AreFitPages (pages_updated update lock contents.pages)
unfolding pages_updated
update_fit frames contents update lock fits tested whole fit =
    let pages = contents.pages in
    let first = (pages lock.base).facts in
    let may = are_updatable frames contents update lock tested whole in
    over_frames (λ (new old : Page). IsFitPage new) lock.base lock.count (updated_page update first) pages fit
    (λ f inside.
    let place = near update.size lock.base f (subst (λ (n : ℕ). in_range lock.base n f ≡ true) (ap (λ (l : PageLock). l.count) tested.covers) inside) in
    record {
      facts = updated_fit update first (f - lock.base) (pages f).facts fits place (may f inside) (fit f).facts;
      words = updated_full update first (pages f).facts (pages f).words (fit f).words;
    })

-- PSMASH
pub smash_fit : (lock : PageLock) (pages : Pages) → AreFitPages pages → AreFitPages (pages_smashed lock pages)
unfolding pages_smashed
smash_fit lock pages fit =
    over_frames (λ (new old : Page). IsFitPage new) lock.base lock.count (λ (place : ℕ). smashed_page) pages fit
    (λ f inside. record { facts = smashed_fit (pages f).facts (fit f).facts; words = (fit f).words })

-- each frame of a locked page has the page's ASID
page_asid : (pages : Pages) (frame asid : ℕ) (size : PageSize) → (pages frame).facts.size ≡ size → (pages frame).facts.asid ≡ asid → AreLargeWhole pages
    → (f : ℕ) → covers f (page_lock size frame) ≡ true → (pages f).facts.asid ≡ asid
page_asid pages frame asid Small is owner whole f inside = ap (λ (k : ℕ). (pages k).facts.asid) (small_covered frame f inside) ∙ owner
page_asid pages frame asid Large is owner whole f inside = ap (λ (x : RmpEntry). x.asid) (whole.together frame f is (page_region frame f inside)).alike ∙ owner

locked_asid : (contents : Contents) (asid : ℕ) (lock : PageLock) → IsPageOf contents asid lock → AreLargeWhole contents.pages → (f : ℕ) → covers f lock ≡ true → (contents.pages f).facts.asid ≡ asid
locked_asid contents asid lock is whole f inside =
    page_asid contents.pages lock.frame asid (contents.pages lock.frame).facts.size refl is.asid_is whole f (subst (λ (l : PageLock). covers f l ≡ true) is.covers inside)

-- PVALIDATE
pub validate_fit : (contents : Contents) (asid : ℕ) (validate : Bool) (own : RmpEntry) (lock : PageLock) → asid ≢ 0 → IsPageOf contents asid lock → AreLargeWhole contents.pages → AreFitPages contents.pages
    → AreFitPages (pages_validated validate own lock contents.pages)
unfolding pages_validated
validate_fit contents asid validate own lock some is whole fit =
    let pages = contents.pages in
    over_frames (λ (new old : Page). IsFitPage new) lock.base lock.count (λ (place : ℕ). validated_page validate own) pages fit
    (λ f inside. record {
      facts = validated_fit validate own (pages f).facts (λ none. some (sym (locked_asid contents asid lock is whole f inside) ∙ none)) (fit f).facts;
      words = (fit f).words;
    })

-- RMPADJUST
pub adjust_fit : (vmpl target mask : ℕ) (vmsa : Bool) (lock : PageLock) (pages : Pages) → mask < 2 ^ 8 → AreFitPages pages → AreFitPages (pages_adjusted vmpl target mask vmsa lock pages)
unfolding pages_adjusted
adjust_fit vmpl target mask vmsa lock pages small fit =
    over_frames (λ (new old : Page). IsFitPage new) lock.base lock.count (λ (place : ℕ). adjusted_page vmpl target mask vmsa) pages fit
    (λ f inside. record { facts = adjusted_fit vmpl target mask vmsa (pages f).facts small (fit f).facts; words = (fit f).words })
