-- What the commit of a page_reclaim does to the pages of a guest: a page that no guest owns is given back empty, with its entries where it had any, and a page of a guest keeps what it holds.
use Rattle.std.proofs.Common.{◌≡◌, ◌≢◌, ℕ, length, refl, sym}
use Rattle.std.proofs.lemmas.Bool.{true≢false}
use Rattle.snp_model.specs.declared.entry.Kind.{Kind}
use Rattle.snp_model.specs.declared.entry.Kind.TheVariants as kinds
use Rattle.snp_model.specs.FirmwareCommits.{released, reclaim_facts, given_back_facts, reclaimed_as, reclaimed_page}
use Rattle.snp_model.specs.GuestMemory.{Memory, Untouched}
use Rattle.snp_model.specs.Live.{Archive}
use Rattle.snp_model.specs.Locks.{over_lock}
use Rattle.snp_model.specs.PageStates.{firmware_state}
use Rattle.snp_model.specs.State.{Page, PageLock, Contents}
use Rattle.run_laws.proofs.CoreLaws.{KindFits}
use Rattle.run_laws.proofs.OpeningLaws.{zero_length}
use Rattle.run_laws.proofs.PageStateLaws.{by_state}
use Rattle.run_laws.proofs.UpdateLaws.{Lessens, lessens_itself, lessens_fine, over_frames}
use Rattle.run_laws.proofs.UseLaws.{Before, Fine}

-- a frame after it
record IsReclaimed (asid : ℕ) (new old : Page) : Type 0 where
  lessens : Lessens asid new old
  whole : length new.words ≡ 512
  fits : KindFits new.facts

same_reclaimed : (asid : ℕ) (page : Page) → length page.words ≡ 512 → KindFits page.facts → IsReclaimed asid page page
same_reclaimed asid page whole fits = record { lessens = lessens_itself asid page; whole = whole; fits = fits }

released_reclaimed : (asid : ℕ) (page : Page) → IsReclaimed asid (released page) page
unfolding reclaim_facts
released_reclaimed asid page = record {
  lessens = record { held = λ gpn h. absurd (true≢false (sym h.validated)); metadata = λ is. absurd cc };
  whole = zero_length;
  fits = record { assigned = λ used_by. absurd (used_by refl); immutable = λ used_by. absurd (used_by refl); no_guest = λ used_by. absurd (used_by refl) };
}

given_back_reclaimed : (asid : ℕ) (page : Page) → length page.words ≡ 512 → KindFits page.facts → page.facts.asid ≢ 0 → IsReclaimed asid (record page { facts = given_back_facts page.facts }) page
unfolding given_back_facts
given_back_reclaimed asid page whole fits some = record {
  lessens = record { held = λ gpn h. (record { assigned = h.assigned; validated = h.validated; asid_is = h.asid_is; gpn_is = h.gpn_is }, refl); metadata = λ is. (is, refl) };
  whole = whole;
  fits = record { assigned = fits.assigned; immutable = λ used_by. absurd (some (fits.no_guest used_by)); no_guest = fits.no_guest };
}

firmwares_reclaimed : (asid : ℕ) (kind : Kind) (page : Page) → length page.words ≡ 512 → KindFits page.facts → IsReclaimed asid (reclaimed_as (firmware_state kind) page) page
firmwares_reclaimed asid kinds.Plain page whole fits = released_reclaimed asid page
firmwares_reclaimed asid kinds.Firmware page whole fits = released_reclaimed asid page
firmwares_reclaimed asid kinds.Context page whole fits = same_reclaimed asid page whole fits
firmwares_reclaimed asid kinds.Metadata page whole fits = released_reclaimed asid page

is_reclaimed : (asid : ℕ) (page : Page) → length page.words ≡ 512 → KindFits page.facts → IsReclaimed asid (reclaimed_page page) page
unfolding reclaimed_page
is_reclaimed asid page whole fits =
    let same = same_reclaimed asid page whole fits in
    by_state page.facts (λ state. IsReclaimed asid (reclaimed_as state page) page) (λ _. firmwares_reclaimed asid page.facts.kind page whole fits)
    (λ has. given_back_reclaimed asid page whole fits has.some) (λ has. given_back_reclaimed asid page whole fits has.some) same same same same

pub reclaim_fine : (guest asid : ℕ) (archive : Archive) (memory : Memory) (old : Contents) (lock : PageLock) → Before guest asid archive memory old
    → Fine guest asid archive memory old (record old { pages = over_lock lock reclaimed_page old.pages }) Untouched
reclaim_fine guest asid archive memory old lock before =
    let pages = old.pages in
    let change = λ (place : ℕ). reclaimed_page in
    let one = λ (f : ℕ). is_reclaimed asid (pages f) (before.whole f) (before.fits f) in
    lessens_fine guest asid archive memory old (over_lock lock reclaimed_page pages) before
    (over_frames (Lessens asid) lock.base lock.count change pages (λ f. lessens_itself asid (pages f)) (λ f inside. (one f).lessens))
    (over_frames (λ (new page : Page). length new.words ≡ 512) lock.base lock.count change pages before.whole (λ f inside. (one f).whole))
    (over_frames (λ (new page : Page). KindFits new.facts) lock.base lock.count change pages before.fits (λ f inside. (one f).fits))
