-- What the commit of a launch_update does to the pages of a guest, and to what the guest's memory holds: a page that is launched for the guest becomes held, with the words that its frame then has; another guest's launch leaves all.
use Rattle.std.proofs.Common.{◌≡◌, ◌≢◌, ◌⊎◌, ℕ, true, false, eqb, List, length, map, Some, refl, inl, inr, arith}
use Rattle.std.proofs.lemmas.Bool.{cond_both}
use Rattle.std.proofs.lemmas.Bool.Decides.{nat_tests}
use Rattle.snp_model.specs.declared.entry.Kind.TheVariants as kinds
use Rattle.snp_model.specs.declared.entry.RmpEntry.{RmpEntry}
use Rattle.snp_model.specs.FirmwareCommits.{at_frame, launched_facts, launched_words, launched_page}
use Rattle.snp_model.specs.GuestMemory.{Memory, Untouched, Launches, used}
use Rattle.snp_model.specs.Holders.{IsHeldAs}
use Rattle.snp_model.specs.Live.{Archive, vault_of}
use Rattle.snp_model.specs.Locks.{in_range}
use Rattle.snp_model.specs.State.{Page, Pages, Contents, zero_words}
use Rattle.run_laws.proofs.AcceptLaws.{LacksRange, FramesGain, frames_gain}
use Rattle.run_laws.proofs.CoreLaws.{KindFits, AreFit}
use Rattle.run_laws.proofs.MemoryLaws.{map_some_at}
use Rattle.run_laws.proofs.OpeningLaws.{zero_length}
use Rattle.run_laws.proofs.PageStateLaws.{IsPrepared}
use Rattle.run_laws.proofs.PageUseLaws.{at_each}
use Rattle.run_laws.proofs.UpdateLaws.{KeepsMetadata, Lessens, lessens_itself, lessens_fine}
use Rattle.run_laws.proofs.UseLaws.{AreWhole, metadata_not_plain, Before, Fine}

-- memory with a launched page
abbrev pub launched_at : ℕ → ℕ → List ℕ → Pages → Pages
launched_at frame page_type perms pages = at_frame frame (launched_page page_type perms (pages frame)) pages

-- a page of a guest is no metadata page
pub owned_no_metadata : (facts : RmpEntry) → KindFits facts → facts.asid ≢ 0 → facts.kind ≡ kinds.Metadata → ⊥
owned_no_metadata facts fits some is = some (fits.no_guest (λ plain. metadata_not_plain facts.kind is plain))

launched_metadata : (page_type : ℕ) (perms : List ℕ) (page : Page) → KindFits page.facts → page.facts.asid ≢ 0 → KeepsMetadata (launched_page page_type perms page) page
unfolding launched_facts
launched_metadata page_type perms page fits some is = absurd (owned_no_metadata page.facts fits some is)

-- a page that may be the launched one holds a page as before, or it is launched at its guest page number
launched_gpn : (perms : List ℕ) (facts : RmpEntry) (asid gpn : ℕ) → IsHeldAs (launched_facts perms facts) asid gpn → facts.gpn ≡ gpn
unfolding launched_facts
launched_gpn perms facts asid gpn h = h.gpn_is

launched_asid : (perms : List ℕ) (facts : RmpEntry) (asid gpn : ℕ) → IsHeldAs (launched_facts perms facts) asid gpn → facts.asid ≡ asid
unfolding launched_facts
launched_asid perms facts asid gpn h = h.asid_is

launched_fits : (perms : List ℕ) (facts : RmpEntry) → KindFits facts → facts.asid ≢ 0 → KindFits (launched_facts perms facts)
unfolding launched_facts
launched_fits perms facts fits some = record { assigned = fits.assigned; immutable = λ used_by. absurd (some (fits.no_guest used_by)); no_guest = fits.no_guest }

launched_length : (page_type : ℕ) (words : List ℕ) → length words ≡ 512 → length (launched_words page_type words) ≡ 512
unfolding launched_words
launched_length page_type words whole = cond_both (eqb page_type 3) zero_words words (λ (ws : List ℕ). length ws ≡ 512) (λ _. zero_length) (λ _. whole)

are_whole : (frame page_type : ℕ) (perms : List ℕ) (pages : Pages) → AreWhole pages → AreWhole (launched_at frame page_type perms pages)
are_whole frame page_type perms pages whole =
    at_each (λ f new. length new.words ≡ 512) frame (launched_page page_type perms (pages frame)) pages (launched_length page_type (pages frame).words (whole frame)) (λ f _. whole f)

are_fit : (frame page_type : ℕ) (perms : List ℕ) (pages : Pages) → (pages frame).facts.asid ≢ 0 → AreFit pages → AreFit (launched_at frame page_type perms pages)
are_fit frame page_type perms pages some fits =
    at_each (λ f new. KindFits new.facts) frame (launched_page page_type perms (pages frame)) pages (launched_fits perms (pages frame).facts (fits frame) some) (λ f _. fits f)

-- another guest's launch
pub launch_other : (guest asid : ℕ) (archive : Archive) (memory : Memory) (old : Contents) (frame page_type : ℕ) (perms : List ℕ) → Before guest asid archive memory old
    → IsPrepared (old.pages frame).facts false → (old.pages frame).facts.asid ≢ asid
    → Fine guest asid archive memory old (record old { pages = launched_at frame page_type perms old.pages }) Untouched
launch_other guest asid archive memory old frame page_type perms before has other =
    let page = old.pages frame in
    lessens_fine guest asid archive memory old (launched_at frame page_type perms old.pages) before
    (at_each (λ f new. Lessens asid new (old.pages f)) frame (launched_page page_type perms page) old.pages
    (record {
      held = λ gpn h. absurd (other (launched_asid perms page.facts asid gpn h));
      metadata = launched_metadata page_type perms page (before.fits frame) has.some;
    })
    (λ f _. lessens_itself asid (old.pages f)))
    (are_whole frame page_type perms old.pages before.whole)
    (are_fit frame page_type perms old.pages has.some before.fits)

-- the guest's own launch
one_gpn : (gpn q : ℕ) → gpn ≡ q → in_range gpn 1 q ≡ true
one_gpn gpn q same = grind (arith, nat_tests)

abbrev GainsAt : ℕ → Pages → ℕ → ℕ → ℕ → Page → Type 0
GainsAt asid old frame gpn f new =
    (q : ℕ) → IsHeldAs new.facts asid q → (IsHeldAs (old f).facts asid q × (new.words ≡ (old f).words)) ⊎ ((in_range gpn 1 q ≡ true) × (f ≡ frame))

launch_gains : (asid frame page_type : ℕ) (perms : List ℕ) (pages : Pages) → (pages frame).facts.asid ≢ 0 → AreFit pages
    → FramesGain asid pages (launched_at frame page_type perms pages) (pages frame).facts.gpn 1 (map Some (launched_at frame page_type perms pages frame).words) (λ _. frame)
launch_gains asid frame page_type perms pages some fits =
    let page = pages frame in
    let gains = at_each (GainsAt asid pages frame page.facts.gpn) frame (launched_page page_type perms page) pages
    (λ q h. inr (one_gpn page.facts.gpn q (launched_gpn perms page.facts asid q h), refl)) (λ f _ q h. inl (h, refl)) in
    record {
      metadata = at_each (λ f new. KeepsMetadata new (pages f)) frame (launched_page page_type perms page) pages (launched_metadata page_type perms page (fits frame) some) (λ f _ is. (is, refl));
      from = λ q f h. gains f q h;
      agree = λ q index word inside h k. map_some_at (launched_at frame page_type perms pages frame).words index word k;
    }

pub launch_own : (guest asid : ℕ) (archive : Archive) (memory : Memory) (old : Contents) (frame page_type : ℕ) (perms : List ℕ) → Before guest asid archive memory old
    → IsPrepared (old.pages frame).facts false → LacksRange memory (old.pages frame).facts.gpn 1
    → Fine guest asid archive memory old (record old { pages = launched_at frame page_type perms old.pages }) (Launches (old.pages frame).facts.gpn (launched_at frame page_type perms old.pages frame).words)
unfolding used
launch_own guest asid archive memory old frame page_type perms before has lacks =
    let new = launched_at frame page_type perms old.pages in
    record {
      legal = tt;
      core = frames_gain asid (vault_of guest old archive) memory new (old.pages frame).facts.gpn 1 (map Some (new frame).words) (λ _. frame)
          (launch_gains asid frame page_type perms old.pages has.some before.fits) lacks before.core;
      whole = are_whole frame page_type perms old.pages before.whole;
      fits = are_fit frame page_type perms old.pages has.some before.fits;
    }
