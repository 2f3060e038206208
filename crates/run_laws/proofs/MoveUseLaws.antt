-- What the commit of a page_move does to the pages of a guest: the target holds what the source held, with its words, and the source holds nothing.
use Rattle.std.proofs.Common.{◌≡◌, ◌≢◌, ℕ, true, cond, eqb, List, length, refl, sym, ◌∙◌}
use Rattle.std.proofs.lemmas.Bool.{cond-true, cond-false, eq-eqb, ne_eqb, true≢false}
use Rattle.snp_model.specs.declared.entry.RmpEntry.{RmpEntry}
use Rattle.snp_model.specs.FirmwareCommits.{at_frame, taken_facts, taken, placed}
use Rattle.snp_model.specs.FirmwareStep.{pages_moved}
use Rattle.snp_model.specs.GuestMemory.{Memory, Untouched, used}
use Rattle.snp_model.specs.Holders.{Holder, InFrame, Sealed, IsHeldAs, Holds}
use Rattle.snp_model.specs.Live.{Archive, Vault, Spot, vault_of}
use Rattle.snp_model.specs.State.{Page, Pages, Contents}
use Rattle.run_laws.proofs.CoreLaws.{KindFits, core_moves}
use Rattle.run_laws.proofs.LaunchUseLaws.{owned_no_metadata}
use Rattle.run_laws.proofs.OpeningLaws.{zero_length}
use Rattle.run_laws.proofs.PageStateLaws.{IsPrepared}
use Rattle.run_laws.proofs.PageUseLaws.{at_each}
use Rattle.run_laws.proofs.UpdateLaws.{KeepsMetadata, with_memory, live_before}
use Rattle.run_laws.proofs.UseLaws.{Before, Fine}

-- a fact of each frame after the commit
pub moved_each : (P : ℕ → Page → Type 0) (source target : ℕ) (pages : Pages) → P target (placed (pages source).facts (pages source).words) → P source (taken (pages source))
    → ((f : ℕ) → f ≢ source → P f (pages f)) → (f : ℕ) → P f (pages_moved source target pages f)
unfolding pages_moved
moved_each P source target pages at_target at_source off =
    at_each P target (placed (pages source).facts (pages source).words) (at_frame source (taken (pages source)) pages) at_target (λ f _. at_each P source (taken (pages source)) pages at_source off f)

-- where a holder goes
unfoldable forth : ℕ → ℕ → Holder → Holder
forth source target (InFrame f) = cond (eqb f source) (InFrame target) (InFrame f)
forth source target (Sealed s) = Sealed s

goes_to : (source target : ℕ) → InFrame target ≡ forth source target (InFrame source)
unfolding forth
goes_to source target = sym (cond-true (eqb source source) (InFrame target) (InFrame source) (eq-eqb source source refl))

stays_at : (source target f : ℕ) → f ≢ source → InFrame f ≡ forth source target (InFrame f)
unfolding forth
stays_at source target f other = sym (cond-false (eqb f source) (InFrame target) (InFrame f) (ne_eqb f source other))

stays_sealed : (source target : ℕ) (s : Spot) → Sealed s ≡ forth source target (Sealed s)
unfolding forth
stays_sealed source target s = refl

-- the source is given up
taken_none : (facts : RmpEntry) (asid gpn : ℕ) → IsHeldAs (taken_facts facts) asid gpn → ⊥
unfolding taken_facts
taken_none facts asid gpn h = true≢false (sym h.validated)

taken_fits : (facts : RmpEntry) → KindFits facts → KindFits (taken_facts facts)
unfolding taken_facts
taken_fits facts fits = record { assigned = fits.assigned; immutable = fits.immutable; no_guest = fits.no_guest }

taken_metadata : (page : Page) → KindFits page.facts → page.facts.asid ≢ 0 → KeepsMetadata (taken page) page
unfolding taken_facts
taken_metadata page fits some is = absurd (owned_no_metadata page.facts fits some is)

-- where a page was that a frame holds
abbrev WasHeld : ℕ → Pages → ℕ → ℕ → ℕ → Page → Type 0
WasHeld asid pages source target f page =
    (gpn : ℕ) → IsHeldAs page.facts asid gpn → (k : ℕ) × (InFrame f ≡ forth source target (InFrame k)) × IsHeldAs (pages k).facts asid gpn × (page.words ≡ (pages k).words)

was_held : (asid : ℕ) (pages : Pages) (source target : ℕ) → (f : ℕ) → WasHeld asid pages source target f (pages_moved source target pages f)
was_held asid pages source target =
    moved_each (WasHeld asid pages source target) source target pages (λ gpn h. (source, goes_to source target, h, refl)) (λ gpn h. absurd (taken_none (pages source).facts asid gpn h))
    (λ f other gpn h. (f, stays_at source target f other, h, refl))

moved_back : (asid : ℕ) (vault : Vault) (source target : ℕ) → ((f : ℕ) → KeepsMetadata (pages_moved source target vault.pages f) (vault.pages f))
    → (gpn : ℕ) (x : Holder) (u : List ℕ) → Holds asid (with_memory (pages_moved source target vault.pages) vault) gpn x u → (y : Holder) × (x ≡ forth source target y) × Holds asid vault gpn y u
moved_back asid vault source target keeps gpn (InFrame f) u h =
    let was = was_held asid vault.pages source target f gpn h.0 in
    (InFrame was.0, was.1, (was.2, h.1 ∙ was.3))
moved_back asid vault source target keeps gpn (Sealed s) u h =
    (Sealed s, stays_sealed source target s, (h.0, live_before asid vault (pages_moved source target vault.pages) keeps s h.0 h.1, h.2, h.3))

pub move_fine : (guest asid : ℕ) (archive : Archive) (memory : Memory) (old : Contents) (source target : ℕ) → Before guest asid archive memory old → IsPrepared (old.pages source).facts true → (old.pages target).facts.asid ≢ 0
    → Fine guest asid archive memory old (record old { pages = pages_moved source target old.pages }) Untouched
unfolding used
move_fine guest asid archive memory old source target before has some =
    let vault = vault_of guest old archive in
    let new = pages_moved source target old.pages in
    let page = old.pages source in
    let keeps = moved_each (λ f moved. KeepsMetadata moved (old.pages f)) source target old.pages
    (λ is. absurd (owned_no_metadata page.facts (before.fits source) has.some is))
    (taken_metadata page (before.fits source) has.some) (λ f _ is. (is, refl)) in
    record {
      legal = tt;
      core = core_moves asid vault (with_memory new vault) memory (forth source target) (record { back = moved_back asid vault source target keeps }) before.core;
      whole = moved_each (λ f moved. length moved.words ≡ 512) source target old.pages (before.whole source) zero_length (λ f _. before.whole f);
      fits = moved_each (λ f moved. KindFits moved.facts) source target old.pages (before.fits source) (taken_fits page.facts (before.fits source)) (λ f _. before.fits f);
    }
