-- What the commit of a command does to the pages of a guest: the general lemmas, frame by frame, and the commits of gctx_create and md_init, whose Firmware page holds nothing.
use Rattle.std.proofs.Common.{◌≡◌, ◌≢◌, ℕ, zero, suc, ◌*◌, eqb, List, length, take, replicate, Option, Some, None, refl, sym, ap, ◌∙◌, subst}
use Rattle.std.specs.Prelude.{slice_index}
use Rattle.std.proofs.lemmas.Bool.{cond_both, cond-false, eqb-true, eqb-false}
use Rattle.std.proofs.lemmas.List.{drop-replicate}
use Rattle.snp_model.specs.declared.entry.RmpEntry.{RmpEntry}
use Rattle.snp_model.specs.declared.firmware.MetaEntry.{MetaEntry}
use Rattle.snp_model.specs.FirmwareCommits.{at_frame, context_facts, context_page, metadata_facts, metadata_page}
use Rattle.snp_model.specs.GuestMemory.{Memory, Use, Untouched, used}
use Rattle.snp_model.specs.Holders.{Holder, InFrame, Sealed, IsHeldAs, Holds}
use Rattle.snp_model.specs.Live.{Archive, Vault, Spot, InEntry, InRoot, Under, IsOwn, IsInPage, IsLive, vault_of}
use Rattle.snp_model.specs.Measurement.{page_bytes}
use Rattle.snp_model.specs.Metadata.{entry_from, slot, entry_at}
use Rattle.snp_model.specs.State.{Page, Pages, Context, Contexts, Contents, zero_words}
use Rattle.run_laws.specs.Shapes.{IsFirmwares}
use Rattle.run_laws.proofs.CoreLaws.{KindFits, AreFit, core_shrinks}
use Rattle.run_laws.proofs.OpeningLaws.{zero_length}
use Rattle.run_laws.proofs.UpdateLaws.{Lessens, lessens_itself, lessens_fine, with_memory}
use Rattle.run_laws.proofs.UseLaws.{AreWhole, Before, Fine}

-- a fact of each frame, where one has another page
pub at_each : (P : ℕ → Page → Type 0) (frame : ℕ) (page : Page) (pages : Pages) → P frame page → ((f : ℕ) → f ≢ frame → P f (pages f)) → (f : ℕ) → P f (at_frame frame page pages f)
unfolding at_frame
at_each P frame page pages here off f =
    cond_both (eqb frame f) page (pages f) (λ (p : Page). P f p) (λ same. subst (λ (k : ℕ). P k page) (eqb-true frame f same) here) (λ other. off f (λ e. eqb-false frame f other (sym e)))

-- contexts change, but not in what tells live entries
pub record KeepsEntries (new old : Context) : Type 0 where
  pub iv : new.iv ≡ old.iv
  pub root : new.root ≡ old.root

live_context : (asid : ℕ) (vault : Vault) (context : Context) → KeepsEntries context vault.context → (s : Spot) (entry : MetaEntry) → IsLive asid (record vault { context = context }) s entry → IsLive asid vault s entry
live_context asid vault context keeps (InEntry f number) entry live =
    record { metadata = live.metadata; own = subst (λ (bound : ℕ). IsOwn asid bound (vault.pages f).words number entry) keeps.iv live.own }
live_context asid vault context keeps InRoot entry live = sym keeps.root ∙ live
live_context asid vault context keeps (Under s number) entry live = (live.0, live_context asid vault context keeps s live.0 live.1, live.2)

held_context : (asid : ℕ) (vault : Vault) (context : Context) → KeepsEntries context vault.context → (gpn : ℕ) (x : Holder) (u : List ℕ) → Holds asid (record vault { context = context }) gpn x u → Holds asid vault gpn x u
held_context asid vault context keeps gpn (InFrame f) u h = h
held_context asid vault context keeps gpn (Sealed s) u h = (h.0, live_context asid vault context keeps s h.0 h.1, h.2, h.3)

pub fine_contexts : (guest asid : ℕ) (archive : Archive) (memory : Memory) (old : Contents) (pages : Pages) (contexts : Contexts) (does : Use) → KeepsEntries (contexts guest) (old.contexts guest)
    → Fine guest asid archive memory old (record old { pages = pages }) does → Fine guest asid archive memory old (record { pages = pages; contexts = contexts }) does
fine_contexts guest asid archive memory old pages contexts does keeps fine =
    let vault = vault_of guest (record old { pages = pages }) archive in
    record {
      legal = fine.legal;
      core = core_shrinks asid vault (record vault { context = contexts guest }) (used does memory) (held_context asid vault (contexts guest) keeps) fine.core;
      whole = fine.whole;
      fits = fine.fits;
    }

-- a page after a change keeps what it holds of a guest, or holds nothing; each entry of a metadata page stood there before
pub record Lowers (asid : ℕ) (new old : Page) : Type 0 where
  pub held : (gpn : ℕ) → IsHeldAs new.facts asid gpn → IsHeldAs old.facts asid gpn × (new.words ≡ old.words)
  pub entries : (bound number : ℕ) (entry : MetaEntry) → IsInPage asid bound new number entry → IsInPage asid bound old number entry

lowers_itself : (asid : ℕ) (page : Page) → Lowers asid page page
lowers_itself asid page = record { held = λ gpn h. (h, refl); entries = λ bound number entry is. is }

live_lower : (asid : ℕ) (vault : Vault) (new : Pages) → ((f : ℕ) → Lowers asid (new f) (vault.pages f)) → (s : Spot) (entry : MetaEntry) → IsLive asid (with_memory new vault) s entry → IsLive asid vault s entry
live_lower asid vault new lower (InEntry f number) entry live = (lower f).entries vault.context.iv number entry live
live_lower asid vault new lower InRoot entry live = live
live_lower asid vault new lower (Under s number) entry live = (live.0, live_lower asid vault new lower s live.0 live.1, live.2)

held_lower : (asid : ℕ) (vault : Vault) (new : Pages) → ((f : ℕ) → Lowers asid (new f) (vault.pages f)) → (gpn : ℕ) (x : Holder) (u : List ℕ) → Holds asid (with_memory new vault) gpn x u → Holds asid vault gpn x u
held_lower asid vault new lower gpn (InFrame f) u h = let before = (lower f).held gpn h.0 in (before.0, h.1 ∙ before.1)
held_lower asid vault new lower gpn (Sealed s) u h = (h.0, live_lower asid vault new lower s h.0 h.1, h.2, h.3)

pub lowers_fine : (guest asid : ℕ) (archive : Archive) (memory : Memory) (old : Contents) (new : Pages) → Before guest asid archive memory old
    → ((f : ℕ) → Lowers asid (new f) (old.pages f)) → AreWhole new → AreFit new → Fine guest asid archive memory old (record old { pages = new }) Untouched
unfolding used
lowers_fine guest asid archive memory old new before lower whole fits =
    let vault = vault_of guest old archive in
    record {
      legal = tt;
      core = core_shrinks asid vault (with_memory new vault) memory (held_lower asid vault new lower) before.core;
      whole = whole;
      fits = fits;
    }

-- gctx_create
context_lessens : (asid : ℕ) (page : Page) → Lessens asid (context_page page) page
unfolding context_facts
context_lessens asid page = record {
  held = λ gpn h. (record { assigned = h.assigned; validated = h.validated; asid_is = h.asid_is; gpn_is = h.gpn_is }, refl);
  metadata = λ is. absurd cc;
}

context_fits : (facts : RmpEntry) → IsFirmwares facts → KindFits (context_facts facts)
unfolding context_facts
context_fits facts has = record { assigned = λ _. has.assigned; immutable = λ _. has.immutable; no_guest = λ _. has.no_guest }

pub context_fine : (guest asid : ℕ) (archive : Archive) (memory : Memory) (old : Contents) (frame : ℕ) → Before guest asid archive memory old → IsFirmwares (old.pages frame).facts
    → Fine guest asid archive memory old (record old { pages = at_frame frame (context_page (old.pages frame)) old.pages }) Untouched
context_fine guest asid archive memory old frame before has =
    let page = old.pages frame in
    lessens_fine guest asid archive memory old (at_frame frame (context_page page) old.pages) before
    (at_each (λ f new. Lessens asid new (old.pages f)) frame (context_page page) old.pages (context_lessens asid page) (λ f _. lessens_itself asid (old.pages f)))
    (at_each (λ f new. length new.words ≡ 512) frame (context_page page) old.pages (before.whole frame) (λ f _. before.whole f))
    (at_each (λ f new. KindFits new.facts) frame (context_page page) old.pages (context_fits page.facts has) (λ f _. before.fits f))

-- md_init: no entry of zero words is in use
zeros_first : (n k : ℕ) → slice_index (page_bytes (take n (replicate k 0))) 0 ≡ 0
unfolding page_bytes
zeros_first zero k = refl
zeros_first (suc n) zero = refl
zeros_first (suc n) (suc k) = refl

no_entry_from : (bytes : List ℕ) → slice_index bytes 0 ≡ 0 → entry_from bytes ≡ None
unfolding entry_from
no_entry_from bytes first = cond-false (eqb (slice_index bytes 0) 1) _ _ (ap (λ (n : ℕ). eqb n 1) first)

zeros_no_entry : (count number : ℕ) → entry_at (replicate count 0) number ≡ None
unfolding entry_at slot
zeros_no_entry count number =
    no_entry_from _ (ap (λ (ws : List ℕ). slice_index (page_bytes (take 8 ws)) 0) (drop-replicate (8 * number) count 0) ∙ zeros_first 8 _)

pub zero_words_no_entry : (number : ℕ) → entry_at zero_words number ≡ None
unfolding zero_words
zero_words_no_entry number = zeros_no_entry 512 number

none_some : (entry : MetaEntry) (found : Option MetaEntry) → found ≡ None → found ≡ Some entry → ⊥
none_some entry found a b = cc

metadata_lowers : (asid : ℕ) (page : Page) → asid ≢ 0 → IsFirmwares page.facts → Lowers asid (metadata_page page) page
unfolding metadata_facts
metadata_lowers asid page some has = record {
  held = λ gpn h. absurd (some (sym h.asid_is ∙ has.no_guest));
  entries = λ bound number entry is. absurd (none_some entry (entry_at zero_words number) (zero_words_no_entry number) is.own.is);
}

metadata_fits : (facts : RmpEntry) → IsFirmwares facts → KindFits (metadata_facts facts)
unfolding metadata_facts
metadata_fits facts has = record { assigned = λ _. has.assigned; immutable = λ _. has.immutable; no_guest = λ _. has.no_guest }

pub metadata_fine : (guest asid : ℕ) (archive : Archive) (memory : Memory) (old : Contents) (frame : ℕ) → Before guest asid archive memory old → asid ≢ 0 → IsFirmwares (old.pages frame).facts
    → Fine guest asid archive memory old (record old { pages = at_frame frame (metadata_page (old.pages frame)) old.pages }) Untouched
metadata_fine guest asid archive memory old frame before some has =
    let page = old.pages frame in
    lowers_fine guest asid archive memory old (at_frame frame (metadata_page page) old.pages) before
    (at_each (λ f new. Lowers asid new (old.pages f)) frame (metadata_page page) old.pages (metadata_lowers asid page some has) (λ f _. lowers_itself asid (old.pages f)))
    (at_each (λ f new. length new.words ≡ 512) frame (metadata_page page) old.pages zero_length (λ f _. before.whole f))
    (at_each (λ f new. KindFits new.facts) frame (metadata_page page) old.pages (metadata_fits page.facts has) (λ f _. before.fits f))
