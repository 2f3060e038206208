-- RMPUPDATE and PSMASH leave each page of a guest with its one holder, or with none: where no frame of what they change is immutable.
use Rattle.std.proofs.Common.{◌≡◌, ◌≢◌, ℕ, ◌-◌, Bool, true, false, not, cond, eqb, List, length, refl, sym, ◌∙◌, subst}
use Rattle.std.proofs.lemmas.Bool.{cond_both, eqb-true, true≢false}
use Rattle.snp_model.specs.declared.entry.Kind.{Kind}
use Rattle.snp_model.specs.declared.entry.Kind.TheVariants as kinds
use Rattle.snp_model.specs.declared.entry.RmpEntry.{RmpEntry}
use Rattle.snp_model.specs.declared.firmware.MetaEntry.{MetaEntry}
use Rattle.snp_model.specs.declared.item.Update.{Update}
use Rattle.snp_model.specs.Facts.{free_entry}
use Rattle.snp_model.specs.GuestMemory.{Memory, Untouched, used}
use Rattle.snp_model.specs.Holders.{Holder, InFrame, Sealed, IsHeldAs, Holds, Core}
use Rattle.snp_model.specs.Live.{Archive, Vault, Spot, InEntry, InRoot, Under, IsOwn, IsLive, vault_of}
use Rattle.snp_model.specs.Locks.{in_range, over, over_lock}
use Rattle.snp_model.specs.RmpUpdate.{makes_immutable, immutable_kind, assigned_facts, updated_facts, updated_words, updated_page, pages_updated, smashed_page, pages_smashed}
use Rattle.snp_model.specs.State.{Page, Pages, PageLock, Contents, zero_words}
use Rattle.run_laws.proofs.CoreLaws.{KindFits, AreFit, core_shrinks}
use Rattle.run_laws.proofs.UseLaws.{AreWhole, metadata_not_plain, Before, Fine}

-- a page that is a metadata page after a change is the one that it was
abbrev pub KeepsMetadata : Page → Page → Type 0
KeepsMetadata new old = new.facts.kind ≡ kinds.Metadata → (old.facts.kind ≡ kinds.Metadata) × (new.words ≡ old.words)

-- a page after a change keeps what it holds of a guest, or holds nothing; a metadata page is the one that it was
pub record Lessens (asid : ℕ) (new old : Page) : Type 0 where
  pub held : (gpn : ℕ) → IsHeldAs new.facts asid gpn → IsHeldAs old.facts asid gpn × (new.words ≡ old.words)
  pub metadata : KeepsMetadata new old

pub lessens_itself : (asid : ℕ) (page : Page) → Lessens asid page page
lessens_itself asid page = record { held = λ gpn h. (h, refl); metadata = λ is. (is, refl) }

-- memory changes
abbrev pub with_memory : Pages → Vault → Vault
with_memory pages vault = record vault { pages = pages }

-- which makes no entry live
pub live_before : (asid : ℕ) (vault : Vault) (new : Pages) → ((f : ℕ) → KeepsMetadata (new f) (vault.pages f))
    → (s : Spot) (entry : MetaEntry) → IsLive asid (with_memory new vault) s entry → IsLive asid vault s entry
live_before asid vault new keeps (InEntry f number) entry live =
    let before = keeps f live.metadata in
    record { metadata = before.0; own = subst (λ (words : List ℕ). IsOwn asid vault.context.iv words number entry) before.1 live.own }
live_before asid vault new keeps InRoot entry live = live
live_before asid vault new keeps (Under s number) entry live = (live.0, live_before asid vault new keeps s live.0 live.1, live.2)

pub held_before : (asid : ℕ) (vault : Vault) (new : Pages) → ((f : ℕ) → Lessens asid (new f) (vault.pages f))
    → (gpn : ℕ) (x : Holder) (u : List ℕ) → Holds asid (with_memory new vault) gpn x u → Holds asid vault gpn x u
held_before asid vault new less gpn (InFrame f) u h = let before = (less f).held gpn h.0 in (before.0, h.1 ∙ before.1)
held_before asid vault new less gpn (Sealed s) u h = (h.0, live_before asid vault new (λ f. (less f).metadata) s h.0 h.1, h.2, h.3)

pub core_lessens : (asid : ℕ) (vault : Vault) (memory : Memory) (new : Pages) → ((f : ℕ) → Lessens asid (new f) (vault.pages f))
    → Core asid vault memory → Core asid (with_memory new vault) memory
core_lessens asid vault memory new less core = core_shrinks asid vault (with_memory new vault) memory (held_before asid vault new less) core

-- so for an event that changes memory alone
pub lessens_fine : (guest asid : ℕ) (archive : Archive) (memory : Memory) (old : Contents) (new : Pages) → Before guest asid archive memory old
    → ((f : ℕ) → Lessens asid (new f) (old.pages f)) → AreWhole new → AreFit new
    → Fine guest asid archive memory old (record old { pages = new }) Untouched
unfolding used
lessens_fine guest asid archive memory old new before less whole fits = record {
  legal = tt;
  core = core_lessens asid (vault_of guest old archive) memory new less before.core;
  whole = whole;
  fits = fits;
}

-- a change over a range, frame by frame
pub over_frames : (P : Page → Page → Type 0) (base count : ℕ) (change : ℕ → Page → Page) (pages : Pages)
    → ((f : ℕ) → P (pages f) (pages f)) → ((f : ℕ) → in_range base count f ≡ true → P (change (f - base) (pages f)) (pages f))
    → (f : ℕ) → P (over base count change pages f) (pages f)
over_frames P base count change pages beside inside f = cond_both (in_range base count f) _ _ (λ (page : Page). P page (pages f)) (inside f) (λ outside. beside f)

-- what the lock of an RMPUPDATE has tested of a frame of its range, at its commit: it isn't immutable, and where the page only becomes immutable it is assigned, with the ASID that is asked for
pub record IsUpdatable (update : Update) (first facts : RmpEntry) : Type 0 where
  pub mutable : facts.immutable ≡ false
  pub assigned : makes_immutable update first ≡ true → facts.assigned ≡ true
  pub owner : makes_immutable update first ≡ true → facts.asid ≡ update.asid

plain_kind : (facts : RmpEntry) → KindFits facts → facts.immutable ≡ false → facts.kind ≡ kinds.Metadata → ⊥
plain_kind facts fits mutable is = true≢false (sym (fits.immutable (λ (e : facts.kind ≡ kinds.Plain). metadata_not_plain facts.kind is e)) ∙ mutable)

not_plain : kinds.Plain ≡ kinds.Metadata → ⊥
not_plain e = cc

not_firmware : kinds.Firmware ≡ kinds.Metadata → ⊥
not_firmware e = cc

no_metadata_kind : (asid : ℕ) (kind : Kind) → (kind ≡ kinds.Metadata → ⊥) → immutable_kind asid kind ≡ kinds.Metadata → ⊥
no_metadata_kind asid kind none is = cond_both (eqb asid 0) kinds.Firmware kind (λ (k : Kind). k ≡ kinds.Metadata → ⊥) (λ _. not_firmware) (λ _. none) is

assigned_kind : (update : Update) (place : ℕ) → (assigned_facts update place).kind ≡ kinds.Metadata → ⊥
unfolding assigned_facts
assigned_kind update place is =
    cond_both update.immutable (immutable_kind update.asid kinds.Plain) kinds.Plain (λ (k : Kind). k ≡ kinds.Metadata → ⊥) (λ _. no_metadata_kind update.asid kinds.Plain not_plain) (λ _. not_plain) is

-- the facts and words of a frame after an RMPUPDATE: of a page that becomes immutable, of one that becomes free, and of one that becomes assigned
pub record IsUpdated (asid : ℕ) (update : Update) (facts new : RmpEntry) (old_words new_words : List ℕ) : Type 0 where
  pub held : (gpn : ℕ) → IsHeldAs new asid gpn → IsHeldAs facts asid gpn × (new_words ≡ old_words)
  pub metadata : new.kind ≡ kinds.Metadata → ⊥
  pub fits : KindFits new
  pub whole : length old_words ≡ 512 → length new_words ≡ 512

zeros_whole : length zero_words ≡ 512
unfolding zero_words
zeros_whole = refl

words_whole : (test : Bool) (words : List ℕ) → length words ≡ 512 → length (cond test zero_words words) ≡ 512
words_whole test words whole = cond_both test zero_words words (λ (w : List ℕ). length w ≡ 512) (λ _. zeros_whole) (λ _. whole)

free_updated : (asid : ℕ) (update : Update) (facts : RmpEntry) (words new_words : List ℕ) → (length words ≡ 512 → length new_words ≡ 512) → IsUpdated asid update facts free_entry words new_words
unfolding free_entry
free_updated asid update facts words new_words whole = record {
  held = λ gpn h. absurd (true≢false (sym h.assigned));
  metadata = not_plain;
  fits = record { assigned = λ ne. absurd (ne refl); immutable = λ ne. absurd (ne refl); no_guest = λ ne. absurd (ne refl) };
  whole = whole;
}

assigned_fits : (update : Update) (place : ℕ) → (assigned_facts update place).kind ≢ kinds.Plain → (assigned_facts update place).immutable ≡ true
unfolding assigned_facts
assigned_fits update place =
    elim update.immutable as (λ (b : Bool). cond b (immutable_kind update.asid kinds.Plain) kinds.Plain ≢ kinds.Plain → b ≡ true)
    [ true ↦ λ ne. refl | false ↦ λ ne. absurd (ne refl) ]

-- a page that becomes immutable is used by the firmware where it is no guest's
used_by_none : (asid : ℕ) (kind : Kind) → kind ≡ kinds.Plain → immutable_kind asid kind ≢ kinds.Plain → asid ≡ 0
used_by_none asid kind plain =
    cond_both (eqb asid 0) kinds.Firmware kind (λ (k : Kind). k ≢ kinds.Plain → asid ≡ 0) (λ none _. eqb-true asid 0 none) (λ _ used_by. absurd (used_by plain))

assigned_no_guest : (update : Update) (place : ℕ) → (assigned_facts update place).kind ≢ kinds.Plain → (assigned_facts update place).asid ≡ 0
unfolding assigned_facts
assigned_no_guest update place =
    cond_both update.immutable (immutable_kind update.asid kinds.Plain) kinds.Plain (λ (k : Kind). k ≢ kinds.Plain → update.asid ≡ 0)
    (λ _. used_by_none update.asid kinds.Plain refl) (λ _ used_by. absurd (used_by refl))

assigned_updated : (asid : ℕ) (update : Update) (place : ℕ) (facts : RmpEntry) (words new_words : List ℕ) → (length words ≡ 512 → length new_words ≡ 512)
    → IsUpdated asid update facts (assigned_facts update place) words new_words
unfolding assigned_facts
assigned_updated asid update place facts words new_words whole = record {
  held = λ gpn h. absurd (true≢false (sym h.validated));
  metadata = assigned_kind update place;
  fits = record { assigned = λ _. refl; immutable = assigned_fits update place; no_guest = assigned_no_guest update place };
  whole = whole;
}

-- a frame that isn't immutable is of kind Plain
mutable_plain : (facts : RmpEntry) (kind : Kind) → facts.kind ≡ kind → KindFits facts → facts.immutable ≡ false → kind ≡ kinds.Plain
mutable_plain facts kinds.Plain is fits mutable = refl
mutable_plain facts kinds.Firmware is fits mutable = absurd (true≢false (sym (fits.immutable (λ plain. absurd cc)) ∙ mutable))
mutable_plain facts kinds.Context is fits mutable = absurd (true≢false (sym (fits.immutable (λ plain. absurd cc)) ∙ mutable))
mutable_plain facts kinds.Metadata is fits mutable = absurd (true≢false (sym (fits.immutable (λ plain. absurd cc)) ∙ mutable))

frozen_updated : (asid : ℕ) (update : Update) (facts : RmpEntry) (words : List ℕ) → KindFits facts → facts.immutable ≡ false → facts.assigned ≡ true → facts.asid ≡ update.asid
    → IsUpdated asid update facts (record facts { immutable = true; kind = immutable_kind update.asid facts.kind }) words words
frozen_updated asid update facts words fits mutable assigned owner = record {
  held = λ gpn h. (record { assigned = h.assigned; validated = h.validated; asid_is = h.asid_is; gpn_is = h.gpn_is }, refl);
  metadata = no_metadata_kind update.asid facts.kind (plain_kind facts fits mutable);
  fits = record { assigned = λ _. assigned; immutable = λ _. refl; no_guest = λ used_by. owner ∙ used_by_none update.asid facts.kind (mutable_plain facts facts.kind refl fits mutable) used_by };
  whole = λ whole. whole;
}

pub is_updated : (asid : ℕ) (update : Update) (first : RmpEntry) (place : ℕ) (page : Page) → KindFits page.facts → IsUpdatable update first page.facts
    → IsUpdated asid update page.facts (updated_facts update first place page.facts) page.words (updated_words update first page.facts page.words)
unfolding updated_facts updated_words
is_updated asid update first place page fits may =
    elim (makes_immutable update first) as (λ (b : Bool). (b ≡ true → page.facts.assigned ≡ true) → (b ≡ true → page.facts.asid ≡ update.asid) →
    IsUpdated asid update page.facts (cond b (record page.facts { immutable = true; kind = immutable_kind update.asid page.facts.kind }) (cond (not update.assigned) free_entry (assigned_facts update place)))
    page.words (cond b page.words (cond page.facts.assigned zero_words page.words))) [
      | true ↦ λ assigned owner. frozen_updated asid update page.facts page.words fits may.mutable (assigned refl) (owner refl)
      | false ↦ λ assigned owner. cond_both (not update.assigned) _ _ (λ (facts : RmpEntry). IsUpdated asid update page.facts facts page.words (cond page.facts.assigned zero_words page.words))
          (λ _. free_updated asid update page.facts page.words _ (words_whole page.facts.assigned page.words))
          (λ _. assigned_updated asid update place page.facts page.words _ (words_whole page.facts.assigned page.words))
    ]
    may.assigned may.owner

-- what the lock of an RMPUPDATE has tested of its range, as it holds at the commit
abbrev pub AreUpdatable : Update → PageLock → Pages → Type 0
AreUpdatable update lock pages = (f : ℕ) → in_range lock.base lock.count f ≡ true → IsUpdatable update (pages lock.base).facts (pages f).facts

pub update_fine : (guest asid : ℕ) (archive : Archive) (memory : Memory) (old : Contents) (update : Update) (lock : PageLock) → Before guest asid archive memory old
    → AreUpdatable update lock old.pages → Fine guest asid archive memory old (record old { pages = pages_updated update lock old.pages }) Untouched
unfolding pages_updated
update_fine guest asid archive memory old update lock before may =
    let pages = old.pages in
    let first = (pages lock.base).facts in
    let one = λ (f : ℕ) (inside : in_range lock.base lock.count f ≡ true). is_updated asid update first (f - lock.base) (pages f) (before.fits f) (may f inside) in
    lessens_fine guest asid archive memory old (over lock.base lock.count (updated_page update first) pages) before
    (over_frames (Lessens asid) lock.base lock.count (updated_page update first) pages (λ f. lessens_itself asid (pages f))
    (λ f inside. record { held = (one f inside).held; metadata = λ is. absurd ((one f inside).metadata is) }))
    (over_frames (λ (new page : Page). length new.words ≡ 512) lock.base lock.count (updated_page update first) pages before.whole (λ f inside. (one f inside).whole (before.whole f)))
    (over_frames (λ (new page : Page). KindFits new.facts) lock.base lock.count (updated_page update first) pages before.fits (λ f inside. (one f inside).fits))

-- PSMASH changes no more than a page's size
pub smash_fine : (guest asid : ℕ) (archive : Archive) (memory : Memory) (old : Contents) (lock : PageLock) → Before guest asid archive memory old
    → Fine guest asid archive memory old (record old { pages = pages_smashed lock old.pages }) Untouched
unfolding pages_smashed
smash_fine guest asid archive memory old lock before =
    let pages = old.pages in
    let change = λ (place : ℕ). smashed_page in
    lessens_fine guest asid archive memory old (over_lock lock smashed_page pages) before
    (over_frames (Lessens asid) lock.base lock.count change pages (λ f. lessens_itself asid (pages f))
    (λ f inside. record { held = λ gpn h. (record { assigned = h.assigned; validated = h.validated; asid_is = h.asid_is; gpn_is = h.gpn_is }, refl); metadata = λ is. (is, refl) }))
    (over_frames (λ (new page : Page). length new.words ≡ 512) lock.base lock.count change pages before.whole (λ f inside. before.whole f))
    (over_frames (λ (new page : Page). KindFits new.facts) lock.base lock.count change pages before.fits (λ f inside. record { assigned = (before.fits f).assigned; immutable = (before.fits f).immutable; no_guest = (before.fits f).no_guest }))
