-- The commit of a command that opens a page keeps what ties each guest's pages to their holders.
use Rattle.std.proofs.Common.{◌≡◌, ◌≢◌, ℕ, true, false, List, [], Option, Some, None, refl, sym, ap, ◌∙◌, subst, ◌⊎◌, inl, inr, ⊎_elim, unwrap_or}
use Rattle.std.proofs.lemmas.Bool.{cases_eq}
use Rattle.std.specs.Option.{option_map}
use Rattle.snp_model.specs.declared.firmware.MetaEntry.{MetaEntry}
use Rattle.snp_model.specs.FirmwareCommits.{at_guest, restored_facts, metadata_facts, with_root}
use Rattle.snp_model.specs.GuestMemory.{Memory}
use Rattle.snp_model.specs.Holders.{IsHeldAs}
use Rattle.snp_model.specs.Live.{Archived, Archive, vault_of, InEntry, InRoot, IsLive}
use Rattle.snp_model.specs.Metadata.{entry_at, cleared}
use Rattle.snp_model.specs.Sealing.{What, GuestPage, MetadataPage, Slot, OfEntry, OfRoot, slot_entry, opens_as, brought_back, pages_in}
use Rattle.snp_model.specs.State.{Page, Pages, Context, Contents, Computed}
use Rattle.snp_model.proofs.MetadataLaws.{entry_at-cleared}
use Rattle.run_laws.specs.MadePages.{AreWordsOf}
use Rattle.run_laws.specs.Uniqueness.{IsFull, IsEntryOf, Seals}
use Rattle.run_laws.proofs.SealInLaws.{In, same_spot, spot_frame, spot_entry, spot_root, root_spot, spot_self, root_self, in_core, in_seals}
use Rattle.run_laws.proofs.SealingPages.{IfEntry, spot_of, table_page, in_each, guest_here, guest_off}
use Rattle.run_laws.proofs.SealingTests.{IsOpenable, IsTable, IsTaken, InTests, kind_of}
use Rattle.run_laws.proofs.SealOutCommit.{IsFitMemory, metadata_nobodys, root_with, Ties, ties_fewer}
use Rattle.run_laws.proofs.SpotLaws.{Fewer, live_entry}
use Rattle.run_laws.proofs.TableLaws.{entry_at-cleared_other, owned_use}

-- the context after the commit, and memory
abbrev pub contents_in : What → (owner target : ℕ) → Slot → Computed → Contents → Contents
contents_in what owner target slot made contents =
    let context = contents.contexts owner in
    record {
      pages = pages_in what target slot made contents.pages;
      contexts = at_guest owner (with_root (root_with slot None context.root) context) contents.contexts;
    }

-- an opened page, with the entry that was taken
abbrev pub opened_page : List ℕ → MetaEntry → Computed
opened_page words x = record { words = words; entry = Some x }

-- the entries after it: one of the opened page, or one that was there and isn't at the slot
abbrev InEntryAt : ℕ → Pages → What → ℕ → Slot → List ℕ → ℕ → Page → Type 0
InEntryAt asid pages what target slot words f page =
    (e : ℕ) (y : MetaEntry) → IsEntryOf asid page e y
    → ((f ≡ target) × (what ≡ MetadataPage) × (entry_at words e ≡ Some y)) ⊎ ((same_spot (InEntry f e) (spot_of slot) ≡ false) × IsEntryOf asid (pages f) e y)

target_entries : (asid owner : ℕ) (pages : Pages) (what : What) (target : ℕ) (slot : Slot) (words : List ℕ) (x : MetaEntry) → IsFitMemory pages → IsOpenable owner what (pages target).facts
    → InEntryAt asid pages what target slot words target (brought_back what x words (pages target))
unfolding restored_facts
target_entries asid owner pages GuestPage target slot words x fits is = λ e y found. absurd (is.0.kept_from.of_guest (metadata_nobodys (pages target).facts (fits.facts target) found.metadata))
target_entries asid owner pages MetadataPage target slot words x fits is = λ e y found. inl (refl, refl, found.is)

none_some : (x : MetaEntry) → None ≡ Some x → ⊥
none_some x e = cc

table_entries : (asid : ℕ) (pages : Pages) (what : What) (target : ℕ) (slot : Slot) (words : List ℕ) → IsFitMemory pages → IfEntry slot (IsTable pages)
    → IfEntry slot (λ metadata number. InEntryAt asid pages what target slot words metadata (table_page number None (pages metadata)))
table_entries asid pages what target (OfEntry metadata number) words fits table = λ e y is.
    let old = (pages metadata).words in
    let long = (fits.words metadata).whole in
    ⊎_elim
    (λ (same : e ≡ number).
    let found : entry_at (cleared old number) number ≡ Some y = subst (λ (k : ℕ). entry_at (cleared old number) k ≡ Some y) same is.is in
    absurd (none_some y (sym (entry_at-cleared old number long table.below) ∙ found)))
    (λ (other : e ≡ number → ⊥).
    inr (spot_entry metadata e metadata number other, record { metadata = is.metadata; is = sym (entry_at-cleared_other old number e long table.below other) ∙ is.is; asid_is = is.asid_is }))
    (cases_eq e number)
table_entries asid pages what target OfRoot words fits table = tt

spot_off : (slot : Slot) (f e : ℕ) → IfEntry slot (λ metadata number. f ≢ metadata) → same_spot (InEntry f e) (spot_of slot) ≡ false
spot_off (OfEntry metadata number) f e other = spot_frame f e metadata number other
spot_off OfRoot f e other = spot_root f e

in_entries : (asid owner : ℕ) (pages : Pages) (what : What) (source target : ℕ) (slot : Slot) (words : List ℕ) (x : MetaEntry) → IsFitMemory pages → InTests owner pages what source target slot
    → (f : ℕ) → InEntryAt asid pages what target slot words f (pages_in what target slot (opened_page words x) pages f)
in_entries asid owner pages what source target slot words x fits tests =
    in_each (InEntryAt asid pages what target slot words) what source target slot (opened_page words x) pages tests.apart
    (target_entries asid owner pages what target slot words x fits tests.openable) (table_entries asid pages what target slot words fits tests.table)
    (λ f off e y is. inr (spot_off slot f e off, is))

-- the frames that hold a page after it
pub record IsNowHeld (asid owner : ℕ) (what : What) (x : MetaEntry) (words : List ℕ) (page : Page) (gpn : ℕ) : Type 0 where
  pub guest_page : what ≡ GuestPage
  pub owner_is : owner ≡ asid
  pub validated : x.validated ≡ true
  pub gpn_is : x.gpn ≡ gpn
  pub words_are : page.words ≡ words

abbrev InFrameAt : ℕ → ℕ → Pages → What → ℕ → List ℕ → MetaEntry → ℕ → Page → Type 0
InFrameAt asid owner pages what target words x f page =
    (gpn : ℕ) → IsHeldAs page.facts asid gpn
    → ((f ≡ target) × IsNowHeld asid owner what x words page gpn) ⊎ (IsHeldAs (pages f).facts asid gpn × (page.words ≡ (pages f).words))

target_frames : (asid owner : ℕ) (pages : Pages) (what : What) (target : ℕ) (words : List ℕ) (x : MetaEntry) → asid ≢ 0 → IsOpenable owner what (pages target).facts
    → InFrameAt asid owner pages what target words x target (brought_back what x words (pages target))
unfolding restored_facts metadata_facts
target_frames asid owner pages GuestPage target words x some is = λ gpn h.
    inl (refl, record { guest_page = refl; owner_is = sym is.1 ∙ h.asid_is; validated = h.validated; gpn_is = h.gpn_is; words_are = refl })
target_frames asid owner pages MetadataPage target words x some is = λ gpn h. absurd (some (sym h.asid_is ∙ is.no_guest))

table_frames : (asid owner : ℕ) (pages : Pages) (what : What) (target : ℕ) (slot : Slot) (words : List ℕ) (x : MetaEntry) → asid ≢ 0 → IfEntry slot (IsTable pages)
    → IfEntry slot (λ metadata number. InFrameAt asid owner pages what target words x metadata (table_page number None (pages metadata)))
table_frames asid owner pages what target (OfEntry metadata number) words x some table = λ gpn h. absurd (some (sym h.asid_is ∙ table.metadatas.firmwares.no_guest))
table_frames asid owner pages what target OfRoot words x some table = tt

in_frames : (asid owner : ℕ) (pages : Pages) (what : What) (source target : ℕ) (slot : Slot) (words : List ℕ) (x : MetaEntry) → asid ≢ 0 → InTests owner pages what source target slot
    → (f : ℕ) → InFrameAt asid owner pages what target words x f (pages_in what target slot (opened_page words x) pages f)
in_frames asid owner pages what source target slot words x some tests =
    in_each (InFrameAt asid owner pages what target words x) what source target slot (opened_page words x) pages tests.apart
    (target_frames asid owner pages what target words x some tests.openable) (table_frames asid owner pages what target slot words x some tests.table) (λ f _ gpn h. inr (h, refl))

-- what a commit that opens a page goes by: words and entry, of the page that its compute has made
pub record InReady (asid g : ℕ) (contents : Contents) (archive : Archive) (what : What) (owner source target : ℕ) (slot : Slot) (words : List ℕ) (x : MetaEntry) : Type 0 where
  pub tests : InTests asid contents.pages what source target slot
  pub memory : IsFitMemory contents.pages
  pub full : IsFull words
  pub in_use : slot_entry contents.pages (contents.contexts owner) slot ≡ Some x
  pub passes : opens_as what asid words ≡ true
  pub words_are : g ≡ owner → AreWordsOf (archive x.iv) words

-- the entry that is taken
in_use_taken : (kind asid : ℕ) (entry : Option MetaEntry) (x : MetaEntry) → IsTaken kind asid entry → entry ≡ Some x → (x.kind ≡ kind) × (x.asid ≡ asid)
in_use_taken kind asid entry x taken is = subst (λ (found : Option MetaEntry). IsTaken kind asid found) is taken

pub taken_live : (asid g : ℕ) (contents : Contents) (archive : Archive) (what : What) (source target : ℕ) (slot : Slot) (x : MetaEntry) → Seals asid (vault_of g contents archive)
    → InTests asid contents.pages what source target slot → slot_entry contents.pages (contents.contexts g) slot ≡ Some x
    → IsLive asid (vault_of g contents archive) (spot_of slot) x × (x.kind ≡ kind_of what)
taken_live asid g contents archive what source target (OfEntry metadata number) x seals tests is =
    let taken = in_use_taken (kind_of what) asid (entry_at (contents.pages metadata).words number) x tests.taken is in
    (live_entry asid (vault_of g contents archive) seals metadata number x (record { metadata = tests.table.metadatas.kind_is; is = is; asid_is = taken.1 }), taken.0)
taken_live asid g contents archive GuestPage source target OfRoot x seals tests is = absurd tests.slot_fits
taken_live asid g contents archive MetadataPage source target OfRoot x seals tests is = (is, (seals.root x is).kind_is)

-- the words that were archived
words_of : (kept : Option Archived) (words : List ℕ) → AreWordsOf kept words → (archived : Archived) × (kept ≡ Some archived) × (words ≡ archived.words)
words_of None words are = absurd are
words_of (Some archived) words are = (archived, refl, are)

spot_top : (slot : Slot) → same_spot (spot_of slot) (spot_of slot) ≡ true
spot_top (OfEntry metadata number) = spot_self metadata number
spot_top OfRoot = root_self

in_root : (slot : Slot) (root : Option MetaEntry) (y : MetaEntry) → root_with slot None root ≡ Some y → (same_spot InRoot (spot_of slot) ≡ false) × (root ≡ Some y)
in_root (OfEntry metadata number) root y is = (root_spot metadata number, is)
in_root OfRoot root y is = absurd (none_some y is)

kept_as : (kept : Option Archived) (archived : Archived) (words : List ℕ) → kept ≡ Some archived → words ≡ archived.words
    → words ≡ unwrap_or (option_map (λ (one : Archived). one.words) kept) []
kept_as kept archived words is same = same ∙ ap (λ (found : Option Archived). unwrap_or (option_map (λ (one : Archived). one.words) found) []) (sym is)

-- for the guest whose page it is
in_is : (asid g : ℕ) (contents : Contents) (archive : Archive) (what : What) (source target : ℕ) (slot : Slot) (words : List ℕ) (x : MetaEntry) → asid ≢ 0 → Seals asid (vault_of g contents archive)
    → InReady asid g contents archive what g source target slot words x
    → In asid (vault_of g contents archive) (vault_of g (contents_in what g target slot (opened_page words x) contents) archive) target (spot_of slot) x
in_is asid g contents archive what source target slot words x some seals ready =
    let new = contents_in what g target slot (opened_page words x) contents in
    let old = contents.contexts g in
    let context = guest_here g (with_root (root_with slot None old.root) old) contents.contexts in
    let taken = taken_live asid g contents archive what source target slot x seals ready.tests ready.in_use in
    let own = words_of (archive x.iv) words (ready.words_are refl) in
    record {
      top = spot_top slot;
      live = taken.0;
      counter_after = ap (λ (c : Context). c.iv) context;
      key = ap (λ (c : Context). c.key) context;
      pages = λ f e y is.
          ⊎_elim
          (λ (now : (f ≡ target) × (what ≡ MetadataPage) × (entry_at words e ≡ Some y)).
          inl (now.0, record { kind_is = taken.1 ∙ ap kind_of now.1; archived = own.0; kept = own.1; is = ap (λ (ws : List ℕ). entry_at ws e) (sym own.2) ∙ now.2 }))
          (λ (was : (same_spot (InEntry f e) (spot_of slot) ≡ false) × IsEntryOf asid (contents.pages f) e y). inr was)
          (in_entries asid asid contents.pages what source target slot words x ready.memory ready.tests f e y is);
      root = λ y is. in_root slot old.root y (ap (λ (c : Context). c.root) (sym context) ∙ is);
      archive = λ k. refl;
      frames = λ f gpn h.
          ⊎_elim
          (λ (now : (f ≡ target) × IsNowHeld asid asid what x words (new.pages f) gpn).
          inl (now.0, record { kind_is = taken.1 ∙ ap kind_of now.1.guest_page; validated = now.1.validated; gpn_is = now.1.gpn_is }, kept_as (archive x.iv) own.0 (new.pages f).words own.1 (now.1.words_are ∙ own.2)))
          (λ (was : IsHeldAs (contents.pages f).facts asid gpn × ((new.pages f).words ≡ (contents.pages f).words)). inr was)
          (in_frames asid asid contents.pages what source target slot words x some ready.tests f gpn h);
    }

-- for another guest
opens_owned : (what : What) (asid : ℕ) (words : List ℕ) (e : ℕ) (y : MetaEntry) → what ≡ MetadataPage → IsFull words → opens_as what asid words ≡ true → entry_at words e ≡ Some y → y.asid ≡ asid
opens_owned GuestPage asid words e y is full opens found = absurd (cc)
opens_owned MetadataPage asid words e y is full opens found = owned_use asid words e y full.whole opens found

in_fewer : (asid owner_asid g owner : ℕ) (contents : Contents) (archive : Archive) (what : What) (source target : ℕ) (slot : Slot) (words : List ℕ) (x : MetaEntry) → asid ≢ 0 → g ≢ owner → asid ≢ owner_asid
    → InReady owner_asid g contents archive what owner source target slot words x
    → Fewer asid (vault_of g contents archive) (vault_of g (contents_in what owner target slot (opened_page words x) contents) archive)
in_fewer asid owner_asid g owner contents archive what source target slot words x some other differ ready =
    let new = contents_in what owner target slot (opened_page words x) contents in
    let old = contents.contexts owner in
    let context = guest_off owner (with_root (root_with slot None old.root) old) contents.contexts g other in
    record {
      counter_after = ap (λ (c : Context). c.iv) context;
      key = ap (λ (c : Context). c.key) context;
      pages = λ f e y is.
          ⊎_elim
          (λ (now : (f ≡ target) × (what ≡ MetadataPage) × (entry_at words e ≡ Some y)).
          absurd (differ (sym is.asid_is ∙ opens_owned what owner_asid words e y now.1 ready.full ready.passes now.2)))
          (λ (was : (same_spot (InEntry f e) (spot_of slot) ≡ false) × IsEntryOf asid (contents.pages f) e y). was.1)
          (in_entries asid owner_asid contents.pages what source target slot words x ready.memory ready.tests f e y is);
      root = λ y is. ap (λ (c : Context). c.root) (sym context) ∙ is;
      archive = λ k. refl;
      frames = λ f gpn h.
          ⊎_elim
          (λ (now : (f ≡ target) × IsNowHeld asid owner_asid what x words (new.pages f) gpn). absurd (differ (sym now.1.owner_is)))
          (λ (was : IsHeldAs (contents.pages f).facts asid gpn × ((new.pages f).words ≡ (contents.pages f).words)). was)
          (in_frames asid owner_asid contents.pages what source target slot words x some ready.tests f gpn h);
    }

in_own : (asid g : ℕ) (contents : Contents) (archive : Archive) (memory : Memory) (what : What) (source target : ℕ) (slot : Slot) (words : List ℕ) (x : MetaEntry) → asid ≢ 0
    → InReady asid g contents archive what g source target slot words x → Ties asid (vault_of g contents archive) memory
    → Ties asid (vault_of g (contents_in what g target slot (opened_page words x) contents) archive) memory
in_own asid g contents archive memory what source target slot words x some ready ties =
    let old = vault_of g contents archive in
    let new = vault_of g (contents_in what g target slot (opened_page words x) contents) archive in
    let opens = in_is asid g contents archive what source target slot words x some ties.seals ready in
    record { core = in_core asid old new memory target (spot_of slot) x ties.seals opens ties.core; seals = in_seals asid old new target (spot_of slot) x ties.seals opens }

-- so for any guest, by the ASIDs of guests
pub in_ties : (asids : ℕ → ℕ) (g owner : ℕ) (contents : Contents) (archive : Archive) (memory : Memory) (what : What) (source target : ℕ) (slot : Slot) (words : List ℕ) (x : MetaEntry)
    → asids g ≢ 0 → (g ≢ owner → asids g ≢ asids owner)
    → InReady (asids owner) g contents archive what owner source target slot words x → Ties (asids g) (vault_of g contents archive) memory
    → Ties (asids g) (vault_of g (contents_in what owner target slot (opened_page words x) contents) archive) memory
in_ties asids g owner contents archive memory what source target slot words x some differ ready ties =
    ⊎_elim
    (λ (same : g ≡ owner).
    subst (λ (h : ℕ). InReady (asids h) g contents archive what h source target slot words x
    → Ties (asids g) (vault_of g (contents_in what h target slot (opened_page words x) contents) archive) memory)
    same (λ own. in_own (asids g) g contents archive memory what source target slot words x some own ties) ready)
    (λ (other : g ≡ owner → ⊥).
    ties_fewer (asids g) (vault_of g contents archive) (vault_of g (contents_in what owner target slot (opened_page words x) contents) archive) memory
    (in_fewer (asids g) (asids owner) g owner contents archive what source target slot words x some other (differ other) ready) ties)
    (cases_eq g owner)
