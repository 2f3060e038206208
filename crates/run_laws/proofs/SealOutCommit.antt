-- The commit of a command that seals a page keeps what ties each guest's pages to their holders.
use Rattle.std.proofs.Common.{◌≡◌, ◌≢◌, ℕ, ◌<◌, true, eqb, List, Option, Some, lt_irrefl, refl, sym, ap, ◌∙◌, subst, ◌⊎◌, inl, inr, ⊎_elim, arith}
use Rattle.std.proofs.lemmas.Bool.{cond_both, cases_eq, eqb-true, eqb-false, true≢false}
use Rattle.snp_model.specs.declared.entry.Kind.TheVariants as kinds
use Rattle.snp_model.specs.declared.entry.RmpEntry.{RmpEntry}
use Rattle.snp_model.specs.declared.firmware.MetaEntry.{MetaEntry}
use Rattle.snp_model.specs.FirmwareCommits.{at_guest, reclaim_facts, metadata_out_facts, counted, with_root}
use Rattle.snp_model.specs.GuestMemory.{Memory}
use Rattle.snp_model.specs.Holders.{IsHeldAs, IsSealedAs, Core}
use Rattle.snp_model.specs.Live.{Archived, Archive, Vault, vault_of, InEntry, InRoot}
use Rattle.snp_model.specs.Metadata.{IsMetaEntry, entry_at, with_entry}
use Rattle.snp_model.specs.Past.{archived}
use Rattle.snp_model.specs.Sealing.{What, GuestPage, MetadataPage, Slot, OfEntry, OfRoot, sealed_as, made_of, given_up, pages_out}
use Rattle.snp_model.specs.State.{Page, Pages, Context, Contents, Computed}
use Rattle.snp_model.proofs.MetadataLaws.{entry_at-with_entry}
use Rattle.run_laws.specs.Shapes.{AreFactsOf}
use Rattle.run_laws.specs.Uniqueness.{IsFull, IsSealOf, IsEntryOf, Seals}
use Rattle.run_laws.proofs.FreshLaws.{IsFitContext, fresh_of, fresh_counter, fresh_asid, fresh_kind, fresh_gpn, fresh_validated, fresh_fits, fresh_seals}
use Rattle.run_laws.proofs.SealingPages.{IfEntry, Apart, spot_of, table_page, out_each, guest_here, guest_off}
use Rattle.run_laws.proofs.SealingTests.{IsSealable, IsSlotOf, IsTable, OutTests, kind_of}
use Rattle.run_laws.proofs.SealOutLaws.{Fresh, Out, out_core, out_seals}
use Rattle.run_laws.proofs.SpotLaws.{Fewer, some_same, live_of, fewer_core, fewer_seals}
use Rattle.run_laws.proofs.TableLaws.{entry_at-with_other, owned_use}

-- the facts and the words of each page are in order
pub record IsFitMemory (pages : Pages) : Type 0 where
  pub facts : (f : ℕ) → AreFactsOf (pages f).facts
  pub words : (f : ℕ) → IsFull (pages f).words

-- a metadata page is assigned
pub metadata_assigned : (facts : RmpEntry) → AreFactsOf facts → facts.kind ≡ kinds.Metadata → facts.assigned ≡ true
metadata_assigned facts are is = (are.used (λ plain. metadata_plain (sym is ∙ plain))).assigned
  where
    metadata_plain : kinds.Metadata ≡ kinds.Plain → ⊥
    metadata_plain e = cc

-- and no guest's
pub metadata_nobodys : (facts : RmpEntry) → AreFactsOf facts → facts.kind ≡ kinds.Metadata → facts.asid ≡ 0
metadata_nobodys facts are is = (are.used (λ plain. metadata_plain (sym is ∙ plain))).no_guest
  where
    metadata_plain : kinds.Metadata ≡ kinds.Plain → ⊥
    metadata_plain e = cc

-- the context after the commit
abbrev pub root_with : Slot → Option MetaEntry → Option MetaEntry → Option MetaEntry
root_with (OfEntry metadata number) entry root = root
root_with OfRoot entry root = entry

abbrev pub contents_out : What → (owner source target : ℕ) → Slot → Computed → Contents → Contents
contents_out what owner source target slot made contents =
    let context = contents.contexts owner in
    record {
      pages = pages_out what source target slot made contents.pages;
      contexts = at_guest owner (with_root (root_with slot made.entry context.root) (counted context)) contents.contexts;
    }

-- the entries after it: the fresh one, or one that isn't of the page that was sealed
abbrev OutEntry : ℕ → Pages → ℕ → Slot → MetaEntry → ℕ → Page → Type 0
OutEntry asid pages source slot fresh f page =
    (e : ℕ) (y : MetaEntry) → IsEntryOf asid page e y → Fresh (spot_of slot) fresh (InEntry f e) y ⊎ ((f ≢ source) × IsEntryOf asid (pages f) e y)

given_up_plain : (what : What) (page : Page) → (given_up what page).facts.kind ≢ kinds.Metadata
unfolding reclaim_facts metadata_out_facts
given_up_plain GuestPage page is = cc
given_up_plain MetadataPage page is = cc

table_entries : (asid : ℕ) (pages : Pages) (source target : ℕ) (slot : Slot) (fresh : MetaEntry) → IsMetaEntry fresh → IsFitMemory pages → Apart source target slot → IfEntry slot (IsTable pages)
    → IfEntry slot (λ metadata number. OutEntry asid pages source slot fresh metadata (table_page number (Some fresh) (pages metadata)))
table_entries asid pages source target (OfEntry metadata number) fresh is_entry fits apart table = λ e y is.
    let words = (pages metadata).words in
    let long = (fits.words metadata).whole in
    ⊎_elim
    (λ (same : e ≡ number).
    let found : entry_at (with_entry words number fresh) number ≡ Some y = subst (λ (k : ℕ). entry_at (with_entry words number fresh) k ≡ Some y) same is.is in
    inl (ap (λ (k : ℕ). InEntry metadata k) same, some_same y fresh (sym found ∙ entry_at-with_entry words number fresh is_entry long table.below)))
    (λ (other : e ≡ number → ⊥).
    inr (apart.table_off.0, record { metadata = is.metadata; is = sym (entry_at-with_other words number e fresh is_entry long table.below other) ∙ is.is; asid_is = is.asid_is }))
    (cases_eq e number)
table_entries asid pages source target OfRoot fresh is_entry fits apart table = tt

out_entries : (asid owner : ℕ) (pages : Pages) (what : What) (source target : ℕ) (slot : Slot) (words : List ℕ) (fresh : MetaEntry) → IsMetaEntry fresh → IsFitMemory pages
    → OutTests owner pages what source target slot
    → (f : ℕ) → OutEntry asid pages source slot fresh f (pages_out what source target slot (record { words = words; entry = Some fresh }) pages f)
out_entries asid owner pages what source target slot words fresh is_entry fits tests =
    out_each (OutEntry asid pages source slot fresh) what source target slot (record { words = words; entry = Some fresh }) pages tests.apart
    (λ e y is. absurd (given_up_plain what (pages source) is.metadata))
    (λ e y is. absurd (true≢false (sym (metadata_assigned (pages target).facts (fits.facts target) is.metadata) ∙ tests.target_free)))
    (table_entries asid pages source target slot fresh is_entry fits tests.apart tests.table)
    (λ f other e y is. inr (other, is))

-- the frames that hold a page after it
abbrev OutFrame : ℕ → Pages → ℕ → ℕ → Page → Type 0
OutFrame asid pages source f page = (gpn : ℕ) → IsHeldAs page.facts asid gpn → (f ≢ source) × IsHeldAs (pages f).facts asid gpn × (page.words ≡ (pages f).words)

source_frames : (asid owner : ℕ) (pages : Pages) (what : What) (source : ℕ) → asid ≢ 0 → IsSealable owner what (pages source) → OutFrame asid pages source source (given_up what (pages source))
unfolding reclaim_facts metadata_out_facts
source_frames asid owner pages GuestPage source some is = λ gpn h. absurd (some (sym h.asid_is))
source_frames asid owner pages MetadataPage source some is = λ gpn h. absurd (some (sym h.asid_is ∙ is.0.firmwares.no_guest))

table_frames : (asid : ℕ) (pages : Pages) (source : ℕ) (slot : Slot) (entry : Option MetaEntry) → asid ≢ 0 → IfEntry slot (IsTable pages)
    → IfEntry slot (λ metadata number. OutFrame asid pages source metadata (table_page number entry (pages metadata)))
table_frames asid pages source (OfEntry metadata number) entry some table = λ gpn h. absurd (some (sym h.asid_is ∙ table.metadatas.firmwares.no_guest))
table_frames asid pages source OfRoot entry some table = tt

out_frames : (asid owner : ℕ) (pages : Pages) (what : What) (source target : ℕ) (slot : Slot) (made : Computed) → asid ≢ 0 → OutTests owner pages what source target slot
    → (f : ℕ) → OutFrame asid pages source f (pages_out what source target slot made pages f)
out_frames asid owner pages what source target slot made some tests =
    out_each (OutFrame asid pages source) what source target slot made pages tests.apart (source_frames asid owner pages what source some tests.sealable)
    (λ gpn h. absurd (true≢false (sym h.assigned ∙ tests.target_free))) (table_frames asid pages source slot made.entry some tests.table) (λ f other gpn h. (other, h, refl))

-- the archive after it
archived_off : (owner counter : ℕ) (words cipher : List ℕ) (archive : ℕ → Archive) (g k : ℕ) → g ≢ owner → archived owner counter words cipher archive g k ≡ archive g k
unfolding archived
archived_off owner counter words cipher archive g k other =
    cond_both (eqb owner g) _ _ (λ (found : Option Archived). found ≡ archive g k) (λ is. absurd (other (sym (eqb-true owner g is)))) (λ _. refl)

archived_earlier : (owner counter : ℕ) (words cipher : List ℕ) (archive : ℕ → Archive) (k : ℕ) → k ≢ counter → archived owner counter words cipher archive owner k ≡ archive owner k
unfolding archived
archived_earlier owner counter words cipher archive k other =
    cond_both (eqb owner owner) _ _ (λ (found : Option Archived). found ≡ archive owner k)
    (λ _. cond_both (eqb counter k) _ _ (λ (found : Option Archived). found ≡ archive owner k) (λ is. absurd (other (sym (eqb-true counter k is)))) (λ _. refl))
    (λ _. refl)

archived_here : (owner counter : ℕ) (words cipher : List ℕ) (archive : ℕ → Archive) (k : ℕ) → k ≡ counter
    → archived owner counter words cipher archive owner k ≡ Some (record { words = words; cipher = cipher })
unfolding archived
archived_here owner counter words cipher archive k same =
    cond_both (eqb owner owner) _ _ (λ (found : Option Archived). found ≡ Some (record { words = words; cipher = cipher }))
    (λ _. cond_both (eqb counter k) _ _ (λ (found : Option Archived). found ≡ Some (record { words = words; cipher = cipher })) (λ _. refl) (λ other. absurd (eqb-false counter k other (sym same))))
    (λ other. absurd (eqb-false owner owner other refl))

-- what a commit that seals a page goes by
pub record OutReady (asid : ℕ) (contents : Contents) (what : What) (owner source target : ℕ) (slot : Slot) : Type 0 where
  pub tests : OutTests asid contents.pages what source target slot
  pub memory : IsFitMemory contents.pages
  pub context : IsFitContext (contents.contexts owner)
  pub asid_is : (contents.contexts owner).asid ≡ asid

-- an entry of the page that is sealed, and the page
one_two : (n : ℕ) → n ≡ 1 → n ≡ 2 → ⊥
one_two n e d = omega arith

fresh_inner : (asid : ℕ) (what : What) (page : Page) → IsFull page.words → IsSealable asid what page → kind_of what ≡ 2
    → (e : ℕ) (x : MetaEntry) → entry_at page.words e ≡ Some x → IsEntryOf asid page e x
fresh_inner asid GuestPage page full is kind e x found = absurd (one_two 1 refl kind)
fresh_inner asid MetadataPage page full is kind e x found =
    record { metadata = is.0.kind_is; is = found; asid_is = owned_use asid page.words e x full.whole is.1 found }

fresh_page : (asid : ℕ) (what : What) (context : Context) (page : Page) → IsSealable asid what page → (gpn : ℕ) → IsSealedAs (fresh_of what context page) gpn → IsHeldAs page.facts asid gpn
fresh_page asid GuestPage context page is gpn sealed =
    record { assigned = is.0.assigned; validated = sym (fresh_validated context page) ∙ sealed.validated; asid_is = is.1; gpn_is = sym (fresh_gpn context page) ∙ sealed.gpn_is }
fresh_page asid MetadataPage context page is gpn sealed = absurd (one_two (fresh_of MetadataPage context page).kind sealed.kind_is (fresh_kind MetadataPage context page))

-- the root after it
out_root : (asid : ℕ) (what : What) (context : Context) (page : Page) (slot : Slot) → context.asid ≡ asid → IsSlotOf what slot
    → (x : MetaEntry) → root_with slot (Some (fresh_of what context page)) context.root ≡ Some x
    → (Fresh (spot_of slot) (fresh_of what context page) InRoot x × (x.kind ≡ 2) × (x.asid ≡ asid)) ⊎ (context.root ≡ Some x)
out_root asid what context page (OfEntry metadata number) asid_is fits x is = inr is
out_root asid GuestPage context page OfRoot asid_is fits x is = absurd fits
out_root asid MetadataPage context page OfRoot asid_is fits x is =
    let same = some_same x (fresh_of MetadataPage context page) (sym is) in
    inl ((refl, same), ap (λ (y : MetaEntry). y.kind) same ∙ fresh_kind MetadataPage context page, ap (λ (y : MetaEntry). y.asid) same ∙ fresh_asid MetadataPage context page ∙ asid_is)

-- for the guest whose page it is
out_is : (asid g : ℕ) (contents : Contents) (archive : ℕ → Archive) (what : What) (source target : ℕ) (slot : Slot) (taken : List ℕ) → asid ≢ 0
    → OutReady asid contents what g source target slot → taken ≡ (contents.pages source).words
    → let made = made_of (sealed_as what (contents.contexts g) (contents.pages source)) in
    let fresh = fresh_of what (contents.contexts g) (contents.pages source) in
    Out asid (vault_of g contents (archive g)) (vault_of g (contents_out what g source target slot made contents) (archived g fresh.iv taken made.words archive g)) source (spot_of slot) fresh
    (record { words = taken; cipher = made.words })
out_is asid g contents archive what source target slot taken some ready taken_are =
    let page = contents.pages source in
    let old = contents.contexts g in
    let fresh = fresh_of what old page in
    let cipher = (sealed_as what old page).words in
    let made = made_of (sealed_as what old page) in
    let context = guest_here g (with_root (root_with slot made.entry old.root) (counted old)) contents.contexts in
    let iv = fresh_counter what old page in
    record {
      counter = iv;
      counter_after = ap (λ (c : Context). c.iv) context;
      key = ap (λ (c : Context). c.key) context;
      pages = out_entries asid asid contents.pages what source target slot cipher fresh (fresh_fits what old page ready.context (ready.memory.facts source).ranges) ready.memory ready.tests;
      root = λ x is. out_root asid what old page slot ready.asid_is ready.tests.slot_fits x (ap (λ (c : Context). c.root) (sym context) ∙ is);
      earlier = λ k low. archived_earlier g fresh.iv taken cipher archive k (λ same. lt_irrefl k (subst (λ (n : ℕ). k < n) (sym (same ∙ iv)) low));
      kept = archived_here g fresh.iv taken cipher archive old.iv (sym iv);
      seals = subst (λ (words : List ℕ). IsSealOf old.key (record { words = words; cipher = cipher }) fresh) (sym taken_are) (fresh_seals what old page (ready.memory.words source));
      inner = λ kind e x is.
          fresh_inner asid what page (ready.memory.words source) ready.tests.sealable (sym (fresh_kind what old page) ∙ kind) e x (ap (λ (words : List ℕ). entry_at words e) (sym taken_are) ∙ is);
      frames = out_frames asid asid contents.pages what source target slot made some ready.tests;
      page = λ gpn is. (fresh_page asid what old page ready.tests.sealable gpn is, taken_are);
    }

-- for another guest
out_fewer : (asid owner_asid g owner : ℕ) (contents : Contents) (archive : ℕ → Archive) (what : What) (source target : ℕ) (slot : Slot) (taken : List ℕ) → asid ≢ 0 → g ≢ owner → asid ≢ owner_asid
    → OutReady owner_asid contents what owner source target slot
    → let made = made_of (sealed_as what (contents.contexts owner) (contents.pages source)) in
    let fresh = fresh_of what (contents.contexts owner) (contents.pages source) in
    Fewer asid (vault_of g contents (archive g)) (vault_of g (contents_out what owner source target slot made contents) (archived owner fresh.iv taken made.words archive g))
out_fewer asid owner_asid g owner contents archive what source target slot taken some other differ ready =
    let page = contents.pages source in
    let old = contents.contexts owner in
    let fresh = fresh_of what old page in
    let made = made_of (sealed_as what old page) in
    let context = guest_off owner (with_root (root_with slot made.entry old.root) (counted old)) contents.contexts g other in
    record {
      counter_after = ap (λ (c : Context). c.iv) context;
      key = ap (λ (c : Context). c.key) context;
      pages = λ f e y is.
          ⊎_elim
          (λ (now : Fresh (spot_of slot) fresh (InEntry f e) y).
          absurd (differ (sym is.asid_is ∙ ap (λ (x : MetaEntry). x.asid) now.1 ∙ fresh_asid what old page ∙ ready.asid_is)))
          (λ (was : (f ≢ source) × IsEntryOf asid (contents.pages f) e y). was.1)
          (out_entries asid owner_asid contents.pages what source target slot made.words fresh (fresh_fits what old page ready.context (ready.memory.facts source).ranges) ready.memory ready.tests f e y is);
      root = λ x is. ap (λ (c : Context). c.root) (sym context) ∙ is;
      archive = λ k. archived_off owner fresh.iv taken made.words archive g k other;
      frames = λ f gpn h. let was = out_frames asid owner_asid contents.pages what source target slot made some ready.tests f gpn h in (was.1, was.2);
    }

-- what ties a guest's pages to their holders
pub record Ties (asid : ℕ) (vault : Vault) (memory : Memory) : Type 0 where
  pub core : Core asid vault memory
  pub seals : Seals asid vault

pub ties_fewer : (asid : ℕ) (old new : Vault) (memory : Memory) → Fewer asid old new → Ties asid old memory → Ties asid new memory
ties_fewer asid old new memory fewer ties =
    record { core = fewer_core asid old new memory ties.seals fewer ties.core; seals = fewer_seals asid old new ties.seals (live_of asid old new fewer) }

out_own : (asid g : ℕ) (contents : Contents) (archive : ℕ → Archive) (memory : Memory) (what : What) (source target : ℕ) (slot : Slot) (taken : List ℕ) → asid ≢ 0
    → OutReady asid contents what g source target slot → taken ≡ (contents.pages source).words → Ties asid (vault_of g contents (archive g)) memory
    → let made = made_of (sealed_as what (contents.contexts g) (contents.pages source)) in
    let fresh = fresh_of what (contents.contexts g) (contents.pages source) in
    Ties asid (vault_of g (contents_out what g source target slot made contents) (archived g fresh.iv taken made.words archive g)) memory
out_own asid g contents archive memory what source target slot taken some ready taken_are ties =
    let fresh = fresh_of what (contents.contexts g) (contents.pages source) in
    let made = made_of (sealed_as what (contents.contexts g) (contents.pages source)) in
    let old = vault_of g contents (archive g) in
    let new = vault_of g (contents_out what g source target slot made contents) (archived g fresh.iv taken made.words archive g) in
    let out = out_is asid g contents archive what source target slot taken some ready taken_are in
    record {
      core = out_core asid old new memory source (spot_of slot) fresh (record { words = taken; cipher = made.words }) ties.seals out ties.core;
      seals = out_seals asid old new source (spot_of slot) fresh (record { words = taken; cipher = made.words }) ties.seals out;
    }

-- so for any guest, by the ASIDs of guests
pub out_ties : (asids : ℕ → ℕ) (g owner : ℕ) (contents : Contents) (archive : ℕ → Archive) (memory : Memory) (what : What) (source target : ℕ) (slot : Slot) (taken : List ℕ)
    → asids g ≢ 0 → (g ≢ owner → asids g ≢ asids owner)
    → OutReady (asids owner) contents what owner source target slot → taken ≡ (contents.pages source).words → Ties (asids g) (vault_of g contents (archive g)) memory
    → let made = made_of (sealed_as what (contents.contexts owner) (contents.pages source)) in
    let fresh = fresh_of what (contents.contexts owner) (contents.pages source) in
    Ties (asids g) (vault_of g (contents_out what owner source target slot made contents) (archived owner fresh.iv taken made.words archive g)) memory
out_ties asids g owner contents archive memory what source target slot taken some differ ready taken_are ties =
    ⊎_elim
    (λ (same : g ≡ owner).
    subst (λ (h : ℕ). OutReady (asids h) contents what h source target slot
    → Ties (asids g) (vault_of g (contents_out what h source target slot (made_of (sealed_as what (contents.contexts h) (contents.pages source))) contents)
    (archived h (fresh_of what (contents.contexts h) (contents.pages source)).iv taken (sealed_as what (contents.contexts h) (contents.pages source)).words archive g)) memory)
    same (λ own. out_own (asids g) g contents archive memory what source target slot taken some own taken_are ties) ready)
    (λ (other : g ≡ owner → ⊥).
    let made = made_of (sealed_as what (contents.contexts owner) (contents.pages source)) in
    let fresh = fresh_of what (contents.contexts owner) (contents.pages source) in
    ties_fewer (asids g) (vault_of g contents (archive g)) (vault_of g (contents_out what owner source target slot made contents) (archived owner fresh.iv taken made.words archive g)) memory
    (out_fewer (asids g) (asids owner) g owner contents archive what source target slot taken some other (differ other) ready) ties)
    (cases_eq g owner)
