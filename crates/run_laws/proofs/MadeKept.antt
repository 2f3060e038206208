-- What a compute has made is still so after an event of another actor, which leaves what is locked as it was.
use Rattle.std.proofs.Common.{◌≡◌, ℕ, ◌<◌, true, IfSome, List, length, get_or, Option, Some, None, slice_get, refl, sym, ap, ◌∙◌, subst, arith}
use Rattle.std.proofs.lemmas.List.Folds.{list_any_at}
use Rattle.std.proofs.lemmas.Option.{slice_get_within, slice_get-get_or}
use Rattle.std.specs.List.{list_any}
use Rattle.snp_model.specs.declared.command.Command.{Command}
use Rattle.snp_model.specs.declared.command.Command.TheVariants as commands
use Rattle.snp_model.specs.declared.entry.PageSize.TheVariants.{Small}
use Rattle.snp_model.specs.declared.entry.RmpEntry.{RmpEntry}
use Rattle.snp_model.specs.declared.firmware.Part.TheVariants.{Source, Metadata}
use Rattle.snp_model.specs.declared.scenario.GuestSpec.{GuestSpec}
use Rattle.snp_model.specs.Firmware.{CommandPage, guest_of, pages_of, entry_of}
use Rattle.snp_model.specs.FirmwareStep.{command_asid}
use Rattle.snp_model.specs.Live.{Archive}
use Rattle.snp_model.specs.Locks.{covers, page_lock}
use Rattle.snp_model.specs.Metadata.{entry_at}
use Rattle.snp_model.specs.Sealing.{What, GuestPage, MetadataPage, Slot, OfEntry, OfRoot, Sealing, SealOut, SealIn, sealing_of, slot_entry, sealed_as, made_of, opens_as}
use Rattle.snp_model.specs.State.{Page, Context, Contents, Computed, Standing, PageLock}
use Rattle.run_laws.specs.HeldLocks.{AreCommandLocks}
use Rattle.run_laws.specs.MadePages.{AreWordsOf, IsSealNow, IsOpenedNow, IsMadeOf, IsMade}
use Rattle.run_laws.proofs.LockLaws.{own_covered}
use Rattle.run_laws.proofs.LockedMoves.{IsFirm}
use Rattle.run_laws.proofs.SealingPages.{IfEntry}
use Rattle.run_laws.proofs.SealingTests.{IsSealable, IsTable, OutTests, InTests, SealingTests, sealing_tests}

-- the pages and the context that a sealing goes by are as they were, and so is the guest's archive where it is the owner
abbrev pub LeavesSealing : ℕ → (old new : Contents) → (archive later : Archive) → Option Sealing → Type 0
LeavesSealing g old new archive later None = Unit {0}
LeavesSealing g old new archive later (Some (SealOut what owner source target slot)) = (new.contexts owner ≡ old.contexts owner) × IsFirm (new.pages source) (old.pages source)
LeavesSealing g old new archive later (Some (SealIn what owner source target slot)) =
    (new.contexts owner ≡ old.contexts owner) × IfEntry slot (λ metadata number. IsFirm (new.pages metadata) (old.pages metadata)) × (g ≡ owner → (k : ℕ) → later k ≡ archive k)

-- a page that is kept from its guest, or the firmware's, stays as a whole
page_same : (new old : Page) → new.facts ≡ old.facts → new.words ≡ old.words → new ≡ old
page_same new old facts words = ap (λ (f : RmpEntry). record { facts = f; words = new.words }) facts ∙ ap (λ (w : List ℕ). record { facts = old.facts; words = w }) words

source_stays : (asid : ℕ) (what : What) (new old : Page) → IsSealable asid what old → IsFirm new old → new ≡ old
source_stays asid GuestPage new old is firm = page_same new old firm.facts (firm.words is.0.assigned is.0.immutable)
source_stays asid MetadataPage new old is firm = page_same new old firm.facts (firm.words is.0.firmwares.assigned is.0.firmwares.immutable)

-- what was sealed
sealed_stays : (asid : ℕ) (old new : Contents) (taken : List ℕ) (what : What) (owner source target : ℕ) (slot : Slot) (made : Computed) → OutTests asid old.pages what source target slot
    → new.contexts owner ≡ old.contexts owner → IsFirm (new.pages source) (old.pages source) → IsSealNow old taken what owner source made → IsSealNow new taken what owner source made
sealed_stays asid old new taken what owner source target slot made tests context firm is =
    let page = source_stays asid what (new.pages source) (old.pages source) tests.sealable firm in
    record {
      seals = is.seals ∙ ap (λ (c : Context). made_of (sealed_as what c (old.pages source))) (sym context) ∙ ap (λ (p : Page). made_of (sealed_as what (new.contexts owner) p)) (sym page);
      taken_are = is.taken_are ∙ ap (λ (p : Page). p.words) (sym page);
    }

-- what was opened
slot_stays : (old new : Contents) (owner : ℕ) (slot : Slot) → new.contexts owner ≡ old.contexts owner → IfEntry slot (IsTable old.pages)
    → IfEntry slot (λ metadata number. IsFirm (new.pages metadata) (old.pages metadata))
    → slot_entry new.pages (new.contexts owner) slot ≡ slot_entry old.pages (old.contexts owner) slot
slot_stays old new owner (OfEntry metadata number) context table firm =
    ap (λ (words : List ℕ). entry_at words number) (firm.words table.metadatas.firmwares.assigned table.metadatas.firmwares.immutable)
slot_stays old new owner OfRoot context table firm = ap (λ (c : Context). c.root) context

opened_stays : (asid g : ℕ) (old new : Contents) (archive later : Archive) (what : What) (owner source target : ℕ) (slot : Slot) (made : Computed) → InTests asid old.pages what source target slot
    → new.contexts owner ≡ old.contexts owner → IfEntry slot (λ metadata number. IsFirm (new.pages metadata) (old.pages metadata)) → (g ≡ owner → (k : ℕ) → later k ≡ archive k)
    → IsOpenedNow g old archive what owner slot made → IsOpenedNow g new later what owner slot made
opened_stays asid g old new archive later what owner source target slot made tests context firm same is = record {
  entry = is.entry;
  entry_is = is.entry_is;
  in_use = slot_stays old new owner slot context tests.table firm ∙ is.in_use;
  passes = ap (λ (c : Context). opens_as what c.asid made.words) context ∙ is.passes;
  words_are = λ own. subst (λ (kept : Option _). AreWordsOf kept made.words) (sym (same own is.entry.iv)) (is.words_are own);
}

-- so whatever the sealing is
pub made_of_stays : (asid g : ℕ) (old new : Contents) (archive later : Archive) (taken : List ℕ) (sealing : Option Sealing) (made : Computed) → SealingTests asid old.pages sealing
    → LeavesSealing g old new archive later sealing → IsMadeOf g old archive taken sealing made → IsMadeOf g new later taken sealing made
made_of_stays asid g old new archive later taken None made tests leaves is = is
made_of_stays asid g old new archive later taken (Some (SealOut what owner source target slot)) made tests leaves is =
    sealed_stays asid old new taken what owner source target slot made tests leaves.0 leaves.1 is
made_of_stays asid g old new archive later taken (Some (SealIn what owner source target slot)) made tests leaves is =
    opened_stays asid g old new archive later what owner source target slot made tests leaves.0 leaves.1 leaves.2 is

-- what an event leaves of what an attempt has locked
pub record LeavesLocked (g : ℕ) (old new : Contents) (archive later : Archive) (standing : Standing) : Type 0 where
  pub pages : (f : ℕ) → list_any (covers f) standing.locks ≡ true → IsFirm (new.pages f) (old.pages f)
  pub contexts : (h : ℕ) → standing.context_lock ≡ Some h → new.contexts h ≡ old.contexts h
  pub archive_is : standing.context_lock ≡ Some g → (k : ℕ) → later k ≡ archive k

-- a page of a command is locked, once all are
same_some : {X : Type 0} (x y : X) → Some x ≡ Some y → x ≡ y
same_some x y e = cc

page_locked : (frames : ℕ) (guests : List GuestSpec) (contents : Contents) (command : Command) (standing : Standing) → AreCommandLocks frames guests contents command standing
    → length standing.locks ≡ length (pages_of command) → (number : ℕ) (page : CommandPage) → slice_get (pages_of command) number ≡ Some page → list_any (covers page.frame) standing.locks ≡ true
page_locked frames guests contents command standing tested all number page is =
    let within : number < length (pages_of command) = slice_get_within (pages_of command) number page is in
    let no_lock = page_lock Small 0 in
    let lock = get_or standing.locks number no_lock in
    let of = tested.pages number lock (slice_get-get_or standing.locks number no_lock (omega arith)) in
    let same : of.page ≡ page = same_some of.page page (sym of.page_is ∙ is) in
    let inside : covers of.page.frame lock ≡ true = subst (λ (l : PageLock). covers of.page.frame l ≡ true) (sym of.covers) (own_covered (contents.pages of.page.frame).facts.size of.page.frame) in
    list_any_at (covers page.frame) standing.locks number no_lock (omega arith) (subst (λ (p : CommandPage). covers p.frame lock ≡ true) same inside)

-- so each command
abbrev Locked : Command → Standing → Type 0
Locked command standing = (number : ℕ) (page : CommandPage) → slice_get (pages_of command) number ≡ Some page → list_any (covers page.frame) standing.locks ≡ true

own_archive : (g owner : ℕ) (archive later : Archive) (locked : Option ℕ) → locked ≡ Some owner → (locked ≡ Some g → (k : ℕ) → later k ≡ archive k) → g ≡ owner → (k : ℕ) → later k ≡ archive k
own_archive g owner archive later locked is same own = same (is ∙ ap (λ (h : ℕ). Some h) (sym own))

leaves_sealing : (g : ℕ) (old new : Contents) (archive later : Archive) (command : Command) (standing : Standing) → LeavesLocked g old new archive later standing → standing.context_lock ≡ guest_of command
    → Locked command standing → LeavesSealing g old new archive later (sealing_of command)
unfolding sealing_of guest_of pages_of
leaves_sealing g old new archive later (commands.GctxCreate guest frame) standing leaves context locked = tt
leaves_sealing g old new archive later (commands.Activate guest asid) standing leaves context locked = tt
leaves_sealing g old new archive later (commands.LaunchStart guest) standing leaves context locked = tt
leaves_sealing g old new archive later (commands.LaunchUpdate guest frame page_type imi perms) standing leaves context locked = tt
leaves_sealing g old new archive later (commands.LaunchFinish guest) standing leaves context locked = tt
leaves_sealing g old new archive later (commands.MdInit frame) standing leaves context locked = tt
leaves_sealing g old new archive later (commands.PageMove guest source target) standing leaves context locked = tt
leaves_sealing g old new archive later (commands.SwapOut guest source target metadata entry) standing leaves context locked =
    (leaves.contexts guest context, leaves.pages source (locked 0 (record { part = Source; frame = source }) refl))
leaves_sealing g old new archive later (commands.SwapIn guest source target metadata entry) standing leaves context locked =
    (leaves.contexts guest context, leaves.pages metadata (locked 2 (record { part = Metadata; frame = metadata }) refl), own_archive g guest archive later standing.context_lock context leaves.archive_is)
leaves_sealing g old new archive later (commands.Reclaim frame) standing leaves context locked = tt
leaves_sealing g old new archive later (commands.MdOut guest source target metadata entry) standing leaves context locked =
    (leaves.contexts guest context, leaves.pages source (locked 0 (record { part = Source; frame = source }) refl))
leaves_sealing g old new archive later (commands.MdIn guest source target metadata entry) standing leaves context locked =
    (leaves.contexts guest context, leaves.pages metadata (locked 2 (record { part = Metadata; frame = metadata }) refl), own_archive g guest archive later standing.context_lock context leaves.archive_is)
leaves_sealing g old new archive later (commands.MdRootOut guest source target) standing leaves context locked =
    (leaves.contexts guest context, leaves.pages source (locked 0 (record { part = Source; frame = source }) refl))
leaves_sealing g old new archive later (commands.MdRootIn guest source target) standing leaves context locked =
    (leaves.contexts guest context, tt, own_archive g guest archive later standing.context_lock context leaves.archive_is)

-- a command without a guest seals nothing
abbrev pub IsSealingOf : Option ℕ → Command → Type 0
IsSealingOf None command = sealing_of command ≡ None
IsSealingOf (Some guest) command = Unit {0}

-- what was tested of an attempt whose context lock is its command's
pub tests_of : (frames : ℕ) (guests : List GuestSpec) (contents : Contents) (command : Command) (standing : Standing) → AreCommandLocks frames guests contents command standing
    → (owner : Option ℕ) → guest_of command ≡ owner → standing.context_lock ≡ owner → length standing.locks ≡ length (pages_of command) → IfSome (entry_of command) (λ (n : ℕ). n < 64)
    → IsSealingOf owner command → SealingTests (command_asid guests command) contents.pages (sealing_of command)
tests_of frames guests contents command standing tested None guest_is context all below none = subst (λ (sealing : Option Sealing). SealingTests (command_asid guests command) contents.pages sealing) (sym none) tt
tests_of frames guests contents command standing tested (Some guest) guest_is context all below none = sealing_tests frames guests contents command standing guest tested context all below

-- which is so
pub guestless : (command : Command) → IsSealingOf (guest_of command) command
unfolding guest_of sealing_of
guestless (commands.GctxCreate guest frame) = tt
guestless (commands.Activate guest asid) = tt
guestless (commands.LaunchStart guest) = tt
guestless (commands.LaunchUpdate guest frame page_type imi perms) = tt
guestless (commands.LaunchFinish guest) = tt
guestless (commands.MdInit frame) = refl
guestless (commands.PageMove guest source target) = tt
guestless (commands.SwapOut guest source target metadata entry) = tt
guestless (commands.SwapIn guest source target metadata entry) = tt
guestless (commands.Reclaim frame) = refl
guestless (commands.MdOut guest source target metadata entry) = tt
guestless (commands.MdIn guest source target metadata entry) = tt
guestless (commands.MdRootOut guest source target) = tt
guestless (commands.MdRootIn guest source target) = tt

-- what an attempt has made is still so after an event that leaves what it has locked
pub made_stays : (frames : ℕ) (guests : List GuestSpec) (g : ℕ) (old new : Contents) (archive later : Archive) (taken : List ℕ) (command : Command) (standing : Standing) (made : Computed)
    → AreCommandLocks frames guests old command standing → IfSome (entry_of command) (λ (n : ℕ). n < 64) → LeavesLocked g old new archive later standing
    → IsMade g old archive taken command standing made → IsMade g new later taken command standing made
made_stays frames guests g old new archive later taken command standing made tested below leaves is = record {
  context = is.context;
  pages = is.pages;
  full = is.full;
  as_made = made_of_stays (command_asid guests command) g old new archive later taken (sealing_of command) made
      (tests_of frames guests old command standing tested (guest_of command) refl is.context is.pages below (guestless command))
      (leaves_sealing g old new archive later command standing leaves is.context (page_locked frames guests old command standing tested is.pages)) is.as_made;
}
