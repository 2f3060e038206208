-- That the locks of pages and contexts have one holder each, that what their tests asked still holds, and that what is locked stays as it is (this project's own).
use Rattle.std.specs.Prelude.{◌≡◌, ℕ, ◌+◌, ◌<◌, Bool, true, List, [], ◌∷◌, slice_get, Option, Some, None}
use Rattle.std.specs.Option.{option_or}
use Rattle.snp_model.specs.declared.access.Place.{Place}
use Rattle.snp_model.specs.declared.command.Command.{Command}
use Rattle.snp_model.specs.declared.entry.Kind.TheVariants as kinds
use Rattle.snp_model.specs.declared.entry.PageSize.{PageSize}
use Rattle.snp_model.specs.declared.entry.RmpEntry.{RmpEntry}
use Rattle.snp_model.specs.declared.event.Deed.{Deed}
use Rattle.snp_model.specs.declared.event.Refusal.{Refusal}
use Rattle.snp_model.specs.declared.item.Item.{Item}
use Rattle.snp_model.specs.declared.item.Item.TheVariants as items
use Rattle.snp_model.specs.declared.item.Update.{Update}
use Rattle.snp_model.specs.declared.scenario.GuestSpec.{GuestSpec}
use Rattle.snp_model.specs.declared.scenario.Role.{Role}
use Rattle.snp_model.specs.declared.scenario.Role.TheVariants.{Cpu, Host, Firmware}
use Rattle.snp_model.specs.declared.walk.Need.TheVariants as needs
use Rattle.snp_model.specs.Firmware.{CommandPage, guest_of, pages_of}
use Rattle.snp_model.specs.FirmwareLocks.{guest_refusal, context_refusal}
use Rattle.snp_model.specs.FirmwareStep.{command_asid, lock_refusal}
use Rattle.snp_model.specs.InstructionStep.{facts_of, page_lookup, page_place}
use Rattle.snp_model.specs.Locks.{page_lock, locks_frame, locks_context}
use Rattle.snp_model.specs.Opening.{asid_of}
use Rattle.snp_model.specs.RmpUpdate.{update_refusal, update_lock, smash_refusal}
use Rattle.snp_model.specs.Run.{IsDefinedFrom, state_from}
use Rattle.snp_model.specs.State.{Page, Contents, PageLock, Standing, nothing_taken, ActorPart, State, part_of}
use Rattle.snp_model.specs.Step.{after, line_at}
use Rattle.snp_model.specs.Validation.{validate_refusal, adjust_refusal}
use Rattle.snp_model.specs.Walking.{Processor, need_after}

-- One holder

-- no frame is locked by two actors, and no context
pub record AreExclusive (m : State) : Type 0 where
  pub frames : (frame one other : ℕ) → 0 < one → 0 < other
      → locks_frame frame (part_of m one) ≡ true → locks_frame frame (part_of m other) ≡ true → one ≡ other
  pub contexts : (guest one other : ℕ) → 0 < one → 0 < other
      → locks_context guest (part_of m one) ≡ true → locks_context guest (part_of m other) ≡ true → one ≡ other

-- What the tests asked

-- a lock of RMPUPDATE covers its range, and what its tests asked of the range still holds
pub record IsUpdateLock (frames : ℕ) (contents : Contents) (update : Update) (lock : PageLock) : Type 0 where
  pub covers : lock ≡ update_lock update
  pub passes : update_refusal frames update (λ place. facts_of contents (update.frame + place)) (λ place. None) ≡ None

-- a lock of PSMASH covers the page in which its frame stands, and what its tests asked still holds
pub record IsSmashLock (frames : ℕ) (contents : Contents) (frame : ℕ) (lock : PageLock) : Type 0 where
  pub covers : lock ≡ page_lock (facts_of contents frame).size frame
  pub passes : smash_refusal frames frame (facts_of contents frame) None ≡ None

-- what an instruction of a guest's processor tests of the page to which its walk has led, by the place and the facts of its frame
abbrev pub PageTest : Type 0
PageTest = Place → RmpEntry → Option Refusal

-- that of PVALIDATE
abbrev pub validate_test : PageSize → PageTest
validate_test size place facts = validate_refusal place size facts None

-- that of RMPADJUST
abbrev pub adjust_test : PageSize → ℕ → Bool → PageTest
adjust_test size mask vmsa place facts = adjust_refusal place size mask vmsa facts None

-- a lock of such an instruction covers the page in which the frame stands to which its walk has led, and what its tests asked still holds
pub record IsWalkedLock (frames : ℕ) (guests : List GuestSpec) (contents : Contents) (cpu : Processor) (address : ℕ) (test : PageTest) (made : List Deed) (lock : PageLock) : Type 0 where
  pub gpn : ℕ
  pub private : Bool
  pub leaf : PageSize
  pub arrived : need_after frames cpu (page_lookup address) made ≡ needs.Data gpn private lock.frame leaf
  pub covers : lock ≡ page_lock (facts_of contents lock.frame).size lock.frame
  pub passes : test (page_place (asid_of guests cpu.guest) cpu.vmpl gpn lock.frame leaf) (facts_of contents lock.frame) ≡ None

-- a lock of a command, by the number of the page: it covers the page in which the command's frame stands, and what its tests asked of facts and words still holds
pub record IsCommandLock (frames : ℕ) (guests : List GuestSpec) (contents : Contents) (command : Command) (number : ℕ) (lock : PageLock) : Type 0 where
  pub page : CommandPage
  pub page_is : slice_get (pages_of command) number ≡ Some page
  pub covers : lock ≡ page_lock (facts_of contents page.frame).size page.frame
  pub passes : lock_refusal frames (command_asid guests command) command page (contents.pages page.frame) None ≡ None

-- a context that a command has locked is that of its guest, and what its tests asked still holds
pub record IsCommandContext (guests : List GuestSpec) (contents : Contents) (command : Command) (guest : ℕ) : Type 0 where
  pub guest_is : guest_of command ≡ Some guest
  pub passes : option_or (guest_refusal guests guest) (context_refusal guests command (contents.contexts guest) None) ≡ None

-- so of each lock of a command, the oldest being that of its first page
pub record AreCommandLocks (frames : ℕ) (guests : List GuestSpec) (contents : Contents) (command : Command) (standing : Standing) : Type 0 where
  pub pages : (number : ℕ) (lock : PageLock) → slice_get standing.locks number ≡ Some lock → IsCommandLock frames guests contents command number lock
  pub context : (guest : ℕ) → standing.context_lock ≡ Some guest → IsCommandContext guests contents command guest

-- of what an attempt has locked, which is one page at most, this holds
abbrev pub IsOneLock : (PageLock → Type 0) → List PageLock → Type 0
IsOneLock Holds [] = Unit {0}
IsOneLock Holds (lock ∷ others) = Holds lock × (others ≡ [])

-- so of an instruction, which locks no context and makes no page
pub record AreInstructionLocks (Holds : PageLock → Type 0) (standing : Standing) : Type 0 where
  pub lock : IsOneLock Holds standing.locks
  pub context : standing.context_lock ≡ None
  pub computed : standing.computed ≡ None

-- what the open attempt of an item has locked, by the role of its actor: all others take nothing
unfoldable pub AreItemLocks : ℕ → List GuestSpec → Contents → Role → Item → List Deed → Standing → Type 0
AreItemLocks frames guests contents (Cpu guest vmpl npt paging) (items.Access address op) made standing = standing ≡ nothing_taken
AreItemLocks frames guests contents (Cpu guest vmpl npt paging) (items.Pvalidate address size validate) made standing =
    AreInstructionLocks (IsWalkedLock frames guests contents (record { guest = guest; vmpl = vmpl; npt = npt; paging = paging }) address (validate_test size) made) standing
AreItemLocks frames guests contents (Cpu guest vmpl npt paging) (items.Rmpadjust address size target mask vmsa) made standing =
    AreInstructionLocks (IsWalkedLock frames guests contents (record { guest = guest; vmpl = vmpl; npt = npt; paging = paging }) address (adjust_test size mask vmsa) made) standing
AreItemLocks frames guests contents (Cpu guest vmpl npt paging) (items.Rmpupdate update) made standing = standing ≡ nothing_taken
AreItemLocks frames guests contents (Cpu guest vmpl npt paging) (items.Psmash frame) made standing = standing ≡ nothing_taken
AreItemLocks frames guests contents (Cpu guest vmpl npt paging) (items.Firmware command) made standing = standing ≡ nothing_taken
AreItemLocks frames guests contents (Cpu guest vmpl npt paging) (items.Skip count test) made standing = standing ≡ nothing_taken
AreItemLocks frames guests contents Host (items.Access address op) made standing = standing ≡ nothing_taken
AreItemLocks frames guests contents Host (items.Pvalidate address size validate) made standing = standing ≡ nothing_taken
AreItemLocks frames guests contents Host (items.Rmpadjust address size target mask vmsa) made standing = standing ≡ nothing_taken
AreItemLocks frames guests contents Host (items.Rmpupdate update) made standing = AreInstructionLocks (IsUpdateLock frames contents update) standing
AreItemLocks frames guests contents Host (items.Psmash frame) made standing = AreInstructionLocks (IsSmashLock frames contents frame) standing
AreItemLocks frames guests contents Host (items.Firmware command) made standing = standing ≡ nothing_taken
AreItemLocks frames guests contents Host (items.Skip count test) made standing = standing ≡ nothing_taken
AreItemLocks frames guests contents Firmware (items.Access address op) made standing = standing ≡ nothing_taken
AreItemLocks frames guests contents Firmware (items.Pvalidate address size validate) made standing = standing ≡ nothing_taken
AreItemLocks frames guests contents Firmware (items.Rmpadjust address size target mask vmsa) made standing = standing ≡ nothing_taken
AreItemLocks frames guests contents Firmware (items.Rmpupdate update) made standing = standing ≡ nothing_taken
AreItemLocks frames guests contents Firmware (items.Psmash frame) made standing = standing ≡ nothing_taken
AreItemLocks frames guests contents Firmware (items.Firmware command) made standing = AreCommandLocks frames guests contents command standing
AreItemLocks frames guests contents Firmware (items.Skip count test) made standing = standing ≡ nothing_taken

-- so of the open attempt of an actor
abbrev pub AreTested : State → ActorPart → Type 0
AreTested m part = AreItemLocks m.frames m.guests m.contents part.role (line_at part.script part.item).item part.deeds part.standing

-- What stays

-- an actor has a lock at each state of a run, from a state on
unfoldable pub HasThroughout : (ActorPart → Bool) → ℕ → State → List ℕ → Type 0
HasThroughout locks actor m [] = locks (part_of m actor) ≡ true
HasThroughout locks actor m (next ∷ others) = (locks (part_of m actor) ≡ true) × HasThroughout locks actor (after m next) others

-- a page has the facts that it had, and a metadata page its words
pub record StaysAs (old new : Page) : Type 0 where
  pub facts : new.facts ≡ old.facts
  pub words : old.facts.kind ≡ kinds.Metadata → new.words ≡ old.words

-- from a state on, a page stays as it is as long as an actor has its lock, and so does a context, its root with it
pub record StaysLocked (m : State) : Type 0 where
  pub pages : (actor frame : ℕ) (schedule : List ℕ) → IsDefinedFrom m schedule → HasThroughout (locks_frame frame) actor m schedule
      → StaysAs (m.contents.pages frame) ((state_from m schedule).contents.pages frame)
  pub contexts : (actor guest : ℕ) (schedule : List ℕ) → IsDefinedFrom m schedule → HasThroughout (locks_context guest) actor m schedule
      → (state_from m schedule).contents.contexts guest ≡ m.contents.contexts guest

-- all of it: one holder each, what the tests asked holds of each actor's attempt, and what is locked stays
pub record AreLocked (m : State) : Type 0 where
  pub exclusive : AreExclusive m
  pub tested : (actor : ℕ) → AreTested m (part_of m actor)
  pub stays : StaysLocked m
