-- Which regions of memory, and which guest's context, the next event of an actor may read or write. It is told by the actor's own part, the size of memory and the declared guests alone. This project's own.
use Rattle.std.specs.Prelude.{◌≡◌, ℕ, ◌+◌, ◌-◌, ◌/◌, ◌==◌, nat_lt, if◌then◌else◌, ◌++◌, Bool, true, false, List, [], ◌∷◌, Option, Some, None, is_some}
use Rattle.std.specs.List.{list_any, range_with_len}
use Rattle.snp_model.specs.declared.command.Command.{Command}
use Rattle.snp_model.specs.declared.event.Deed.{Deed}
use Rattle.snp_model.specs.declared.item.Item.{Item}
use Rattle.snp_model.specs.declared.item.Item.TheVariants as items
use Rattle.snp_model.specs.declared.scenario.GuestSpec.{GuestSpec}
use Rattle.snp_model.specs.declared.scenario.Role.{Role}
use Rattle.snp_model.specs.declared.scenario.Role.TheVariants.{Cpu, Host, Firmware}
use Rattle.snp_model.specs.declared.walk.Lookup.{Lookup}
use Rattle.snp_model.specs.declared.walk.Need.{Need}
use Rattle.snp_model.specs.declared.walk.Need.TheVariants as needs
use Rattle.snp_model.specs.Firmware.{CommandPage, guest_of, pages_of}
use Rattle.snp_model.specs.FirmwareLocks.{guest_refusal}
use Rattle.snp_model.specs.FirmwareStep.{Phase, TakeContext, TakePage, Computing, Committing, phase_of}
use Rattle.snp_model.specs.InstructionStep.{page_lookup}
use Rattle.snp_model.specs.RmpUpdate.{is_bad_update, is_bad_smash}
use Rattle.snp_model.specs.State.{PageLock, Standing, ActorPart, Contents, View}
use Rattle.snp_model.specs.Step.{Stepped, line_at}
use Rattle.snp_model.specs.Walking.{Processor, lookup_of, need_after}

-- the region of a frame: regions have 512 frames
abbrev pub region_of : ℕ → ℕ
region_of frame = frame / 512

-- regions by number, and the guest of a context
pub record Touched : Type 0 where
  pub regions : List ℕ
  pub context : Option ℕ

-- nothing
abbrev pub nothing_touched : Touched
nothing_touched = record { regions = []; context = None }

-- the region of one frame
abbrev pub frame_touched : ℕ → Touched
frame_touched frame = record { regions = region_of frame ∷ []; context = None }

-- the context of one guest
abbrev pub context_touched : ℕ → Touched
context_touched guest = record { regions = []; context = Some guest }

-- an item that has begun touches the frame of the word or page that it needs
unfoldable pub need_touches : Need → Touched
need_touches (needs.Nested frame index) = frame_touched frame
need_touches (needs.Table gpn index frame size) = frame_touched frame
need_touches (needs.Data gpn private frame size) = frame_touched frame
need_touches (needs.Fault outcome) = nothing_touched

-- an item of a guest processor that walks: its beginning asks whether the guest runs
unfoldable pub walk_touches : ℕ → Processor → Lookup → List Deed → Touched
walk_touches frames cpu lookup [] = context_touched cpu.guest
walk_touches frames cpu lookup (deed ∷ others) = need_touches (need_after frames cpu lookup (deed ∷ others))

-- the regions of a lock's range, from that of its first frame to that of its last
abbrev pub lock_regions : PageLock → List ℕ
lock_regions lock = range_with_len (region_of lock.base) (region_of (lock.base + lock.count - 1) - region_of lock.base + 1)

-- of several locks
unfoldable pub locks_regions : List PageLock → List ℕ
locks_regions [] = []
locks_regions (lock ∷ locks) = lock_regions lock ++ locks_regions locks

-- what is touched by an event that may also release these locks
abbrev pub with_locks : List PageLock → Touched → Touched
with_locks locks touched = record { regions = touched.regions ++ locks_regions locks; context = touched.context }

-- a lock that is asked for touches its frame, and its commit what is locked; what is refused before any entry is looked at touches nothing
unfoldable pub instruction_touches : Bool → ℕ → List PageLock → Touched
instruction_touches refused frame [] = if refused then nothing_touched else frame_touched frame
instruction_touches refused frame (lock ∷ others) = with_locks (lock ∷ others) (frame_touched frame)

-- the regions of several pages of a command
unfoldable pub pages_regions : List CommandPage → List ℕ
pages_regions [] = []
pages_regions (page ∷ pages) = region_of page.frame ∷ pages_regions pages

-- a page that is to be locked, with the locks that a refusal would release; a frame outside memory isn't touched
unfoldable pub page_touches : ℕ → Standing → CommandPage → Touched
page_touches frames standing page =
    with_locks standing.locks (record {
      regions = if nat_lt page.frame frames then region_of page.frame ∷ [] else [];
      context = standing.context_lock;
    })

-- a compute or a commit touches all that the attempt has locked: the pages of the command, and the context of its guest
unfoldable pub command_touches : Standing → Command → Touched
command_touches standing command = with_locks standing.locks (record { regions = pages_regions (pages_of command); context = guest_of command })

-- what the next event of a command touches, by what its attempt needs; the context of an undeclared guest isn't touched
unfoldable pub phase_touches : ℕ → List GuestSpec → Standing → Command → Phase → Touched
phase_touches frames guests standing command (TakeContext guest) = if is_some (guest_refusal guests guest) then nothing_touched else context_touched guest
phase_touches frames guests standing command (TakePage page) = page_touches frames standing page
phase_touches frames guests standing command (Computing sealing) = command_touches standing command
phase_touches frames guests standing command Committing = command_touches standing command

-- what the next event of a command touches
abbrev pub firmware_touches : ℕ → List GuestSpec → Standing → Command → Touched
firmware_touches frames guests standing command = phase_touches frames guests standing command (phase_of command standing)

-- the next event of an item, by the role of its actor
unfoldable pub item_touches : ℕ → List GuestSpec → ActorPart → Role → Item → Touched
item_touches frames guests part (Cpu guest vmpl npt paging) (items.Access address op) =
    walk_touches frames (record { guest = guest; vmpl = vmpl; npt = npt; paging = paging }) (lookup_of address op) part.deeds
item_touches frames guests part (Cpu guest vmpl npt paging) (items.Pvalidate address size validate) =
    with_locks part.standing.locks (walk_touches frames (record { guest = guest; vmpl = vmpl; npt = npt; paging = paging }) (page_lookup address) part.deeds)
item_touches frames guests part (Cpu guest vmpl npt paging) (items.Rmpadjust address size target mask vmsa) =
    with_locks part.standing.locks (walk_touches frames (record { guest = guest; vmpl = vmpl; npt = npt; paging = paging }) (page_lookup address) part.deeds)
item_touches frames guests part (Cpu guest vmpl npt paging) (items.Rmpupdate update) = nothing_touched
item_touches frames guests part (Cpu guest vmpl npt paging) (items.Psmash frame) = nothing_touched
item_touches frames guests part (Cpu guest vmpl npt paging) (items.Firmware command) = nothing_touched
item_touches frames guests part (Cpu guest vmpl npt paging) (items.Skip count test) = nothing_touched
item_touches frames guests part Host (items.Access address op) = frame_touched (address / 4096)
item_touches frames guests part Host (items.Pvalidate address size validate) = nothing_touched
item_touches frames guests part Host (items.Rmpadjust address size target mask vmsa) = nothing_touched
item_touches frames guests part Host (items.Rmpupdate update) = instruction_touches (is_bad_update frames update) update.frame part.standing.locks
item_touches frames guests part Host (items.Psmash frame) = instruction_touches (is_bad_smash frames frame) frame part.standing.locks
item_touches frames guests part Host (items.Firmware command) = nothing_touched
item_touches frames guests part Host (items.Skip count test) = nothing_touched
item_touches frames guests part Firmware (items.Access address op) = nothing_touched
item_touches frames guests part Firmware (items.Pvalidate address size validate) = nothing_touched
item_touches frames guests part Firmware (items.Rmpadjust address size target mask vmsa) = nothing_touched
item_touches frames guests part Firmware (items.Rmpupdate update) = nothing_touched
item_touches frames guests part Firmware (items.Psmash frame) = nothing_touched
item_touches frames guests part Firmware (items.Firmware command) = firmware_touches frames guests part.standing command
item_touches frames guests part Firmware (items.Skip count test) = nothing_touched

-- the next event of an actor
abbrev pub touches : ℕ → List GuestSpec → ActorPart → Touched
touches frames guests part = item_touches frames guests part part.role (line_at part.script part.item).item

-- whether a frame is touched
abbrev pub touches_frame : Touched → ℕ → Bool
touches_frame touched frame = list_any (λ region. region == region_of frame) touched.regions

-- two contents are the same in what is touched
pub record AgreeOn (touched : Touched) (one other : Contents) : Type 0 where
  pub pages : (frame : ℕ) → touches_frame touched frame ≡ true → one.pages frame ≡ other.pages frame
  pub contexts : (guest : ℕ) → touched.context ≡ Some guest → one.contexts guest ≡ other.contexts guest

-- and in all else
pub record AgreeBeside (touched : Touched) (one other : Contents) : Type 0 where
  pub pages : (frame : ℕ) → touches_frame touched frame ≡ false → one.pages frame ≡ other.pages frame
  pub contexts : (guest : ℕ) → (touched.context ≡ Some guest → ⊥) → one.contexts guest ≡ other.contexts guest

-- two views are the same in what is touched, with the holders of its locks
pub record SeeAlike (touched : Touched) (one other : View) : Type 0 where
  pub contents : AgreeOn touched one.contents other.contents
  pub holders : (frame : ℕ) → touches_frame touched frame ≡ true → one.holder frame ≡ other.holder frame
  pub context_holders : (guest : ℕ) → touched.context ≡ Some guest → one.context_holder guest ≡ other.context_holder guest

-- two steps are the same, and leave what is touched the same
pub record StepsAlike (touched : Touched) (one other : Stepped) : Type 0 where
  pub event : one.event ≡ other.event
  pub part : one.part ≡ other.part
  pub contents : AgreeOn touched one.contents other.contents
