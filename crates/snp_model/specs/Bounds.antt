-- The bounds on the numbers of roles, of items and of the ends of walks. They are this project's own.
use Rattle.std.specs.Prelude.{◌≡◌, ℕ, ◌*◌, ◌%◌, ◌^◌, ◌<◌, ◌≤◌, List, length}
use Rattle.std.specs.List.{AllByRecursion}
use Rattle.snp_model.specs.declared.command.Command.{Command}
use Rattle.snp_model.specs.declared.command.Command.TheVariants as commands
use Rattle.snp_model.specs.declared.item.Item.{Item}
use Rattle.snp_model.specs.declared.item.Item.TheVariants as items
use Rattle.snp_model.specs.declared.item.Line.{Line}
use Rattle.snp_model.specs.declared.item.Op.{Op}
use Rattle.snp_model.specs.declared.item.Op.TheVariants.{Load, Store, Swap, Compare, Xor}
use Rattle.snp_model.specs.declared.item.Update.{Update}
use Rattle.snp_model.specs.declared.scenario.Paging.{Paging}
use Rattle.snp_model.specs.declared.scenario.Paging.TheVariants.{Flat, Four, Five}
use Rattle.snp_model.specs.declared.scenario.Role.{Role}
use Rattle.snp_model.specs.declared.scenario.Role.TheVariants.{Cpu, Host, Firmware}
use Rattle.snp_model.specs.declared.walk.GuestEnd.{GuestEnd}
use Rattle.snp_model.specs.declared.walk.GuestEnd.TheVariants as guest_ends
use Rattle.snp_model.specs.declared.walk.Need.{Need}
use Rattle.snp_model.specs.declared.walk.Need.TheVariants as needs
use Rattle.snp_model.specs.declared.walk.NestedEnd.{NestedEnd}
use Rattle.snp_model.specs.declared.walk.NestedEnd.TheVariants as ends

-- guest tables begin at a guest page number, where there are any
abbrev pub IsPaging : Paging → Type 0
IsPaging Flat = Unit {0}
IsPaging (Four root) = root < 2 ^ 36
IsPaging (Five root) = root < 2 ^ 36

-- a guest processor, of one of so many guests
pub record IsCpu (frames guests guest vmpl npt : ℕ) (paging : Paging) : Type 0 where
  pub guest_some : 0 < guest
  pub guest_most : guest ≤ guests
  pub vmpl_below : vmpl < 4
  pub npt_below : npt < frames
  pub root_below : IsPaging paging

-- a role
abbrev pub IsRole : ℕ → ℕ → Role → Type 0
IsRole frames guests (Cpu guest vmpl npt paging) = IsCpu frames guests guest vmpl npt paging
IsRole frames guests Host = Unit {0}
IsRole frames guests Firmware = Unit {0}

-- a skip passes over 1 to 8,192 items
abbrev pub IsSkip : ℕ → Type 0
IsSkip count = (1 ≤ count) × (count ≤ 8192)

-- the words that an operation names are of 64 bits
abbrev pub AreOperationWords : Op → Type 0
AreOperationWords Load = Unit {0}
AreOperationWords (Store value) = value < 2 ^ 64
AreOperationWords (Swap value) = value < 2 ^ 64
AreOperationWords (Compare expected next) = (expected < 2 ^ 64) × (next < 2 ^ 64)
AreOperationWords (Xor value) = value < 2 ^ 64

-- an item of a guest processor; an access has any address that is a multiple of 8, and PVALIDATE and RMPADJUST have any address at all
abbrev pub IsCpuItem : Item → Type 0
IsCpuItem (items.Access address op) = (address % 8 ≡ 0) × AreOperationWords op
IsCpuItem (items.Pvalidate address size validate) = Unit {0}
IsCpuItem (items.Rmpadjust address size target mask vmsa) = (target < 256) × (mask < 256)
IsCpuItem (items.Rmpupdate update) = ⊥
IsCpuItem (items.Psmash frame) = ⊥
IsCpuItem (items.Firmware command) = ⊥
IsCpuItem (items.Skip count test) = IsSkip count

-- the operands of RMPUPDATE, whose frame is any number
abbrev pub IsUpdate : Update → Type 0
IsUpdate update = (update.asid < 1024) × (update.gpn < 2 ^ 36)

-- an item of a hypervisor processor; an access has such an address in memory, and the frame of PSMASH is any number
abbrev pub IsHostItem : ℕ → Item → Type 0
IsHostItem frames (items.Access address op) = (address < 4096 * frames) × (address % 8 ≡ 0) × AreOperationWords op
IsHostItem frames (items.Pvalidate address size validate) = ⊥
IsHostItem frames (items.Rmpadjust address size target mask vmsa) = ⊥
IsHostItem frames (items.Rmpupdate update) = IsUpdate update
IsHostItem frames (items.Psmash frame) = Unit {0}
IsHostItem frames (items.Firmware command) = ⊥
IsHostItem frames (items.Skip count test) = IsSkip count

-- the guest of a command: one that may or may not be declared
abbrev pub IsGuestNumber : ℕ → Type 0
IsGuestNumber guest = (0 < guest) × (guest ≤ 8)

-- the permissions of VMPL1 to VMPL3 that a page is launched with
pub record IsLaunchedWith (perms : List ℕ) : Type 0 where
  pub three : length perms ≡ 3
  pub below : AllByRecursion (λ p. p < 16) perms

-- a command of the firmware, whose frames are any numbers
abbrev pub IsFirmwareCommand : Command → Type 0
IsFirmwareCommand (commands.GctxCreate guest frame) = IsGuestNumber guest
IsFirmwareCommand (commands.Activate guest asid) = IsGuestNumber guest × (asid < 1024)
IsFirmwareCommand (commands.LaunchStart guest) = IsGuestNumber guest
IsFirmwareCommand (commands.LaunchUpdate guest frame page_type imi perms) = IsGuestNumber guest × (page_type < 256) × IsLaunchedWith perms
IsFirmwareCommand (commands.LaunchFinish guest) = IsGuestNumber guest
IsFirmwareCommand (commands.MdInit frame) = Unit {0}
IsFirmwareCommand (commands.PageMove guest source target) = IsGuestNumber guest
IsFirmwareCommand (commands.SwapOut guest source target metadata entry) = IsGuestNumber guest × (entry < 64)
IsFirmwareCommand (commands.SwapIn guest source target metadata entry) = IsGuestNumber guest × (entry < 64)
IsFirmwareCommand (commands.Reclaim frame) = Unit {0}
IsFirmwareCommand (commands.MdOut guest source target metadata entry) = IsGuestNumber guest × (entry < 64)
IsFirmwareCommand (commands.MdIn guest source target metadata entry) = IsGuestNumber guest × (entry < 64)
IsFirmwareCommand (commands.MdRootOut guest source target) = IsGuestNumber guest
IsFirmwareCommand (commands.MdRootIn guest source target) = IsGuestNumber guest

-- an item of a firmware actor
abbrev pub IsFirmwareItem : Item → Type 0
IsFirmwareItem (items.Access address op) = ⊥
IsFirmwareItem (items.Pvalidate address size validate) = ⊥
IsFirmwareItem (items.Rmpadjust address size target mask vmsa) = ⊥
IsFirmwareItem (items.Rmpupdate update) = ⊥
IsFirmwareItem (items.Psmash frame) = ⊥
IsFirmwareItem (items.Firmware command) = IsFirmwareCommand command
IsFirmwareItem (items.Skip count test) = IsSkip count

-- an item that an actor with this role may have
abbrev pub IsItemOf : ℕ → Role → Item → Type 0
IsItemOf frames (Cpu guest vmpl npt paging) item = IsCpuItem item
IsItemOf frames Host item = IsHostItem frames item
IsItemOf frames Firmware item = IsFirmwareItem item

-- a line of a script
pub record IsLineOf (frames : ℕ) (role : Role) (line : Line) : Type 0 where
  pub item : IsItemOf frames role line.item
  pub retries : line.retries < 256

-- the frames and indexes of a nested walk are in range
abbrev pub IsNestedInside : ℕ → NestedEnd → Type 0
IsNestedInside frames (ends.Read frame index) = (frame < frames) × (index < 512)
IsNestedInside frames (ends.Leaf frame size) = frame < frames
IsNestedInside frames (ends.Fault code) = Unit {0}

-- the guest page numbers and indexes of a guest walk are in range
abbrev pub IsGuestInside : GuestEnd → Type 0
IsGuestInside (guest_ends.Read gpn index) = (gpn < 2 ^ 36) × (index < 512)
IsGuestInside (guest_ends.Leaf gpn private size) = gpn < 2 ^ 36
IsGuestInside (guest_ends.Fault code) = Unit {0}

-- what a walk needs is in range
abbrev pub IsNeedInside : ℕ → Need → Type 0
IsNeedInside frames (needs.Nested frame index) = (frame < frames) × (index < 512)
IsNeedInside frames (needs.Table gpn index frame size) = (gpn < 2 ^ 36) × (index < 512) × (frame < frames)
IsNeedInside frames (needs.Data gpn private frame size) = (gpn < 2 ^ 36) × (frame < frames)
IsNeedInside frames (needs.Fault outcome) = Unit {0}
