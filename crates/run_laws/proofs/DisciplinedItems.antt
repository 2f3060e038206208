-- What an event of any item but a command that seals or opens a page does to the pages of a guest, PVALIDATE, RMPADJUST and the other commands among them, where the guest's memory lacks what the event makes held.
use Rattle.std.proofs.Common.{◌≡◌, ℕ, Bool, List, None}
use Rattle.snp_model.specs.declared.command.Command.{Command}
use Rattle.snp_model.specs.declared.entry.PageSize.{PageSize}
use Rattle.snp_model.specs.declared.item.Item.{Item}
use Rattle.snp_model.specs.declared.item.Item.TheVariants as items
use Rattle.snp_model.specs.declared.scenario.GuestSpec.{GuestSpec}
use Rattle.snp_model.specs.declared.scenario.Paging.{Paging}
use Rattle.snp_model.specs.declared.scenario.Role.{Role}
use Rattle.snp_model.specs.declared.scenario.Role.TheVariants.{Cpu, Firmware}
use Rattle.snp_model.specs.GuestMemory.{Memory, use_for}
use Rattle.snp_model.specs.Live.{Archive}
use Rattle.snp_model.specs.Sealing.{sealing_of}
use Rattle.snp_model.specs.State.{ActorPart, View}
use Rattle.snp_model.specs.Step.{item_move}
use Rattle.run_laws.specs.HeldLocks.{AreItemLocks}
use Rattle.run_laws.specs.OpenAttempts.{IsAttempt}
use Rattle.run_laws.proofs.FirmwareUseLaws.{command_fine}
use Rattle.run_laws.proofs.ItemUseLaws.{item_fine}
use Rattle.run_laws.proofs.LargePages.{AreLargeWhole}
use Rattle.run_laws.proofs.UseLaws.{RoleOwns, IsProved, Before, MoveFine}
use Rattle.run_laws.proofs.ValidateUseLaws.{LacksAccepted, validate_fine, adjust_fine}

-- an item of which it is proved where the guest is disciplined: any but a command that seals or opens a page
abbrev pub IsNoSealing : Role → Item → Type 0
IsNoSealing Firmware (items.Firmware command) = sealing_of command ≡ None
IsNoSealing role item = Unit {0}

-- such an item is a PVALIDATE or an RMPADJUST of a guest's processor, a command that seals nothing, or one of which it is proved for any guest
by_item : (P : Role → Item → Type 0)
    → ((owner vmpl npt : ℕ) (paging : Paging) (address : ℕ) (size : PageSize) (validate : Bool) → P (Cpu owner vmpl npt paging) (items.Pvalidate address size validate))
    → ((owner vmpl npt : ℕ) (paging : Paging) (address : ℕ) (size : PageSize) (target mask : ℕ) (vmsa : Bool) → P (Cpu owner vmpl npt paging) (items.Rmpadjust address size target mask vmsa))
    → ((command : Command) → sealing_of command ≡ None → P Firmware (items.Firmware command))
    → ((role : Role) (item : Item) → IsProved role item → P role item)
    → (role : Role) (item : Item) → IsNoSealing role item → P role item
by_item P validates adjusts commits others (Cpu owner vmpl npt paging) (items.Pvalidate address size validate) known = validates owner vmpl npt paging address size validate
by_item P validates adjusts commits others (Cpu owner vmpl npt paging) (items.Rmpadjust address size target mask vmsa) known = adjusts owner vmpl npt paging address size target mask vmsa
by_item P validates adjusts commits others Firmware (items.Firmware command) known = commits command known
by_item P validates adjusts commits others role item known = others role item known

-- what an item's event does to a guest's pages and memory
abbrev ItemFine : ℕ → ℕ → Archive → List GuestSpec → Memory → ℕ → View → ActorPart → Role → Item → Type 0
ItemFine guest asid archive guests memory frames view part role item =
    Before guest asid archive memory view.contents → RoleOwns guest asid guests role → AreLargeWhole view.contents.pages
    → AreItemLocks frames guests view.contents role item part.deeds part.standing → IsAttempt frames role item part.standing part.deeds
    → LacksAccepted memory (use_for guest (item_move frames guests view part role item).contents role (item_move frames guests view part role item).deed item (item_move frames guests view part role item).outcome)
    → MoveFine guest asid archive memory view.contents role item (item_move frames guests view part role item)

validate_item : (guest asid : ℕ) (archive : Archive) (guests : List GuestSpec) (memory : Memory) (frames : ℕ) (view : View) (part : ActorPart) (owner vmpl npt : ℕ) (paging : Paging) (address : ℕ) (size : PageSize) (validate : Bool)
    → ItemFine guest asid archive guests memory frames view part (Cpu owner vmpl npt paging) (items.Pvalidate address size validate)
unfolding AreItemLocks IsAttempt item_move
validate_item guest asid archive guests memory frames view part owner vmpl npt paging address size validate before owns whole tested walking lacks =
    validate_fine guest asid archive guests memory frames view part (record { guest = owner; vmpl = vmpl; npt = npt; paging = paging }) address size validate before owns whole tested.lock walking.walk lacks

adjust_item : (guest asid : ℕ) (archive : Archive) (guests : List GuestSpec) (memory : Memory) (frames : ℕ) (view : View) (part : ActorPart) (owner vmpl npt : ℕ) (paging : Paging) (address : ℕ) (size : PageSize) (target mask : ℕ) (vmsa : Bool)
    → ItemFine guest asid archive guests memory frames view part (Cpu owner vmpl npt paging) (items.Rmpadjust address size target mask vmsa)
unfolding item_move
adjust_item guest asid archive guests memory frames view part owner vmpl npt paging address size target mask vmsa before owns whole tested walking lacks =
    adjust_fine guest asid archive guests memory frames view part (record { guest = owner; vmpl = vmpl; npt = npt; paging = paging }) address size target mask vmsa before owns

command_item : (guest asid : ℕ) (archive : Archive) (guests : List GuestSpec) (memory : Memory) (frames : ℕ) (view : View) (part : ActorPart) (command : Command) → sealing_of command ≡ None
    → ItemFine guest asid archive guests memory frames view part Firmware (items.Firmware command)
unfolding AreItemLocks item_move
command_item guest asid archive guests memory frames view part command plain before owns whole tested walking lacks =
    command_fine guest asid archive guests memory frames view part command plain before owns tested lacks

pub any_item_fine : (guest asid : ℕ) (archive : Archive) (guests : List GuestSpec) (memory : Memory) (frames : ℕ) (view : View) (part : ActorPart) (role : Role) (item : Item) → IsNoSealing role item
    → ItemFine guest asid archive guests memory frames view part role item
any_item_fine guest asid archive guests memory frames view part =
    by_item (ItemFine guest asid archive guests memory frames view part)
    (validate_item guest asid archive guests memory frames view part)
    (adjust_item guest asid archive guests memory frames view part)
    (command_item guest asid archive guests memory frames view part)
    (λ role item known before owns whole tested walking lacks. item_fine guest asid archive guests memory frames view part role item before owns known whole tested)
