-- The guest whose context an event touches is a declared one.
use Rattle.std.proofs.Common.{◌≡◌, ℕ, Bool, true, false, List, [], ◌∷◌, length, None, subst}
use Rattle.snp_model.specs.declared.event.Deed.{Deed}
use Rattle.snp_model.specs.declared.item.Item.{Item}
use Rattle.snp_model.specs.declared.item.Item.TheVariants as items
use Rattle.snp_model.specs.declared.scenario.GuestSpec.{GuestSpec}
use Rattle.snp_model.specs.declared.scenario.Role.{Role}
use Rattle.snp_model.specs.declared.scenario.Role.TheVariants.{Cpu, Host, Firmware}
use Rattle.snp_model.specs.declared.walk.Lookup.{Lookup}
use Rattle.snp_model.specs.declared.walk.Need.{Need}
use Rattle.snp_model.specs.declared.walk.Need.TheVariants as needs
use Rattle.snp_model.specs.Bounds.{IsItemOf, IsRole}
use Rattle.snp_model.specs.InstructionStep.{page_lookup}
use Rattle.snp_model.specs.RmpUpdate.{is_bad_smash, is_bad_update}
use Rattle.snp_model.specs.State.{ActorPart, Contents, PageLock}
use Rattle.snp_model.specs.Touches.{Touched, instruction_touches, item_touches, need_touches, walk_touches}
use Rattle.snp_model.specs.Walking.{Processor, lookup_of, need_after}
use Rattle.run_laws.specs.HeldLocks.{AreItemLocks}
use Rattle.run_laws.proofs.CommandTests.{IsDeclared}
use Rattle.machine_core.proofs.FirmwareTouchLaws.{TouchesDeclared, firmware_declared}

none_declared : (guests : List GuestSpec) (touched : Touched) → touched.context ≡ None → TouchesDeclared guests touched
none_declared guests touched none guest is = cc

need_declared : (guests : List GuestSpec) (need : Need) → (need_touches need).context ≡ None
unfolding need_touches
need_declared guests (needs.Nested frame index) = λ i. None
need_declared guests (needs.Table gpn index frame size) = λ i. None
need_declared guests (needs.Data gpn private frame size) = λ i. None
need_declared guests (needs.Fault outcome) = λ i. None

-- an item that walks touches that of its processor's guest, as it begins
walk_declared : (frames : ℕ) (guests : List GuestSpec) (cpu : Processor) (lookup : Lookup) (made : List Deed) → IsDeclared guests cpu.guest → TouchesDeclared guests (walk_touches frames cpu lookup made)
unfolding walk_touches
walk_declared frames guests cpu lookup [] declared = λ guest is. let same : cpu.guest ≡ guest = cc in subst (IsDeclared guests) same declared
walk_declared frames guests cpu lookup (deed ∷ deeds) declared = none_declared guests (need_touches (need_after frames cpu lookup (deed ∷ deeds))) (need_declared guests (need_after frames cpu lookup (deed ∷ deeds)))

-- an instruction of a hypervisor's processor touches none
instruction_declared : (guests : List GuestSpec) (refused : Bool) (frame : ℕ) (locks : List PageLock) → TouchesDeclared guests (instruction_touches refused frame locks)
unfolding instruction_touches
instruction_declared guests true frame [] guest is = cc
instruction_declared guests false frame [] guest is = cc
instruction_declared guests refused frame (lock ∷ locks) guest is = cc

-- so does an item touch the contexts of declared guests alone
pub item_declared : (frames : ℕ) (guests : List GuestSpec) (contents : Contents) (part : ActorPart) (role : Role) (item : Item) → IsRole frames (length guests) role → IsItemOf frames role item
    → AreItemLocks frames guests contents role item part.deeds part.standing → TouchesDeclared guests (item_touches frames guests part role item)
unfolding item_touches AreItemLocks
item_declared frames guests contents part (Cpu guest vmpl npt paging) (items.Access address op) is_role is_item tested =
    walk_declared frames guests (record { guest = guest; vmpl = vmpl; npt = npt; paging = paging }) (lookup_of address op) part.deeds (record { some = is_role.guest_some; most = is_role.guest_most })
item_declared frames guests contents part (Cpu guest vmpl npt paging) (items.Pvalidate address size validate) is_role is_item tested =
    walk_declared frames guests (record { guest = guest; vmpl = vmpl; npt = npt; paging = paging }) (page_lookup address) part.deeds (record { some = is_role.guest_some; most = is_role.guest_most })
item_declared frames guests contents part (Cpu guest vmpl npt paging) (items.Rmpadjust address size target mask vmsa) is_role is_item tested =
    walk_declared frames guests (record { guest = guest; vmpl = vmpl; npt = npt; paging = paging }) (page_lookup address) part.deeds (record { some = is_role.guest_some; most = is_role.guest_most })
item_declared frames guests contents part (Cpu guest vmpl npt paging) (items.Rmpupdate update) is_role is_item tested = λ g is. cc
item_declared frames guests contents part (Cpu guest vmpl npt paging) (items.Psmash frame) is_role is_item tested = λ g is. cc
item_declared frames guests contents part (Cpu guest vmpl npt paging) (items.Firmware command) is_role is_item tested = λ g is. cc
item_declared frames guests contents part (Cpu guest vmpl npt paging) (items.Skip count test) is_role is_item tested = λ g is. cc
item_declared frames guests contents part Host (items.Access address op) is_role is_item tested = λ g is. cc
item_declared frames guests contents part Host (items.Pvalidate address size validate) is_role is_item tested = λ g is. cc
item_declared frames guests contents part Host (items.Rmpadjust address size target mask vmsa) is_role is_item tested = λ g is. cc
item_declared frames guests contents part Host (items.Rmpupdate update) is_role is_item tested = instruction_declared guests (is_bad_update frames update) update.frame part.standing.locks
item_declared frames guests contents part Host (items.Psmash frame) is_role is_item tested = instruction_declared guests (is_bad_smash frames frame) frame part.standing.locks
item_declared frames guests contents part Host (items.Firmware command) is_role is_item tested = λ g is. cc
item_declared frames guests contents part Host (items.Skip count test) is_role is_item tested = λ g is. cc
item_declared frames guests contents part Firmware (items.Access address op) is_role is_item tested = λ g is. cc
item_declared frames guests contents part Firmware (items.Pvalidate address size validate) is_role is_item tested = λ g is. cc
item_declared frames guests contents part Firmware (items.Rmpadjust address size target mask vmsa) is_role is_item tested = λ g is. cc
item_declared frames guests contents part Firmware (items.Rmpupdate update) is_role is_item tested = λ g is. cc
item_declared frames guests contents part Firmware (items.Psmash frame) is_role is_item tested = λ g is. cc
item_declared frames guests contents part Firmware (items.Firmware command) is_role is_item tested = firmware_declared frames guests contents command part.standing tested
item_declared frames guests contents part Firmware (items.Skip count test) is_role is_item tested = λ g is. cc
