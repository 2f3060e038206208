-- What an event of any item does to the pages of a guest, and what it finds in the guest's memory.
use Rattle.std.proofs.Common.{ℕ, ◌/◌, List, [], ◌∷◌, Option, Some, None, refl}
use Rattle.snp_model.specs.declared.event.Deed.TheVariants as deeds
use Rattle.snp_model.specs.declared.event.Outcome.{Outcome}
use Rattle.snp_model.specs.declared.item.Item.{Item}
use Rattle.snp_model.specs.declared.item.Item.TheVariants as items
use Rattle.snp_model.specs.declared.item.Update.{Update}
use Rattle.snp_model.specs.declared.scenario.GuestSpec.{GuestSpec}
use Rattle.snp_model.specs.declared.scenario.Role.{Role}
use Rattle.snp_model.specs.declared.scenario.Role.TheVariants.{Cpu, Host, Firmware}
use Rattle.snp_model.specs.GuestMemory.{Memory, use_of, firmware_use, use_for}
use Rattle.snp_model.specs.InstructionStep.{update_move, smash_move}
use Rattle.snp_model.specs.Live.{Archive}
use Rattle.snp_model.specs.Moves.{lock_move}
use Rattle.snp_model.specs.Skips.{skip_outcome}
use Rattle.snp_model.specs.State.{PageLock, Contents, ActorPart, View}
use Rattle.snp_model.specs.Step.{item_move, host_access}
use Rattle.snp_model.specs.Walking.{Processor, lookup_of, index_of}
use Rattle.run_laws.specs.HeldLocks.{IsUpdateLock, IsOneLock, AreItemLocks}
use Rattle.run_laws.proofs.LargePages.{AreLargeWhole}
use Rattle.run_laws.proofs.TestedRanges.{are_updatable}
use Rattle.run_laws.proofs.UpdateLaws.{update_fine, smash_fine}
use Rattle.run_laws.proofs.UseLaws.{RoleOwns, IsProved, Before, MoveFine, quiet_fine, misplaced_fine, data_fine, walked_fine, host_fine}

-- an event that takes a lock, or ends with a refusal, does nothing
pub lock_fine : (guest asid : ℕ) (archive : Archive) (memory : Memory) (old : Contents) (part : ActorPart) (role : Role) (item : Item) (lock : PageLock) (refusal : Option Outcome)
    → Before guest asid archive memory old → MoveFine guest asid archive memory old role item (lock_move old part lock refusal)
unfolding lock_move use_of firmware_use
lock_fine guest asid archive memory old part role item lock None before = record {
  fine = (quiet_fine guest asid archive memory old part role item (deeds.Lock lock.frame) None before (record { processors = refl; firmware = λ _ _. refl })).fine;
}
lock_fine guest asid archive memory old part role item lock (Some outcome) before =
    quiet_fine guest asid archive memory old part role item (deeds.Lock lock.frame) (Some outcome) before (record { processors = refl; firmware = λ _ _. refl })

-- RMPUPDATE: its lock, and its commit
update_item_fine : (guest asid : ℕ) (archive : Archive) (memory : Memory) (frames : ℕ) (view : View) (part : ActorPart) (update : Update) (locks : List PageLock)
    → Before guest asid archive memory view.contents → AreLargeWhole view.contents.pages → IsOneLock (IsUpdateLock frames view.contents update) locks
    → MoveFine guest asid archive memory view.contents Host (items.Rmpupdate update) (update_move frames view part update locks)
unfolding update_move use_for
update_item_fine guest asid archive memory frames view part update [] before whole tested = lock_fine guest asid archive memory view.contents part Host (items.Rmpupdate update) _ _ before
update_item_fine guest asid archive memory frames view part update (lock ∷ others) before whole tested = record {
  fine = update_fine guest asid archive memory view.contents update lock before (are_updatable frames view.contents update lock tested.0 whole);
}

-- PSMASH: its lock, and its commit
smash_item_fine : (guest asid : ℕ) (archive : Archive) (memory : Memory) (frames : ℕ) (view : View) (part : ActorPart) (frame : ℕ) (locks : List PageLock)
    → Before guest asid archive memory view.contents → MoveFine guest asid archive memory view.contents Host (items.Psmash frame) (smash_move frames view part frame locks)
unfolding smash_move use_for
smash_item_fine guest asid archive memory frames view part frame [] before = lock_fine guest asid archive memory view.contents part Host (items.Psmash frame) _ _ before
smash_item_fine guest asid archive memory frames view part frame (lock ∷ others) before = record { fine = smash_fine guest asid archive memory view.contents lock before }

-- so each item's move
pub item_fine : (guest asid : ℕ) (archive : Archive) (guests : List GuestSpec) (memory : Memory) (frames : ℕ) (view : View) (part : ActorPart) (role : Role) (item : Item)
    → Before guest asid archive memory view.contents → RoleOwns guest asid guests role → IsProved role item
    → AreLargeWhole view.contents.pages → AreItemLocks frames guests view.contents role item part.deeds part.standing
    → MoveFine guest asid archive memory view.contents role item (item_move frames guests view part role item)
unfolding item_move host_access use_of firmware_use AreItemLocks
item_fine guest asid archive guests memory frames view part (Cpu owner vmpl npt paging) (items.Access address op) before owns known whole tested =
    let cpu : Processor = record { guest = owner; vmpl = vmpl; npt = npt; paging = paging } in
    walked_fine guest asid archive guests memory frames view.contents part cpu (items.Access address op) (lookup_of address op) None _ part.deeds before owns (data_fine guest asid archive guests memory view.contents part cpu address op before owns)
item_fine guest asid archive guests memory frames view part (Cpu owner vmpl npt paging) (items.Pvalidate address size validate) before owns known whole tested = absurd known
item_fine guest asid archive guests memory frames view part (Cpu owner vmpl npt paging) (items.Rmpadjust address size target mask vmsa) before owns known whole tested = absurd known
item_fine guest asid archive guests memory frames view part (Cpu owner vmpl npt paging) (items.Rmpupdate update) before owns known whole tested = misplaced_fine guest asid archive memory view.contents part (Cpu owner vmpl npt paging) (items.Rmpupdate update) before
item_fine guest asid archive guests memory frames view part (Cpu owner vmpl npt paging) (items.Psmash frame) before owns known whole tested = misplaced_fine guest asid archive memory view.contents part (Cpu owner vmpl npt paging) (items.Psmash frame) before
item_fine guest asid archive guests memory frames view part (Cpu owner vmpl npt paging) (items.Firmware command) before owns known whole tested = misplaced_fine guest asid archive memory view.contents part (Cpu owner vmpl npt paging) (items.Firmware command) before
item_fine guest asid archive guests memory frames view part (Cpu owner vmpl npt paging) (items.Skip count test) before owns known whole tested =
    quiet_fine guest asid archive memory view.contents part (Cpu owner vmpl npt paging) (items.Skip count test) deeds.Control (Some (skip_outcome count test part.last)) before (record { processors = refl; firmware = λ _ _. refl })
item_fine guest asid archive guests memory frames view part Host (items.Access address op) before owns known whole tested =
    host_fine guest asid archive memory view.contents part (items.Access address op) op (address / 4096) (index_of address) _ before refl
item_fine guest asid archive guests memory frames view part Host (items.Pvalidate address size validate) before owns known whole tested = misplaced_fine guest asid archive memory view.contents part Host (items.Pvalidate address size validate) before
item_fine guest asid archive guests memory frames view part Host (items.Rmpadjust address size target mask vmsa) before owns known whole tested = misplaced_fine guest asid archive memory view.contents part Host (items.Rmpadjust address size target mask vmsa) before
item_fine guest asid archive guests memory frames view part Host (items.Rmpupdate update) before owns known whole tested =
    update_item_fine guest asid archive memory frames view part update part.standing.locks before whole tested.lock
item_fine guest asid archive guests memory frames view part Host (items.Psmash frame) before owns known whole tested =
    smash_item_fine guest asid archive memory frames view part frame part.standing.locks before
item_fine guest asid archive guests memory frames view part Host (items.Firmware command) before owns known whole tested = misplaced_fine guest asid archive memory view.contents part Host (items.Firmware command) before
item_fine guest asid archive guests memory frames view part Host (items.Skip count test) before owns known whole tested =
    quiet_fine guest asid archive memory view.contents part Host (items.Skip count test) deeds.Control (Some (skip_outcome count test part.last)) before (record { processors = refl; firmware = λ _ _. refl })
item_fine guest asid archive guests memory frames view part Firmware (items.Access address op) before owns known whole tested = misplaced_fine guest asid archive memory view.contents part Firmware (items.Access address op) before
item_fine guest asid archive guests memory frames view part Firmware (items.Pvalidate address size validate) before owns known whole tested = misplaced_fine guest asid archive memory view.contents part Firmware (items.Pvalidate address size validate) before
item_fine guest asid archive guests memory frames view part Firmware (items.Rmpadjust address size target mask vmsa) before owns known whole tested = misplaced_fine guest asid archive memory view.contents part Firmware (items.Rmpadjust address size target mask vmsa) before
item_fine guest asid archive guests memory frames view part Firmware (items.Rmpupdate update) before owns known whole tested = misplaced_fine guest asid archive memory view.contents part Firmware (items.Rmpupdate update) before
item_fine guest asid archive guests memory frames view part Firmware (items.Psmash frame) before owns known whole tested = misplaced_fine guest asid archive memory view.contents part Firmware (items.Psmash frame) before
item_fine guest asid archive guests memory frames view part Firmware (items.Firmware command) before owns known whole tested = absurd known
item_fine guest asid archive guests memory frames view part Firmware (items.Skip count test) before owns known whole tested =
    quiet_fine guest asid archive memory view.contents part Firmware (items.Skip count test) deeds.Control (Some (skip_outcome count test part.last)) before (record { processors = refl; firmware = λ _ _. refl })
