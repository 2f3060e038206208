-- What the machine's functions ask and show of a command of the firmware, against the model's phases (this project's own).
use Rattle.std.specs.Prelude.{◌≡◌, ◌≢◌, ℕ, ◌/◌, true, List, [], ◌∷◌, map, Option, Some, None, Result, Ok, Err}
use Rattle.std.specs.List.{AllByRecursion}
use Rattle.std.specs.Option.{option_or}
use Rattle.snp_model.specs.declared.command.Command.{Command}
use Rattle.snp_model.specs.declared.event.Deed.TheVariants as deeds
use Rattle.snp_model.specs.declared.event.FwRefusal.{FwRefusal}
use Rattle.snp_model.specs.declared.scenario.GuestSpec.{GuestSpec}
use Rattle.snp_model.specs.Firmware.{CommandPage}
use Rattle.snp_model.specs.FirmwareLocks.{context_refusal, guest_refusal}
use Rattle.snp_model.specs.FirmwareStep.{Phase, TakeContext, TakePage, Computing, Committing, lock_refusal, refused}
use Rattle.snp_model.specs.Locks.{covers}
use Rattle.snp_model.specs.Sealing.{Sealing}
use Rattle.snp_model.specs.State.{PageLock, Standing}
use Rattle.snp_model.specs.Touches.{Touched, region_of}
use Rattle.machine_core.specs.declared.command.NamedPage.{NamedPage}
use Rattle.machine_core.specs.declared.command.Next.{Next}
use Rattle.machine_core.specs.declared.command.Next.TheVariants as nexts
use Rattle.machine_core.specs.declared.shown.Shown.{Shown}
use Rattle.machine_core.specs.declared.taken_lock.Taken.TheVariants.{OfContext}
use Rattle.machine_core.specs.declared.taken_lock.TakenLock.{TakenLock}
use Rattle.machine_core.specs.CommandPages.{released_in}
use Rattle.machine_core.specs.Seals.{sealing_by}
use Rattle.machine_core.specs.Bays.{Stock, context_holders_of, contexts_of, holders_of, pages_of}

-- a page that a command names, as the model sees it
abbrev pub command_page : NamedPage → CommandPage
command_page page = record { part = page.part; frame = page.frame }

-- what an open attempt needs next, as the model sees it
abbrev pub phase_by : Next → Phase
phase_by (nexts.TakeContext guest) = TakeContext guest
phase_by (nexts.TakePage page) = TakePage (command_page page)
phase_by (nexts.Compute sealing) = Computing (sealing_by sealing)
phase_by (nexts.CommitSwap sealing) = Committing
phase_by nexts.Commit = Committing

-- a commit is that of a command which seals or opens this, or nothing
abbrev pub CommitsAs : Next → Option Sealing → Type 0
CommitsAs (nexts.TakeContext guest) sealing = Unit {0}
CommitsAs (nexts.TakePage page) sealing = Unit {0}
CommitsAs (nexts.Compute own) sealing = Unit {0}
CommitsAs (nexts.CommitSwap own) sealing = sealing ≡ Some (sealing_by own)
CommitsAs nexts.Commit sealing = sealing ≡ None

-- what an event shows that asks for the lock of a guest's context
abbrev pub context_shown : ℕ → Option FwRefusal → Shown
context_shown guest None = record { deed = deeds.LockContext guest; outcome = None; lock = Some (OfContext guest) }
context_shown guest (Some refusal) = record { deed = deeds.LockContext guest; outcome = Some (refused refusal); lock = None }

-- the refusal of the lock of a context, if it is refused
abbrev pub context_refused : List GuestSpec → Command → ℕ → Stock → Option FwRefusal
context_refused guests command guest stock =
    option_or (guest_refusal guests guest) (context_refusal guests command (contexts_of stock.contexts guests guest) (context_holders_of stock.contexts guest))

-- that of the lock of a page of a command
abbrev pub named_refused : ℕ → ℕ → Command → NamedPage → Stock → Option FwRefusal
named_refused frames asid command page stock =
    lock_refusal frames asid command (command_page page) (pages_of stock.bays page.frame) (holders_of stock.bays page.frame)

-- an actor has locked no context
abbrev pub HoldsNoContext : ℕ → Stock → Type 0
HoldsNoContext actor stock = (guest : ℕ) → context_holders_of stock.contexts guest ≢ Some actor

-- an actor has locked the context of this guest, and no other
pub record HoldsContext (actor guest : ℕ) (stock : Stock) : Type 0 where
  pub has : context_holders_of stock.contexts guest ≡ Some actor
  pub only : (other : ℕ) → context_holders_of stock.contexts other ≡ Some actor → other ≡ guest

-- the holders of locks once an actor has released those of the regions in which these locks lie
unfoldable pub let_go_in : ℕ → List PageLock → (ℕ → Option ℕ) → ℕ → Option ℕ
let_go_in actor [] holder = holder
let_go_in actor (lock ∷ locks) holder = let_go_in actor locks (released_in (lock.frame / 512) actor holder)

-- each lock covers frames of the region of the frame that it names
abbrev pub AreInOneRegion : List PageLock → Type 0
AreInOneRegion locks = AllByRecursion (λ lock. (frame : ℕ) → covers frame lock ≡ true → frame / 512 ≡ lock.frame / 512) locks

-- what the release touches of what an open attempt has locked
abbrev pub frames_touched : Standing → Touched
frames_touched standing = record { regions = map (λ lock. region_of lock.frame) standing.locks; context = standing.context_lock }

-- the refusal that an answer gives, if it does
abbrev pub refusal_in : Result TakenLock FwRefusal → Option FwRefusal
refusal_in (Ok taken) = None
refusal_in (Err refusal) = Some refusal
