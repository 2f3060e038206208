-- What the events of a command of the firmware rest on: the bounds of its numbers, and, of its compute and its commit, what its attempt has taken (this project's own).
use Rattle.std.specs.Prelude.{◌≡◌, ℕ, ◌<◌, List, length, slice_get, Some, None, IfSome}
use Rattle.snp_model.specs.declared.command.Command.{Command}
use Rattle.snp_model.specs.declared.scenario.GuestSpec.{GuestSpec}
use Rattle.snp_model.specs.Firmware.{entry_of, guest_of, pages_of}
use Rattle.snp_model.specs.State.{ActorPart}
use Rattle.snp_model.specs.Touches.{command_touches}
use Rattle.run_laws.specs.HeldLocks.{AreCommandLocks}
use Rattle.run_laws.specs.KeptLocks.{OwnsContext, OwnsLocks}
use Rattle.machine_core.specs.Bays.{HasTouched, Stock, contents_of, locks_of}

-- the guest of a command has a number from 1 on, and an entry that it names is one of the 64 of a metadata page
pub record IsBoundedCommand (command : Command) : Type 0 where
  pub guest : (guest : ℕ) → guest_of command ≡ Some guest → 0 < guest
  pub entry : IfSome (entry_of command) (λ number. number < 64)

-- the open attempt of an actor has locked all that its command locks, what the tests asked still holds, and all that the commit touches is there; its compute rests on the same
pub record MayCommit (frames : ℕ) (guests : List GuestSpec) (actor : ℕ) (command : Command) (part : ActorPart) (stock : Stock) : Type 0 where
  pub all : slice_get (pages_of command) (length part.standing.locks) ≡ None
  pub held : (guest : ℕ) → guest_of command ≡ Some guest → part.standing.context_lock ≡ Some guest
  pub tested : AreCommandLocks frames guests (contents_of stock guests) command part.standing
  pub has : HasTouched (command_touches part.standing command) stock
  pub owns : OwnsLocks actor part (locks_of stock).holder
  pub owns_context : OwnsContext actor part (locks_of stock).context_holder
