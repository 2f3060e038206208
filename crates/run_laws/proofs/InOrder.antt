-- What every state of a run keeps, whatever the guest is and whether it is disciplined or not: locks, open attempts, shapes, and that what was made and kept fits.
use Rattle.std.proofs.Common.{◌≡◌, ℕ, IfSome, length, Some}
use Rattle.snp_model.specs.declared.firmware.MetaEntry.{MetaEntry}
use Rattle.snp_model.specs.Bounds.{IsRole}
use Rattle.snp_model.specs.Metadata.{IsMetaEntry}
use Rattle.snp_model.specs.State.{Computed, State, part_of}
use Rattle.run_laws.specs.KeptLocks.{KeepsLocks}
use Rattle.run_laws.specs.OpenAttempts.{AreWalking}
use Rattle.run_laws.specs.Operands.{HaveOperands}
use Rattle.run_laws.specs.Shapes.{AreShaped}
use Rattle.run_laws.specs.Uniqueness.{IsFull}

-- a page that a compute has made is full, and its entry's fields are in their ranges
pub record IsFitMade (made : Computed) : Type 0 where
  pub full : IsFull made.words
  pub entry : IfSome made.entry IsMetaEntry

-- so of what each actor has made
abbrev pub HaveFitMade : State → Type 0
HaveFitMade m = (actor : ℕ) (made : Computed) → (part_of m actor).standing.computed ≡ Some made → IsFitMade made

-- the root of each guest, if it is in use, has fields in their ranges
abbrev pub HaveFitRoots : State → Type 0
HaveFitRoots m = (guest : ℕ) (entry : MetaEntry) → (m.contents.contexts guest).root ≡ Some entry → IsMetaEntry entry

-- each actor's role has numbers in range
abbrev pub HaveRoles : State → Type 0
HaveRoles m = (actor : ℕ) → IsRole m.frames (length m.guests) (part_of m actor).role

-- a state is in order
pub record IsInOrder (m : State) : Type 0 where
  pub roles : HaveRoles m
  pub operands : HaveOperands m
  pub locks : KeepsLocks m
  pub walking : AreWalking m
  pub shapes : AreShaped m
  pub made : HaveFitMade m
  pub roots : HaveFitRoots m
