-- What an actor's own part keeps through every run of a valid scenario: all that its next event rests on, beside the parts of memory that it touches. This project's own.
use Rattle.std.specs.Prelude.{ℕ, List, All, length}
use Rattle.std.specs.List.{AllByRecursion}
use Rattle.snp_model.specs.declared.scenario.GuestSpec.{GuestSpec}
use Rattle.snp_model.specs.Bounds.{IsRole, IsLineOf}
use Rattle.snp_model.specs.State.{ActorPart, State}
use Rattle.run_laws.specs.Room.{IsBounded}

-- an actor is ready for its next event, in a memory of so many frames and with these declared guests
pub record IsReady (frames : ℕ) (guests : List GuestSpec) (part : ActorPart) : Type 0 where
  -- its role's numbers are in range
  pub role : IsRole frames (length guests) part.role
  -- so are its items
  pub script : AllByRecursion (IsLineOf frames part.role) part.script
  -- and its open attempt has made what its item calls for, which is not much
  pub bounded : IsBounded frames part

-- so each actor
abbrev pub AreReady : State → Type 0
AreReady m = All (IsReady m.frames m.guests) m.actors
