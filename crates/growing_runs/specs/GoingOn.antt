-- Where a state's script may go on: its actor has passed its last item and is at rest. This project's own.
use Rattle.std.specs.Prelude.{◌≡◌, ℕ, ◌-◌, ◌<◌, ◌≤◌, List, All, length}
use Rattle.std.specs.List.{AllByRecursion}
use Rattle.snp_model.specs.declared.item.Line.{Line}
use Rattle.snp_model.specs.Bounds.{IsLineOf}
use Rattle.snp_model.specs.State.{ActorPart, State, part_of}

-- an actor that has passed its last item is at no later attempt than its first
abbrev pub IsRested : ActorPart → Type 0
IsRested part = length part.script ≤ part.item → part.attempt ≡ 0

-- so each actor
abbrev pub AreRested : State → Type 0
AreRested m = All IsRested m.actors

-- an actor that exists has passed its last item, and these lines are such as its role may have
pub record MayGoOn (m : State) (actor : ℕ) (lines : List Line) : Type 0 where
  pub there : actor - 1 < length m.actors
  pub finished : length (part_of m actor).script ≤ (part_of m actor).item
  pub fits : AllByRecursion (IsLineOf m.frames (part_of m actor).role) lines
