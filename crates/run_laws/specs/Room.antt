-- How many events a state's actors can still make: at most 32 for each attempt (this project's own).
use Rattle.std.specs.Prelude.{ℕ, ◌+◌, ◌-◌, ◌*◌, ◌<◌, ◌≤◌, List, [], ◌∷◌, All, length, drop}
use Rattle.snp_model.specs.declared.item.Line.{Line}
use Rattle.snp_model.specs.Attempts.{script_attempts}
use Rattle.snp_model.specs.State.{ActorPart, State}
use Rattle.snp_model.specs.Step.{line_at}
use Rattle.run_laws.specs.OpenAttempts.{IsWalking}

-- of the lines from the one under way on, whose attempt has made some events
unfoldable pub lines_room : List Line → ℕ → ℕ → ℕ
lines_room [] attempt made = 0
lines_room (line ∷ lines) attempt made = (32 * ((1 + line.retries) - attempt) - made) + 32 * script_attempts lines

-- of an actor
unfoldable pub part_room : ActorPart → ℕ
part_room part = lines_room (drop part.item part.script) part.attempt (length part.deeds)

-- of several actors
unfoldable pub parts_room : List ActorPart → ℕ
parts_room [] = 0
parts_room (part ∷ parts) = part_room part + parts_room parts

-- of all actors of a state
unfoldable pub room_of : State → ℕ
room_of m = parts_room m.actors

-- an actor's open attempt has made what its item calls for, which is fewer than 32 deeds, and it is one of those that its line has
pub record IsBounded (frames : ℕ) (part : ActorPart) : Type 0 where
  pub walking : IsWalking frames part
  pub short : length part.deeds < 32
  pub within : part.item < length part.script → part.attempt ≤ (line_at part.script part.item).retries

-- so of each actor
abbrev pub AreBounded : State → Type 0
AreBounded m = All (IsBounded m.frames) m.actors
