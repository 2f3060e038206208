-- What a fleet keeps of the run that its threads made together. This project's own.
use Rattle.std.specs.Prelude.{◌≡◌, ℕ, ◌+◌, ◌<◌, List, length, slice_index_or, Option, Some}
use Rattle.snp_model.specs.declared.event.Event.{Event}
use Rattle.snp_model.specs.declared.report.GuestLine.{GuestLine}
use Rattle.snp_model.specs.declared.scenario.Scenario.{Scenario}
use Rattle.snp_model.specs.Ending.{lines_of}
use Rattle.snp_model.specs.Journals.{IsComplete, IsRun, state_at}

-- the events of a run with their actors, and what is said of its guests at the end
pub record Kept : Type 0 where
  pub guests : List GuestLine
  pub list : List (ℕ × Event)

-- a whole run of the scenario: at its end every actor has passed its last item
pub record IsWhole (c : Scenario) (kept : Kept) : Type 0 where
  pub run : IsRun c kept.list
  pub complete : IsComplete c kept.list
  pub guests : kept.guests ≡ lines_of (state_at c kept.list)

-- there is a scenario, and a whole run of it is kept
abbrev pub KeepsWhole : Option Scenario → Option Kept → Type 0
KeepsWhole (Some c) (Some kept) = IsWhole c kept
KeepsWhole opening kept = ⊥

-- the passes belong to the object, one for each of so many actors, from actor 1 on
pub record ArePasses {O P : Type 0} (is_of : O → P → Type 0) (actor_of : P → ℕ) (object : O) (count : ℕ) (passes : List P) : Type 0 where
  pub counted : length passes ≡ count
  pub each : (k : ℕ) (d : P) → k < count → is_of object (slice_index_or passes k d) × (actor_of (slice_index_or passes k d) ≡ k + 1)
