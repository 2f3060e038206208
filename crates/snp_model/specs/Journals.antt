-- Journals that are runs of a scenario: their events are those of the schedule that their actors spell. This project's own.
use Rattle.std.specs.Prelude.{◌≡◌, ℕ, ◌-◌, ◌==◌, if◌then◌else◌, List, length, slice_get, Option, Some, None}
use Rattle.snp_model.specs.declared.event.Deed.TheVariants.{Control}
use Rattle.snp_model.specs.declared.event.Event.{Event}
use Rattle.snp_model.specs.declared.scenario.Actor.{Actor}
use Rattle.snp_model.specs.declared.scenario.Scenario.{Scenario}
use Rattle.snp_model.specs.Journal.{actors_of}
use Rattle.snp_model.specs.Run.{IsDefined, run_of, state_after}
use Rattle.snp_model.specs.State.{State, IsUnfinished}

-- the state after a journal's events
abbrev pub state_at : Scenario → List (ℕ × Event) → State
state_at scenario entries = state_after scenario (actors_of entries)

-- the events are a run of the scenario
pub record IsRun (scenario : Scenario) (entries : List (ℕ × Event)) : Type 0 where
  pub defined : IsDefined scenario (actors_of entries)
  pub events : entries ≡ run_of scenario (actors_of entries)

-- no actor has an item left at their end
abbrev pub IsComplete : Scenario → List (ℕ × Event) → Type 0
IsComplete scenario entries = (actor : ℕ) → IsUnfinished (state_at scenario entries) actor → ⊥

-- how many items an actor has, if it exists
abbrev pub items_in : Option Actor → ℕ
items_in None = 0
items_in (Some actor) = length actor.script

-- so of one by number from 1
abbrev pub items_of : Scenario → ℕ → ℕ
items_of scenario actor = if actor == 0 then 0 else items_in (slice_get scenario.actors (actor - 1))

-- what is answered of an actor that is missing or finished: an event of no run, since a skip always has an outcome
abbrev pub idle_event : Scenario → ℕ → Event
idle_event scenario actor = record { item = items_of scenario actor; attempt = 0; deed = Control; outcome = None }
