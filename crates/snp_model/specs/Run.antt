-- Runs: the events that a schedule makes from a state, one after the other, and the state after them.
use Rattle.std.specs.Prelude.{◌≡◌, ℕ, ◌<◌, ◌-◌, ◌==◌, if◌then◌else◌, List, [], ◌∷◌, length, slice_get, Option, Some, None}
use Rattle.snp_model.specs.declared.event.Event.{Event}
use Rattle.snp_model.specs.declared.event.Outcome.{Outcome}
use Rattle.snp_model.specs.declared.item.Line.{Line}
use Rattle.snp_model.specs.declared.scenario.Actor.{Actor}
use Rattle.snp_model.specs.declared.scenario.Scenario.{Scenario}
use Rattle.snp_model.specs.State.{State, IsUnfinished}
use Rattle.snp_model.specs.Step.{Position, event_of, after, position_after, line_at}
use Rattle.snp_model.specs.Opening.{opening}

-- the pairs of actor and event that a schedule makes from a state
unfoldable pub run_from : State → List ℕ → List (ℕ × Event)
run_from m [] = []
run_from m (actor ∷ actors) = (actor, event_of m actor) ∷ run_from (after m actor) actors

-- the state after a schedule
unfoldable pub state_from : State → List ℕ → State
state_from m [] = m
state_from m (actor ∷ actors) = state_from (after m actor) actors

-- each entry of the schedule names an actor that is unfinished at its place
unfoldable pub IsDefinedFrom : State → List ℕ → Type 0
IsDefinedFrom m [] = Unit {0}
IsDefinedFrom m (actor ∷ actors) = IsUnfinished m actor × IsDefinedFrom (after m actor) actors

-- the run of a scenario under a schedule
abbrev pub run_of : Scenario → List ℕ → List (ℕ × Event)
run_of scenario schedule = run_from (opening scenario) schedule

-- the state at its end
abbrev pub state_after : Scenario → List ℕ → State
state_after scenario schedule = state_from (opening scenario) schedule

-- the schedule makes a run of the scenario
abbrev pub IsDefined : Scenario → List ℕ → Type 0
IsDefined scenario schedule = IsDefinedFrom (opening scenario) schedule

-- the events of one actor in a run
unfoldable pub events_of : ℕ → List (ℕ × Event) → List Event
events_of actor [] = []
events_of actor (entry ∷ entries) = if entry.0 == actor then entry.1 ∷ events_of actor entries else events_of actor entries

-- where an actor stands after an event of an attempt: in the attempt still, or past it
abbrev pub position_from : List Line → Position → Option Outcome → Position
position_from script at None = at
position_from script at (Some outcome) = position_after (line_at script at.item) at outcome

-- an actor's events, from a place on, are attempts of its items one after the other: each event is of the item and attempt that the ones before leave it at
unfoldable pub AreAttempts : List Line → Position → List Event → Type 0
AreAttempts script at [] = Unit {0}
AreAttempts script at (event ∷ events) =
    (at.item < length script) × (event.item ≡ at.item) × (event.attempt ≡ at.attempt) × AreAttempts script (position_from script at event.outcome) events

-- each actor's items come once and in order
abbrev pub IsOrdered : Scenario → List ℕ → Type 0
IsOrdered scenario schedule =
    (number : ℕ) (actor : Actor) → 0 < number → slice_get scenario.actors (number - 1) ≡ Some actor
    → AreAttempts actor.script (record { item = 0; attempt = 0 }) (events_of number (run_of scenario schedule))
