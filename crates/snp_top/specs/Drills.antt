-- What `gen` and `drill` make of their number, and what they write of it. This project's own.
use Rattle.std.specs.Prelude.{◌≡◌, ℕ, ◌++◌, Bool, List, Option, Result, Ok, Err, codes, decimal}
use Rattle.rand_pcg.specs.Lcg.{Lcg}
use Rattle.snp_model.specs.declared.event.Outcome.{Outcome}
use Rattle.snp_model.specs.Drill.{IsPicked, IsPickedFrom, drill_text, is_other}
use Rattle.snp_model.specs.Ending.{lines_of}
use Rattle.snp_model.specs.EventText.{hex_bytes}
use Rattle.snp_model.specs.Generated.{generated}
use Rattle.snp_model.specs.Journal.{JournalImage}
use Rattle.snp_model.specs.Outcomes.{is_good, is_in_use}
use Rattle.snp_model.specs.Outside.{Adds, AddsPrefix, Rose}
use Rattle.snp_model.specs.Report.{line}
use Rattle.snp_model.specs.Run.{run_of, state_after}
use Rattle.snp_model.specs.ScenarioText.{scenario_text}
use Rattle.snp_model.specs.State.{State}
use Rattle.snp_top.specs.declared.fault.CommandFault.{CommandFault}
use Rattle.snp_top.specs.declared.fault.CommandFault.TheVariants as faults
use Rattle.snp_top.specs.declared.drilling.Sort.{Sort}
use Rattle.snp_top.specs.declared.drilling.Sort.TheVariants as sorts
use Rattle.snp_top.specs.declared.drilling.Tally.{Tally}
use Rattle.snp_top.specs.declared.replay.Played.{Played}
use Rattle.snp_top.specs.declared.words.Drawn.{Drawn}
use Rattle.snp_top.specs.declared.words.Drawn.TheVariants as draws
use Rattle.snp_top.specs.Batch.{WritesNothing}
use Rattle.snp_top.specs.Schedule.{Plays, PlaysOn}

-- this holds of what a number determines: of the text of its scenario, or of the six lines that tell of its drill, under the schedule
-- that is picked
abbrev pub SaysDrawn : Drawn → ℕ → (List ℕ → Type 0) → Type 0
SaysDrawn draws.Gen number Is = Is (scenario_text (generated number))
SaysDrawn draws.Drill number Is = (schedule : List ℕ) × IsPicked number schedule × Is (drill_text number schedule)

-- the text of the scenario of a number is written, or a front of it
abbrev pub WritesScenario : ℕ → Option (List ℕ) → Option (List ℕ) → Type 0
WritesScenario number old now = SaysDrawn draws.Gen number (Adds old now)

abbrev pub CutsScenario : ℕ → Option (List ℕ) → Option (List ℕ) → Type 0
CutsScenario number old now = SaysDrawn draws.Gen number (AddsPrefix old now)

-- the lines of the drill of a number are written, or a front of them
abbrev pub WritesDrill : ℕ → Option (List ℕ) → Option (List ℕ) → Type 0
WritesDrill number old now = SaysDrawn draws.Drill number (Adds old now)

abbrev pub CutsDrill : ℕ → Option (List ℕ) → Option (List ℕ) → Type 0
CutsDrill number old now = SaysDrawn draws.Drill number (AddsPrefix old now)

-- what came of writing a text that a number determines; want of memory is free
abbrev pub DrawsOut : ((List ℕ → Type 0) → Type 0) → Option (List ℕ) → Option (List ℕ) → ℕ → ℕ → Result (Unit {0}) CommandFault → Type 0
DrawsOut Says old now before after (Ok done) = Says (Adds old now)
DrawsOut Says old now before after (Err faults.Write) = Says (AddsPrefix old now) × Rose before after
DrawsOut Says old now before after (Err faults.Memory) = WritesNothing old now before after
DrawsOut Says old now before after (Err fault) = ⊥

-- a schedule that a generator picks from a state on was played, and the journal is its events
pub record PlaysPicks (m : State) (g : Lcg) (journal : JournalImage) (new : State) : Type 0 where
  pub schedule : List ℕ
  pub picked : IsPickedFrom m g schedule
  pub plays : Plays m schedule journal new

-- the front of such a schedule was played: the generator, as it is left, picks the rest of it
pub record PicksOn (m : State) (g : Lcg) (before now : JournalImage) (new : State) (left : Lcg) : Type 0 where
  pub schedule : List ℕ
  pub plays : PlaysOn m schedule before now new
  pub picks : (rest : List ℕ) → IsPickedFrom new left rest → IsPickedFrom m g (schedule ++ rest)

-- the drill of a number was run, and these are its version, its events and its guests at the end
pub record IsDrilled (number : ℕ) (played : Played) : Type 0 where
  pub schedule : List ℕ
  pub picked : IsPicked number schedule
  pub version : played.version ≡ (generated number).version
  pub events : played.journal.list ≡ run_of (generated number) schedule
  pub guests : played.guests.items ≡ lines_of (state_after (generated number) schedule)

-- whether an outcome is of a sort
abbrev pub is_of : Sort → Outcome → Bool
is_of sorts.Good outcome = is_good outcome
is_of sorts.InUse outcome = is_in_use outcome
is_of sorts.Other outcome = is_other outcome

-- the lines that tell of a drill that came to this
unfoldable pub tally_text : Tally → List ℕ
tally_text tally =
    line (codes "drill " ++ decimal tally.number)
    ++ (line (codes "events " ++ decimal tally.events)
    ++ (line (codes "good " ++ decimal tally.good)
    ++ (line (codes "inuse " ++ decimal tally.in_use)
    ++ (line (codes "bad " ++ decimal tally.other)
    ++ line (codes "report " ++ hex_bytes tally.digest)))))
