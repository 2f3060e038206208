-- What the steps of reading a scenario text answer.
use Rattle.std.specs.Prelude.{◌≡◌, ℕ, List, take, Result, Ok, Err}
use Rattle.snp_model.specs.declared.reading.Reason.{Reason}
use Rattle.snp_model.specs.declared.scenario.Scenario.{Scenario}
use Rattle.snp_model.specs.declared.scenario.Turn.{Turn}
use Rattle.snp_model.specs.Reading as says
use Rattle.snp_model.specs.Reading.{Fault, refused, passes, nothing, reading, closed}
use Rattle.scenario_text.specs.declared.fault.LineFault.{LineFault}
use Rattle.scenario_text.specs.declared.fault.LineFault.TheVariants.{Refused, Limit, Memory}
use Rattle.scenario_text.specs.declared.fault.ScenarioFault.{ScenarioFault}
use Rattle.scenario_text.specs.declared.fault.ScenarioFault.TheVariants as faults
use Rattle.scenario_text.specs.declared.draft.Next.{Next}
use Rattle.scenario_text.specs.declared.draft.Next.TheVariants.{Goes, Ends}
use Rattle.scenario_text.specs.declared.draft.Made.{Made}
use Rattle.scenario_text.specs.declared.draft.Made.TheVariants.{Nothing, Reading, Closed}

-- what is made so far
abbrev pub made_of : Made → says.Made
made_of Nothing = nothing
made_of (Reading draft) = reading draft.scenario
made_of (Closed scenario) = closed scenario

-- a fault is the one that comes; want of memory is none of them
abbrev pub Fails : {A : Type 0} → LineFault → Result A Fault → Type 0
Fails (Refused reason) answer = answer ≡ Err (refused reason)
Fails (Limit quantity count) answer = answer ≡ Err (passes quantity count)
Fails Memory answer = Unit {0}

-- the result of a step is this one
abbrev pub Gives : Result Made LineFault → Result says.Made Fault → Type 0
Gives (Ok made) answer = answer ≡ Ok (made_of made)
Gives (Err fault) answer = Fails fault answer

-- the same of a step that changes a scenario
abbrev pub Grows : Result (Unit {0}) LineFault → Scenario → Result says.Made Fault → Type 0
Grows (Ok done) scenario answer = answer ≡ Ok (reading scenario)
Grows (Err fault) scenario answer = Fails fault answer

-- of one that may end its text
abbrev pub Continues : Result Next LineFault → Scenario → Result says.Made Fault → Type 0
Continues (Ok Goes) scenario answer = answer ≡ Ok (reading scenario)
Continues (Ok Ends) scenario answer = answer ≡ Ok (closed scenario)
Continues (Err fault) scenario answer = Fails fault answer

-- and of one that changes what is made so far
abbrev pub Changes : Result (Unit {0}) LineFault → Made → Result says.Made Fault → Type 0
Changes (Ok done) made answer = answer ≡ Ok (made_of made)
Changes (Err fault) made answer = Fails fault answer

-- a scenario that was being read is closed
abbrev pub IsClosed : Made → Made → Type 0
IsClosed (Reading draft) new = made_of new ≡ closed draft.scenario
IsClosed Nothing new = Unit {0}
IsClosed (Closed scenario) new = Unit {0}

-- the runs of a line are the first so many of these
abbrev pub GivesTurns : Result ℕ Reason → List Turn → Result (List Turn) Reason → Type 0
GivesTurns (Ok count) turns answer = answer ≡ Ok (take count turns)
GivesTurns (Err reason) turns answer = answer ≡ Err reason

-- the result of a text is this one
abbrev pub FailsAt : ScenarioFault → Result Scenario (ℕ × Fault) → Type 0
FailsAt (faults.Refused line reason) answer = answer ≡ Err (line, refused reason)
FailsAt (faults.Limit quantity count) answer = (line : ℕ) × (answer ≡ Err (line, passes quantity count))
FailsAt (faults.Memory error) answer = Unit {0}

abbrev pub Says : Result Scenario ScenarioFault → Result Scenario (ℕ × Fault) → Type 0
Says (Ok scenario) answer = answer ≡ Ok scenario
Says (Err fault) answer = FailsAt fault answer

-- want of memory
abbrev pub IsMemory : ScenarioFault → Type 0
IsMemory (faults.Memory error) = Unit {0}
IsMemory fault = ⊥

-- a fault of a line, at its number
abbrev pub SaysFault : ℕ → LineFault → ScenarioFault → Type 0
SaysFault line (Refused reason) fault = fault ≡ faults.Refused line reason
SaysFault line (Limit quantity count) fault = fault ≡ faults.Limit quantity count
SaysFault line Memory fault = IsMemory fault
