-- What the program answers, and what it then has read and written. This project's own.
use Rattle.std.specs.Prelude.{◌≡◌, ℕ, ◌⊎◌, List, Option, IfSome, Result, Ok, Err}
use Rattle.snp_model.specs.declared.reading.Quantity.{Quantity}
use Rattle.snp_model.specs.declared.reading.Reason.{Reason}
use Rattle.snp_model.specs.declared.scenario.Scenario.{Scenario}
use Rattle.snp_model.specs.Opening.{opening}
use Rattle.snp_model.specs.Outside.{Adds, AddsPrefix, Rose}
use Rattle.snp_model.specs.Reading.{Passes, Reads, Refuses, order_of}
use Rattle.snp_model.specs.Run.{IsDefined}
use Rattle.snp_top.specs.declared.fault.CommandFault.{CommandFault}
use Rattle.snp_top.specs.declared.fault.CommandFault.TheVariants as faults
use Rattle.snp_top.specs.Faults.{error_line, limit_line, refusal_line, schedule_line}
use Rattle.snp_top.specs.Replays.{ReadsSome, ReadsText, SaysOne}
use Rattle.snp_top.specs.Schedule.{IsFirstBad}

-- the scenario that the text says, if any, has this
abbrev pub ForScenario : Option (List ℕ) → (Scenario → Type 0) → Type 0
ForScenario left P = IfSome left (λ text. (c : Scenario) → Reads text c → P c)

-- the text says a scenario whose schedule makes a run
abbrev pub SaysRun : Option (List ℕ) → Type 0
SaysRun left = IfSome left (SaysOne (λ c. IsDefined c (order_of c)))

-- a line is written: whole, or a front of it where the sink's count of faults rose
abbrev pub WritesLine : Option (List ℕ) → Option (List ℕ) → ℕ → ℕ → List ℕ → Type 0
WritesLine old now before after line = Adds old now line ⊎ (AddsPrefix old now line × Rose before after)

-- the text was read to its end, a line of it is the first that is refused, and this line and its reason are written
abbrev pub SaysRefusal : Option (List ℕ) → Option (List ℕ) → Option (List ℕ) → Option (List ℕ) → ℕ → ℕ → Type 0
SaysRefusal left now old written before after =
    (line : ℕ) × (reason : Reason) × ReadsText left now (λ text. Refuses text line reason) × WritesLine old written before after (refusal_line line reason)

-- the text was read, or as much of it as tells that it is too long, a limit is the first thing that is met, and this limit and the count that passes it are written
abbrev pub SaysLimit : Option (List ℕ) → Option (List ℕ) → Option (List ℕ) → Option (List ℕ) → ℕ → ℕ → Type 0
SaysLimit left now old written before after =
    (quantity : Quantity) × (count : ℕ) × ReadsSome left now (λ text. Passes text quantity count) × WritesLine old written before after (limit_line quantity count)

-- the text was read to its end and says a scenario, an entry of its schedule is the first that names a missing or finished actor, and this entry and this actor are written
abbrev pub SaysBadTurn : Option (List ℕ) → Option (List ℕ) → Option (List ℕ) → Option (List ℕ) → ℕ → ℕ → Type 0
SaysBadTurn left now old written before after =
    (entry : ℕ) × (actor : ℕ) × ReadsText left now (SaysOne (λ c. IsFirstBad (opening c) (order_of c) entry actor)) × WritesLine old written before after (schedule_line entry actor)

-- a report is written, or a front of it where the sink's count rose
abbrev pub ReportsTo : Option (List ℕ) → Option (List ℕ) → ℕ → ℕ → List ℕ → Result (Unit {0}) CommandFault → Type 0
ReportsTo old now before after text (Ok done) = Adds old now text
ReportsTo old now before after text (Err faults.Write) = AddsPrefix old now text × Rose before after
ReportsTo old now before after text (Err fault) = ⊥

-- the source and the sink at a moment: the bytes still to come and those taken, where they are told, and how often each has failed
pub record Outside : Type 0 where
  pub left : Option (List ℕ)
  pub read_faults : ℕ
  pub written : Option (List ℕ)
  pub write_faults : ℕ

-- nothing is written
abbrev pub WritesNothing : Option (List ℕ) → Option (List ℕ) → ℕ → ℕ → Type 0
WritesNothing old now before after = (now ≡ old) × (after ≡ before)

-- a command ends with its error line, if it came to nothing: that of a failed write is empty
abbrev pub Concludes : Result (Unit {0}) CommandFault → Option (List ℕ) → Option (List ℕ) → ℕ → ℕ → Type 0
Concludes (Ok done) old now before after = WritesNothing old now before after
Concludes (Err fault) old now before after = WritesLine old now before after (error_line fault)

-- an error line is written between two moments
abbrev pub Wrote : Outside → Outside → List ℕ → Type 0
Wrote before now line = WritesLine before.written now.written before.write_faults now.write_faults line
