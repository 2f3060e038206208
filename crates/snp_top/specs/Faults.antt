-- Why a command comes to nothing: its exit status and its error line. This project's own.
use Rattle.std.specs.Prelude.{ℕ, ◌++◌, List, [], Result, Ok, Err, codes, decimal}
use Rattle.snp_model.specs.declared.reading.Quantity.{Quantity}
use Rattle.snp_model.specs.declared.reading.Quantity.TheVariants.{Bytes, Regions, Guests, Actors, Attempts, Order}
use Rattle.snp_model.specs.declared.reading.Reason.{Reason}
use Rattle.snp_model.specs.declared.reading.Reason.TheVariants.{Cut, Form, Number, Range, Align, Guest, Repeat, End, After}
use Rattle.snp_model.specs.Limits.{most}
use Rattle.scenario_text.specs.declared.fault.ScenarioFault.{ScenarioFault}
use Rattle.scenario_text.specs.declared.fault.ScenarioFault.TheVariants as texts
use Rattle.snp_top.specs.declared.fault.CommandFault.{CommandFault}
use Rattle.snp_top.specs.declared.fault.CommandFault.TheVariants as faults

-- the exit status of a fault
abbrev pub status_of : CommandFault → ℕ
status_of faults.Words = 2
status_of (faults.Scenario line reason) = 3
status_of (faults.Limit quantity count) = 4
status_of faults.Read = 5
status_of faults.Write = 6
status_of faults.Memory = 7
status_of (faults.Schedule turn) = 8

-- the exit status of a command
abbrev pub exit_status : Result (Unit {0}) CommandFault → ℕ
exit_status (Ok done) = 0
exit_status (Err fault) = status_of fault

-- the fault of a text
abbrev pub text_fault : ScenarioFault → CommandFault
text_fault (texts.Refused line reason) = faults.Scenario line reason
text_fault (texts.Limit quantity count) = faults.Limit quantity count
text_fault (texts.Memory error) = faults.Memory

-- the name of a reason
unfoldable pub reason_text : Reason → List ℕ
reason_text Cut = codes "cut"
reason_text Form = codes "form"
reason_text Number = codes "number"
reason_text Range = codes "range"
reason_text Align = codes "align"
reason_text Guest = codes "guest"
reason_text Repeat = codes "repeat"
reason_text End = codes "end"
reason_text After = codes "after"

-- the name of a quantity
unfoldable pub quantity_text : Quantity → List ℕ
quantity_text Bytes = codes "bytes"
quantity_text Regions = codes "regions"
quantity_text Guests = codes "guests"
quantity_text Actors = codes "actors"
quantity_text Attempts = codes "attempts"
quantity_text Order = codes "order"

-- the error line of a text that is refused at a line
unfoldable pub refusal_line : ℕ → Reason → List ℕ
refusal_line line reason = codes "error scenario " ++ decimal line ++ codes " " ++ reason_text reason ++ codes "\n"

-- the error line of a limit
unfoldable pub limit_line : Quantity → ℕ → List ℕ
limit_line quantity count = codes "error limit " ++ quantity_text quantity ++ codes " " ++ decimal count ++ codes " " ++ decimal (most quantity) ++ codes "\n"

-- the error line of an entry of a schedule
unfoldable pub schedule_line : ℕ → ℕ → List ℕ
schedule_line entry actor = codes "error schedule " ++ decimal entry ++ codes " " ++ decimal actor ++ codes "\n"

-- the error line of a fault; there is none where writing failed
unfoldable pub error_line : CommandFault → List ℕ
error_line faults.Words = codes "error words\n"
error_line (faults.Scenario line reason) = refusal_line line reason
error_line (faults.Limit quantity count) = limit_line quantity count
error_line faults.Read = codes "error read\n"
error_line faults.Write = []
error_line faults.Memory = codes "error memory\n"
error_line (faults.Schedule turn) = schedule_line turn.entry turn.actor
