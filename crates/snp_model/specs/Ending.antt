-- The report of a scenario under a schedule: its run, and its guests at the end (this project's own).
use Rattle.std.specs.Prelude.{ℕ, ◌+◌, List, [], ◌∷◌}
use Rattle.snp_model.specs.declared.report.GuestLine.{GuestLine}
use Rattle.snp_model.specs.declared.scenario.GuestSpec.{GuestSpec}
use Rattle.snp_model.specs.declared.scenario.Scenario.{Scenario}
use Rattle.snp_model.specs.Report.{report_text}
use Rattle.snp_model.specs.Run.{run_of, state_after}
use Rattle.snp_model.specs.State.{Context, Contexts, State}

-- what is said of a guest with this context
abbrev pub guest_line : ℕ → Context → GuestLine
guest_line guest context = record { guest = guest; state = context.state; pages = context.pages; digest = context.digest }

-- what is said of guests, whose numbers begin at `first`
unfoldable pub lines_from : Contexts → ℕ → List GuestSpec → List GuestLine
lines_from contexts first [] = []
lines_from contexts first (guest ∷ guests) = guest_line first (contexts first) ∷ lines_from contexts (first + 1) guests

-- what is said of the guests of a state
abbrev pub lines_of : State → List GuestLine
lines_of m = lines_from m.contents.contexts 1 m.guests

-- the bytes of the report
unfoldable pub report_of : Scenario → List ℕ → List ℕ
report_of scenario schedule = report_text scenario.version (run_of scenario schedule) (lines_of (state_after scenario schedule))
