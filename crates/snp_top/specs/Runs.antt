-- What the program reports of a run, whether the scenario's order lines say its schedule or its threads make it as they go. This project's own.
use Rattle.std.specs.Prelude.{◌≡◌, ℕ, Bool, true, false, ◌||◌, List, codes, Option, Some, Result, Ok, Err}
use Rattle.snp_model.specs.declared.scenario.Scenario.{Scenario}
use Rattle.snp_model.specs.CommandLine.{are_words, is_alone, is_replay}
use Rattle.snp_model.specs.Ending.{report_of}
use Rattle.snp_model.specs.Premises.{AreLegal}
use Rattle.snp_model.specs.Journal.{actors_of}
use Rattle.snp_model.specs.Outside.{Adds, AddsPrefix, Rose}
use Rattle.snp_model.specs.Reading.{order_of}
use Rattle.snp_model.specs.Report.{actors_in, report_text, runs_of}
use Rattle.snp_model.specs.Run.{IsDefined, IsOrdered, run_of, state_after}
use Rattle.snp_model.specs.State.{IsUnfinished}
use Rattle.snp_top.specs.declared.fault.CommandFault.{CommandFault}
use Rattle.snp_top.specs.declared.fault.CommandFault.TheVariants as faults
use Rattle.snp_top.specs.Batch.{WritesNothing}
use Rattle.snp_top.specs.Fleets.{IsWhole, Kept}
use Rattle.snp_top.specs.Words.{takes_text}

-- whether the words are `run` alone
abbrev pub is_run : List (List ℕ) → Bool
is_run words = is_alone (codes "run") words

-- whether they are those of a command that reads a scenario
abbrev pub reads_scenario : List (List ℕ) → Bool
reads_scenario words = is_run words || is_replay words

-- whether they are those of a command that reads a text
abbrev pub reads_text : List (List ℕ) → Bool
reads_text words = is_run words || takes_text words

-- whether they are those of any command
abbrev pub are_commands : List (List ℕ) → Bool
are_commands words = is_run words || are_words words

-- every actor has passed its last item at the end of the schedule
abbrev pub FinishesAll : Scenario → List ℕ → Type 0
FinishesAll c schedule = (actor : ℕ) → IsUnfinished (state_after c schedule) actor → ⊥

-- the schedule that is reported: where the actors run to their ends, one that does so, and else that of the order lines
abbrev pub IsChosen : Bool → Scenario → List ℕ → Type 0
IsChosen true c schedule = FinishesAll c schedule
IsChosen false c schedule = schedule ≡ order_of c

-- this is so of the report of one run of the scenario. In that run each actor's items come once and in order, the private
-- accesses of each disciplined guest, for which no ciphertext meets the tag of another, are one legal history of a memory of
-- its own, and the order lines of the report spell its schedule
pub record IsReported (to_ends : Bool) (c : Scenario) (Writes : List ℕ → Type 0) : Type 0 where
  pub schedule : List ℕ
  pub chosen : IsChosen to_ends c schedule
  pub defined : IsDefined c schedule
  pub ordered : IsOrdered c schedule
  pub legal : AreLegal c schedule
  pub spelled : actors_in (runs_of (actors_of (run_of c schedule))) ≡ schedule
  pub written : Writes (report_of c schedule)

-- a whole run of the scenario is kept, and this is so of its report. The run that is reported is that one and no other: its
-- schedule is that of the events which are kept
pub record IsKeptRun (c : Scenario) (kept : Kept) (Writes : List ℕ → Type 0) : Type 0 where
  pub whole : IsWhole c kept
  pub written : Writes (report_text c.version kept.list kept.guests)
  pub reported : IsReported true c Writes
  pub same : reported.schedule ≡ actors_of kept.list

-- a fleet's last opening is the scenario, and this is so of the report of the run that it keeps of it
abbrev pub ReportsKept : Scenario → Option Scenario → Option Kept → (List ℕ → Type 0) → Type 0
ReportsKept c (Some opens) (Some kept) Writes = (opens ≡ c) × IsKeptRun c kept Writes
ReportsKept c opens kept Writes = ⊥

-- this is so where the sink failed under the report
abbrev pub OnCut : Result (Unit {0}) CommandFault → Type 0 → Type 0
OnCut (Err faults.Write) P = P
OnCut result P = Unit {0}

-- what came of running a valid scenario's actors to their ends and reporting it; want of memory is free
abbrev pub RunsOut : Scenario → Option (List ℕ) → Option (List ℕ) → ℕ → ℕ → Result (Unit {0}) CommandFault → Type 0
RunsOut c old now before after (Ok done) = IsReported true c (Adds old now)
RunsOut c old now before after (Err faults.Write) = IsReported true c (AddsPrefix old now) × Rose before after
RunsOut c old now before after (Err faults.Memory) = WritesNothing old now before after
RunsOut c old now before after (Err fault) = ⊥

-- no entry of a schedule is at fault
abbrev pub IsNoTurn : CommandFault → Type 0
IsNoTurn (faults.Schedule turn) = ⊥
IsNoTurn fault = Unit {0}
