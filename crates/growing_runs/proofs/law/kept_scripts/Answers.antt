use Rattle.growing_runs.proofs.AppendLaws.{after_rests, keeps_with, opening_rests, rests_with, run_rests, state_ready_with}
use Rattle.growing_runs.proofs.law.kept_scripts.Goals as goal

pub returns-clause-opening : goal.returns-clause-opening
returns-clause-opening c = opening_rests

pub returns-clause-after : goal.returns-clause-after
returns-clause-after c = after_rests

pub returns-clause-run : goal.returns-clause-run
returns-clause-run c = run_rests

pub returns-clause-rested : goal.returns-clause-rested
returns-clause-rested c = rests_with

pub returns-clause-ready : goal.returns-clause-ready
returns-clause-ready c = state_ready_with

pub returns-clause-locks : goal.returns-clause-locks
returns-clause-locks c = keeps_with
