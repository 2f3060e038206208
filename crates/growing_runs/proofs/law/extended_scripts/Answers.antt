use Rattle.growing_runs.proofs.ExtendingLaws.{commutes, extended_run}
use Rattle.growing_runs.proofs.GrownRuns.{attempts_more, run_with, state_with}
use Rattle.growing_runs.proofs.law.extended_scripts.Goals as goal

pub returns-clause-step : goal.returns-clause-step
returns-clause-step c = commutes

pub returns-clause-from : goal.returns-clause-from
returns-clause-from c = λ m actor lines schedule defined. extended_run m actor lines schedule defined

pub returns-clause-run : goal.returns-clause-run
returns-clause-run c = run_with

pub returns-clause-state : goal.returns-clause-state
returns-clause-state c = state_with

pub returns-clause-attempts : goal.returns-clause-attempts
returns-clause-attempts c = attempts_more
