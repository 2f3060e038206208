use Rattle.run_theorems.proofs.RunningLaws.{no_launch, opened_runs, run_running}
use Rattle.run_theorems.proofs.guest.running_guests.Goals as goal

pub returns-clause-opened : goal.returns-clause-opened
returns-clause-opened c = opened_runs

pub returns-clause-running : goal.returns-clause-running
returns-clause-running c = run_running

pub returns-clause-unlaunched : goal.returns-clause-unlaunched
returns-clause-unlaunched c = no_launch
