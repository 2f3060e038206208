use Rattle.growing_runs.proofs.EndLaws.{at_end, goes_on}
use Rattle.growing_runs.proofs.law.ended_scripts.Goals as goal

pub returns-clause-ends : goal.returns-clause-ends
returns-clause-ends c = at_end

pub returns-clause-goes_on : goal.returns-clause-goes_on
returns-clause-goes_on c = goes_on
