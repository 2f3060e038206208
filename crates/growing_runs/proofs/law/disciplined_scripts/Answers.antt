use Rattle.growing_runs.proofs.DisciplineWith.{memory_with, disciplined_with}
use Rattle.growing_runs.proofs.law.disciplined_scripts.Goals as goal

pub returns-clause-memory : goal.returns-clause-memory
returns-clause-memory c = memory_with

pub returns-clause-disciplined : goal.returns-clause-disciplined
returns-clause-disciplined c = disciplined_with
