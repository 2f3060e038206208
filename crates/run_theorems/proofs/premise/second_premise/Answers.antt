use Rattle.run_theorems.proofs.PremiseLaws.{run_in_all, run_before}
use Rattle.run_theorems.proofs.premise.second_premise.Goals as goal

pub returns-clause-in_all : goal.returns-clause-in_all
returns-clause-in_all c = run_in_all

pub returns-clause-before : goal.returns-clause-before
returns-clause-before c = run_before
