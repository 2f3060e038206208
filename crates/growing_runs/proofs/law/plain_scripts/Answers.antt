use Rattle.growing_runs.proofs.PlainLaws.{plain_passes}
use Rattle.growing_runs.proofs.law.plain_scripts.Goals as goal

pub returns : goal.returns
returns c = record { passes = plain_passes }
