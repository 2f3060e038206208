use Rattle.growing_runs.proofs.InsideLaws.{event_inside}
use Rattle.growing_runs.proofs.law.inside_accesses.Goals as goal

pub returns : goal.returns
returns c = event_inside
