use Rattle.scenario_text.proofs.FindingLaws.{one_finding}
use Rattle.scenario_text.proofs.laws.one_answer.Goals as goal

pub returns : goal.returns
returns c = one_finding
