use Rattle.scenario_text.proofs.FindingLaws.{some_finding}
use Rattle.scenario_text.proofs.laws.some_answer.Goals as goal

pub returns : goal.returns
returns c = some_finding
