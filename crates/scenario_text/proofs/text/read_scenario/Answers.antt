use Rattle.std.proofs.Common.{arith}
use Rattle.scenario_text.proofs.TextLaws.{answered}
use Rattle.scenario_text.proofs.text.read_scenario.Goals as goal

pub returns : goal.returns
returns c = answered c.args.text.now c.read_lines.result (omega (arith, c.most.ensures, c.if-text-most.false)) c.read_lines.ensures
