use Rattle.measure_text.proofs.OnePassLaws.{answered}
use Rattle.measure_text.proofs.text.measure.Goals as goal

pub returns : goal.returns
returns c = answered c.args.text.now c.read_lines.result c.requires c.read_lines.ensures
