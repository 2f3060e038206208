use Rattle.std.proofs.Common.{arith}
use Rattle.snp_model.proofs.Chains.{chain3}
use Rattle.itoa.proofs.Decimal.{decimal_four}
use Rattle.script_text.proofs.pen.put_middle.Goals as goal

pub returns-clause-text : goal.returns-clause-text
returns-clause-text c =
    chain3 _ _ _ _ _ _ _ _ c.put_short-at.ensures.text c.put_pair-at.ensures.text c.put_pair.ensures.text (decimal_four c.args.number (omega arith) (omega arith))
