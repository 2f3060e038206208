use Rattle.std.proofs.Common.{arith}
use Rattle.snp_model.proofs.Chains.{chain2}
use Rattle.itoa.proofs.Decimal.{decimal_pair}
use Rattle.script_text.proofs.pen.put_short.Goals as goal

pub returns-clause-text : goal.returns-clause-text
returns-clause-text c =
    chain2 _ _ _ _ _ _ c.put_first-at.ensures.text c.put_pair.ensures.text (decimal_pair c.args.number (omega arith) (omega arith))
