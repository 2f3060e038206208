use Rattle.std.proofs.Common.{arith}
use Rattle.snp_model.proofs.Chains.{chain2}
use Rattle.script_text.proofs.HexDigits.{digits_pair}
use Rattle.script_text.proofs.base16.put_short.Goals as goal

pub returns-clause-text : goal.returns-clause-text
returns-clause-text c =
    chain2 _ _ _ _ _ _ c.put_first-at.ensures.text c.put_pair.ensures.text (digits_pair c.args.value (omega arith) (omega arith))
