use Rattle.std.proofs.Common.{arith}
use Rattle.snp_model.proofs.Chains.{chain3}
use Rattle.script_text.proofs.HexDigits.{digits_four}
use Rattle.script_text.proofs.base16.put_more.Goals as goal

pub returns-clause-text : goal.returns-clause-text
returns-clause-text c =
    chain3 _ _ _ _ _ _ _ _ c.put_large-at.ensures.text c.put_pair-at.ensures.text c.put_pair.ensures.text (digits_four c.args.value (omega arith) (omega arith))
