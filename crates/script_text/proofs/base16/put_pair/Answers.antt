use Rattle.script_text.proofs.HexDigits.{PAIRS_at}
use Rattle.script_text.proofs.base16.put_pair.Goals as goal

pub returns-clause-text : goal.returns-clause-text
returns-clause-text c =
    let p = PAIRS_at c.args.pair c.requires.below in
    rw (← p.0, ← p.1) c.put.ensures.text
