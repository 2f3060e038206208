use Rattle.std.proofs.Common.{◌≡◌, ◌%◌, arith, false}
use Rattle.std.proofs.lemmas.Fmt.{hex_one_digit}
use Rattle.script_text.proofs.HexDigits.{PAIRS_at}
use Rattle.script_text.proofs.base16.put_digit.Goals as goal

pub returns-clause-text : goal.returns-clause-text
returns-clause-text c =
    let p = PAIRS_at c.args.value (omega arith) in
    let e : c.args.value % 16 ≡ c.args.value = omega arith in
    rw (hex_one_digit false c.args.value c.requires.below, ← e, ← p.1) c.put.ensures.text
