use Rattle.std.proofs.Common.{◌≡◌, ◌+◌, ◌*◌, ◌/◌, ◌%◌, get_or}
use Rattle.itoa.proofs.Decimal.{PAIRS_at}
use Rattle.script_text.specs.declared.pen.TheConstants.{PAIRS}
use Rattle.script_text.proofs.pen.put_pair.Goals as goal

-- the table is that of the library
pub returns-clause-text : goal.returns-clause-text
returns-clause-text c =
    let pair = c.args.pair in
    let p = PAIRS_at pair c.requires.below in
    let tens : get_or PAIRS (pair * 2) 0 ≡ 48 + pair / 10 = p.0 in
    let ones : get_or PAIRS (pair * 2 + 1) 0 ≡ 48 + pair % 10 = p.1 in
    rw (← tens, ← ones) c.put.ensures.text
