use Rattle.script_text.proofs.NumberLaws.{too_great}
use Rattle.script_text.proofs.number.value_of.Goals as goal

pub returns-in-None : goal.returns-in-None
returns-in-None c =
    too_great c.args.base c.loop-digit.value c.args.digits.now c.loop-digit.digit-index c.requires c.loop-digit-test.true c.loop-digit.invariant.value c.in-None.ensures
