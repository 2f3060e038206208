use Rattle.std.proofs.Common.{arith}
use Rattle.nested_walk.proofs.EndLaws.{read_few, read_after}
use Rattle.nested_walk.proofs.stand.nested_end_after.Goals as goal

pub overflow_sub-words : goal.overflow_sub-words
overflow_sub-words c = omega (arith, read_few c.args.path.now c.args.words.now c.requires)

pub after_word-requires-clause-low : goal.after_word-requires-clause-low
after_word-requires-clause-low c = omega (arith, read_few c.args.path.now c.args.words.now c.requires)

pub returns : goal.returns
returns c = read_after c.args.path.now c.args.words.now c.args.word _ c.requires c.after_word.ensures.value
