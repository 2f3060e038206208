use Rattle.std.proofs.Common.{arith}
use Rattle.nested_walk.proofs.EndLaws.{few_words, read_with, leaf_with, fault_with}
use Rattle.nested_walk.proofs.stand.nested_end_with.Goals as goal

pub overflow_sub-words : goal.overflow_sub-words
overflow_sub-words c = omega (arith, few_words c.args.path.now c.args.words.now _ _ c.in-Read.ensures.stands)

pub after_word-requires-clause-low : goal.after_word-requires-clause-low
after_word-requires-clause-low c = omega (arith, few_words c.args.path.now c.args.words.now _ _ c.in-Read.ensures.stands)

pub returns-in-Read : goal.returns-in-Read
returns-in-Read c = read_with c.args.path.now c.args.words.now c.args.word _ _ _ c.in-Read.ensures.stands c.after_word.ensures.value

pub returns-in-Leaf : goal.returns-in-Leaf
returns-in-Leaf c = leaf_with c.args.path.now c.args.words.now c.args.word _ _ c.in-Leaf.ensures.stands

pub returns-in-Fault : goal.returns-in-Fault
returns-in-Fault c = fault_with c.args.path.now c.args.words.now c.args.word _ c.in-Fault.ensures.stands
