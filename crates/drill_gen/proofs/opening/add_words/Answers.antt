use Rattle.drill_gen.proofs.GeneratedLaws.{words_joined}
use Rattle.drill_gen.proofs.opening.add_words.Goals as goal

pub returns : goal.returns
returns c = words_joined c.args.guest c.args.words.now _ _ c.in_ok-add_table_words.ensures c.in_ok-add_leaf_words.ensures
