-- the words so far
use Rattle.std.proofs.Common.{◌≡◌, ◌++◌, map}
use Rattle.std.specs.List.{range_with_len}
use Rattle.snp_model.specs.Generated.{leaf_word}
use Rattle.drill_gen.proofs.opening.add_leaf_words.Given as goal

abbrev pub invariant-leaves : goal.invariant-leaves
invariant-leaves l = l.words ≡ l.initial.words ++ map (leaf_word l.guest) (range_with_len 0 l.gpn)
