-- the words so far
use Rattle.std.proofs.Common.{◌≡◌, ◌++◌, map}
use Rattle.std.specs.List.{range_with_len}
use Rattle.snp_model.specs.Generated.{table_word}
use Rattle.drill_gen.proofs.opening.add_table_words.Given as goal

abbrev pub invariant-tables : goal.invariant-tables
invariant-tables l = l.words ≡ l.initial.words ++ map (table_word l.guest) (range_with_len 0 l.level)
