use Rattle.std.proofs.Common.{◌≡◌, ◌<◌, ◌≤◌, drop}
use Rattle.snp_model.specs.declared.walk.NestedEnd.TheVariants.{Read}
use Rattle.snp_model.specs.NestedWalk.{nested_index, walk_from, nested_end}
use Rattle.nested_walk.proofs.stand.nested_end.Given as goal

abbrev pub invariant-words : goal.invariant-words
invariant-words l = record {
  low : 1 ≤ l.level;
  high : l.level ≤ 4;
  inside : l.table < l.path.frames;
  stands : nested_end l.path l.words ≡ walk_from l.path l.level (Read l.table (nested_index l.path.gpn l.level)) (drop l.word-index l.words);
}
