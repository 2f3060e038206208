use Rattle.nested_walk.proofs.NestedReadsLaws.{nested_walk_is, only_nested_walk, nested_reads-push, nested_leaf_permits}
use Rattle.nested_walk.proofs.law.nested_walk_laws.Goals as goal

pub returns : goal.returns
returns c = record {
  any_words = nested_walk_is;
  only_these = only_nested_walk;
  one_more = nested_reads-push;
  leaf = nested_leaf_permits;
}
