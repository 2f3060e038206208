use Rattle.nested_walk.proofs.Standing.{standing_first}
use Rattle.nested_walk.proofs.walk.NestedWalk.start.Goals as goal

pub invariant_of-result : goal.invariant_of-result
invariant_of-result c = standing_first _ c.requires.gpn c.requires.root
