use Rattle.std.proofs.Common.{rules}
use Rattle.nested_walk.proofs.Standing.{stood_walk}
use Rattle.nested_walk.proofs.walk.NestedWalk.needs.Goals as goal

pub returns-clause-walk : goal.returns-clause-walk
returns-clause-walk c = stood_walk c.args.self.now.path c.args.self.now.words _ (search rules)
