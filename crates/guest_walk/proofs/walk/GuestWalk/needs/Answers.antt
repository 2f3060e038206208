use Rattle.std.proofs.Common.{rules}
use Rattle.guest_walk.proofs.Standing.{stood_walk, has_levels}
use Rattle.guest_walk.proofs.walk.GuestWalk.needs.Goals as goal

pub returns-clause-walk : goal.returns-clause-walk
returns-clause-walk c = stood_walk c.args.self.now.path c.args.self.now.words _ (has_levels c.self.inside.path c.self.inside.table c.self.inside.words c.self.inside.count c.args.self.now c.self.invariant c.self.view_is) (search rules)
