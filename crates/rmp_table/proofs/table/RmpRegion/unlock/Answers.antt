use Rattle.rmp_table.proofs.EntryLaws.{unlocked, without_locks_is}
use Rattle.rmp_table.proofs.table.RmpRegion.unlock.Goals as goal

pub invariant_of-self : goal.invariant_of-self
invariant_of-self c = unlocked _ _ _ _ c.args.actor c.self.invariant c.unlock.ensures

pub returns-clause-released : goal.returns-clause-released
returns-clause-released c = without_locks_is _ _ _ _ _ c.args.actor c.self.view_is c.unlock.ensures
