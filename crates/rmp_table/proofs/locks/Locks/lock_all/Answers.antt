use Rattle.rmp_table.proofs.LockLaws.{all_are_locked, holders_every}
use Rattle.rmp_table.proofs.locks.Locks.lock_all.Goals as goal

pub invariant_of-self : goal.invariant_of-self
invariant_of-self c = all_are_locked _ _ _ c.args.actor _ c.self.invariant c.self.view_is c.requires

pub returns : goal.returns
returns c = holders_every c.args.actor c.self.inside.single.items
