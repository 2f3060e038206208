use Rattle.std.proofs.Common.{sym, ◌∙◌}
use Rattle.rmp_table.proofs.EntryLaws.{is_head, locked_all, locked_small, with_lock_large, with_lock_small}
use Rattle.rmp_table.proofs.table.RmpRegion.lock.Goals as goal

pub invariant_of-self : goal.invariant_of-self
invariant_of-self c = locked_small _ _ _ _ _ _ c.in-Small.is c.self.invariant c.lock.ensures

pub lock_all-requires : goal.lock_all-requires
lock_all-requires c =
    let same = (is_head _ _ _ c.in-Large.is c.self.invariant).one_holder in
    λ slot low. same slot low ∙ sym (same c.args.slot c.requires.slot_below) ∙ sym c.holder.ensures ∙ c.in-None.is

pub invariant_of-self-in-Large : goal.invariant_of-self-in-Large
invariant_of-self-in-Large c = locked_all _ _ _ _ _ c.self.invariant c.lock_all.ensures

pub returns-in-Small-clause-locked : goal.returns-in-Small-clause-locked
returns-in-Small-clause-locked c =
    λ _. with_lock_small _ _ _ _ _ c.args.slot c.args.actor c.in-Small.is c.self.invariant c.self.view_is c.requires.slot_below c.lock.ensures

pub returns-in-Large-clause-locked : goal.returns-in-Large-clause-locked
returns-in-Large-clause-locked c =
    λ _. with_lock_large _ _ _ _ _ c.args.slot c.args.actor c.in-Large.is c.self.invariant c.self.view_is c.requires.slot_below c.lock_all.ensures
