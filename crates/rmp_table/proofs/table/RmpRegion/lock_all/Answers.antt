use Rattle.std.proofs.Common.{sym, ap, ◌∙◌, arith}
use Rattle.snp_model.specs.Entries.{Entries, holder_at}
use Rattle.rmp_table.proofs.EntryLaws.{locked_all, lowest_of_none, not_own, same_holder, with_all_locks}
use Rattle.rmp_table.proofs.table.RmpRegion.lock_all.Goals as goal

pub lock_all-requires : goal.lock_all-requires
lock_all-requires c = λ slot low. lowest_of_none _ 0 512 (sym c.lowest.ensures ∙ c.in-None.is) slot (omega arith) (omega arith)

pub invariant_of-self : goal.invariant_of-self
invariant_of-self c = locked_all _ _ _ _ _ c.self.invariant c.lock_all.ensures

pub returns-in-None-clause-locked : goal.returns-in-None-clause-locked
returns-in-None-clause-locked c = λ _. with_all_locks _ _ _ _ _ c.args.actor c.self.invariant c.self.view_is c.lock_all.ensures

pub returns-in-Some-clause-another : goal.returns-in-Some-clause-another
returns-in-Some-clause-another c =
    λ holder same mine.
    not_own c.self.inside.locks c.in-Some.holder c.args.actor (sym c.lowest.ensures ∙ c.in-Some.is)
    (λ slot low held. c.requires.none_held slot low (ap (λ (v : Entries). holder_at v slot) (sym c.self.view_is) ∙ held))
    (same_holder _ _ same ∙ mine)
