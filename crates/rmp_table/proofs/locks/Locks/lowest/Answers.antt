use Rattle.std.proofs.Common.{List, ap, ◌∙◌}
use Rattle.snp_model.specs.Locks.{range_holder}
use Rattle.rmp_table.specs.declared.locks.FrameLock.{FrameLock}
use Rattle.rmp_table.specs.Locks.{holder_among}
use Rattle.rmp_table.proofs.LockLaws.{lowest_every, lowest_single}
use Rattle.rmp_table.proofs.locks.Locks.lowest.Goals as goal

pub returns-in-Some : goal.returns-in-Some
returns-in-Some c = lowest_every c.in-Some.holder c.self.inside.single.items _ _ c.in-Some.is c.self.view_is

pub returns-in-None : goal.returns-in-None
returns-in-None c =
    c.lowest_among.ensures
    ∙ ap (λ (ls : List FrameLock). range_holder (holder_among ls) 0 512) c.deref.ensures.value
    ∙ lowest_single c.self.inside.single.items _ _ c.in-None.is c.self.view_is
