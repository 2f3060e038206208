use Rattle.rmp_table.proofs.LockLaws.{lowest_listed, lowest_of_none}
use Rattle.rmp_table.proofs.locks.lowest_among.Goals as goal

pub returns-in-Some : goal.returns-in-Some
returns-in-Some c =
    lowest_listed _ c.in-Some.lock.now c.requires.once c.requires.below c.in-Some.ensures.among c.in-Some.ensures.lowest

pub returns-in-None : goal.returns-in-None
returns-in-None c = lowest_of_none _ (c.lowest_lock.ensures.none c.in-None.is)
