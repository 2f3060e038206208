use Rattle.guest_walk.proofs.Standing.{standing_first}
use Rattle.guest_walk.proofs.walk.GuestWalk.start.Goals as goal

pub invariant_of-result : goal.invariant_of-result
invariant_of-result c = standing_first _ c.requires.levels_low c.requires.levels_high c.requires.root
