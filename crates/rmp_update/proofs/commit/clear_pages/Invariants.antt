-- the pages so far are cleared
use Rattle.std.proofs.Common.{◌-◌}
use Rattle.rmp_update.specs.Regions.{AreCleared}
use Rattle.rmp_update.proofs.commit.clear_pages.Given as goal

abbrev pub invariant-pages : goal.invariant-pages
invariant-pages l = AreCleared l.rmp l.first (l.page - l.first) l.initial.memory l.memory
