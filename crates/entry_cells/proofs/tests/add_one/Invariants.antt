use Rattle.entry_cells.specs.Counting.{IsFree}
use Rattle.entry_cells.proofs.tests.add_one.Given as goal

abbrev pub invariant-tries : goal.invariant-tries
invariant-tries g l = IsFree l.fn.cells l.fn.actor l.pass
