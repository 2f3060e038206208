use Rattle.entry_cells.specs.Counting.{IsFree}
use Rattle.entry_cells.proofs.tests.add_all.Given as goal

abbrev pub invariant-turns : goal.invariant-turns
invariant-turns g l = IsFree l.fn.cells l.fn.actor l.pass
