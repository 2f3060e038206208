use Rattle.std.proofs.Common.{◌≡◌, ◌⊎◌, ℕ}
use mathlib.Core.Option.{some}
use lib.ListN.{get_elem?}
use Rattle.entry_cells.specs.Passes.{IsPassOf, HoldsNothing, AreIdle, Knows}
use Rattle.entry_cells.proofs.table.Cells.joined.Given as goal

abbrev pub invariant-rest : goal.invariant-rest
invariant-rest g l =
    AreIdle l.self l.passes.items ×
    IsPassOf l.self l.last × HoldsNothing l.last.view ×
    ((i : ℕ) (p : _) → get_elem? l.fn.passes.items i ≡ some p → (get_elem? l.passes.items i ≡ some p) ⊎ Knows l.last.view p.view)

abbrev pub decreases-rest : goal.decreases-rest
decreases-rest g l = goal.left-rest g l
