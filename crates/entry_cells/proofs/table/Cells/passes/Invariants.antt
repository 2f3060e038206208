use Rattle.std.proofs.Common.{◌≡◌, ◌≤◌, ◌-◌, vec_len, vec_capacity}
use mathlib.Core.Option.{some}
use lib.ListN.{get_elem?}
use Rattle.entry_cells.specs.Passes.{AreNew}
use Rattle.entry_cells.proofs.table.Cells.passes.Given as goal

abbrev pub invariant-made : goal.invariant-made
invariant-made g l =
    (1 ≤ l.made) × (l.made ≤ l.self-inside.actors) × (vec_len l.passes ≡ l.made) × (l.self-inside.actors ≤ vec_capacity l.passes) ×
    AreNew l.self l.passes.items ×
    ((p : _) → get_elem? l.passes.items 0 ≡ some p → p.view.made ≡ l.made)

abbrev pub decreases-made : goal.decreases-made
decreases-made g l = l.self-inside.actors - l.made
