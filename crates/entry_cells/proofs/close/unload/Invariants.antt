use Rattle.std.proofs.Common.{◌≡◌, ◌<◌, ◌≤◌, ◌+◌, ℕ, false, length, slice_index_or, vec_capacity, Some}
use mathlib.Core.Option.{some}
use lib.ListN.{get_elem?}
use Rattle.std.specs.Mem.Slots.{slots_items, slots_filled, slots_len}
use Rattle.std.specs.Mem.Slots.Ownership.{Filled}
use Rattle.entry_cells.specs.declared.board.Lodged.TheVariants.{Cell}
use Rattle.entry_cells.proofs.close.unload.Given as goal

abbrev pub invariant-cells : goal.invariant-cells
invariant-cells g l =
    (slots_len l.closed.slots ≡ l.fn.cells + 1) ×
    (slots_items l.closed.slots ≡ slots_items l.fn.closed.slots) ×
    Filled (slots_filled l.closed.slots) l.k (l.fn.cells + 1) ×
    ((j : ℕ) → j < l.k → slice_index_or (slots_filled l.closed.slots) j false ≡ false) ×
    (length l.values.items ≡ l.k) ×
    (l.fn.cells ≤ vec_capacity l.values) ×
    ((j : ℕ) (x : _) → get_elem? l.values.items j ≡ some x → get_elem? (slots_items l.fn.closed.slots) j ≡ some (Some (Cell x)))
