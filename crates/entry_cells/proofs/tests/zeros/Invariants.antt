use Rattle.std.proofs.Common.{◌≡◌, ◌≤◌, ℕ, length, vec_capacity}
use mathlib.Core.Option.{some}
use lib.ListN.{get_elem?}
use Rattle.entry_cells.proofs.tests.zeros.Given as goal

abbrev pub invariant-counts : goal.invariant-counts
invariant-counts l = (length l.counts.items ≡ l.counter) × (l.fn.count ≤ vec_capacity l.counts) × ((k : ℕ) (x : _) → get_elem? l.counts.items k ≡ some x → x.entries ≡ 0)
