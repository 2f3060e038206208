use Rattle.std.proofs.Common.{◌≡◌, ◌+◌, ◌≤◌, map, vec_len, vec_capacity, Some}
use Rattle.entry_cells.specs.declared.board.Lodged.TheVariants.{Cell}
use Rattle.entry_cells.proofs.build.lodge.Given as goal

abbrev pub invariant-homes : goal.invariant-homes
invariant-homes g l =
    (goal.iterator-homes g).can_next l.home-iterator ×
    (goal.iterator-homes g).is_finite l.home-iterator ×
    (l.slots.items ≡ map (λ x. Some (Cell x)) l.yielded) × (vec_len l.fn.homes + 1 ≤ vec_capacity l.slots)
