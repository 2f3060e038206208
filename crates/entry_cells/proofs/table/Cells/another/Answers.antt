use Rattle.std.proofs.Common.{rules}
use Rattle.entry_cells.proofs.ComingLaws.{forks}
use Rattle.entry_cells.proofs.table.Cells.another.Goals as goal

pub split_seat-seat-requires : goal.split_seat-seat-requires
split_seat-seat-requires g c = (search rules, search rules, forks _ _ _ _ _ _ _ _ _ _ (search rules) (search rules) (search rules) (search rules))
