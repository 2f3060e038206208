use Rattle.std.proofs.Common.{rules}
use Rattle.entry_cells.proofs.ComingLaws.{absorbs}
use Rattle.entry_cells.proofs.table.Cells.absorb.Goals as goal

pub join_seat-requires : goal.join_seat-requires
join_seat-requires g c = (search rules, search rules, search rules, search rules, absorbs _ _ _ _ _ _ _ _ _ _ _ _ (search rules) (search rules) (search rules))
