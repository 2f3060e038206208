use Rattle.std.proofs.Common.{ap}
use Rattle.entry_cells.proofs.TestLaws.{first_lacked}
use Rattle.entry_cells.proofs.tests.a_cell_is_taken_by_one_pass_at_a_time.Goals as goal

pub try_take-requires-4-clause-lacks : goal.try_take-requires-4-clause-lacks
try_take-requires-4-clause-lacks g c = first_lacked _ _ _ c.in_ok-cells.ensures.second.1 (ap (λ v. v.held) c.in-Err.ensures.held.0) (ap (λ v. v.held) c.in-Ok-try_take.ensures.taken.1)
