use Rattle.entry_cells.proofs.TestLaws.{free_last, new_rest, rest_long}
use Rattle.entry_cells.proofs.tests.cells_for_two.Goals as goal

pub returns-clause-first : goal.returns-clause-first
returns-clause-first c = let made = c.in_ok-cells.ensures in let e = c.in-Some.ensures.items in free_last c.in_ok-cells.cells _ _ _ 1 c.in-Some-pop.ensures.items (rest_long _ _ _ 1 e made.count) (new_rest c.in_ok-cells.cells _ _ _ e made.passes)

pub returns-clause-second : goal.returns-clause-second
returns-clause-second c = let made = c.in_ok-cells.ensures in free_last c.in_ok-cells.cells _ _ _ 2 c.in-Some.ensures.items made.count made.passes
