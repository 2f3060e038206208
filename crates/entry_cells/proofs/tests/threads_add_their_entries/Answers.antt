use Rattle.std.proofs.Common.{rules}
use Rattle.entry_cells.proofs.TestLaws.{all_two}
use Rattle.entry_cells.proofs.tests.threads_add_their_entries.Goals as goal

pub close-requires-clause-all : goal.close-requires-clause-all
close-requires-clause-all g c = all_two _ c.join-first.result.0 c.join-first.result.1 _ c.in_ok-both.ensures c.in_ok-cells.ensures.cells.1 (search rules) (search rules)
