use Rattle.std.proofs.Common.{rules, arith, ap, ◌∙◌, ◌+◌, sym}
use Rattle.entry_cells.proofs.CountingLaws.{named_push, named_below}
use Rattle.entry_cells.proofs.tally.enter.Goals as goal

pub overflow_add-count : goal.overflow_add-count
overflow_add-count c = let below = named_below c.args.cell c.args.journal.now.list.items in omega (arith, c.requires, below, c.args.journal.now.list.ok.0)

pub returns-clause-counted : goal.returns-clause-counted
returns-clause-counted c = ap (λ n. n + 1) c.requires ∙ sym (named_push c.args.cell c.args.actor c.args.journal.now.list.items c.push.new.self.items (search rules))
