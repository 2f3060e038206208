use Rattle.std.proofs.Common.{◌<◌, ap, subst}
use Rattle.entry_cells.proofs.PassLaws.{all_some, took_all}
use Rattle.entry_cells.proofs.table.Cells.close.Goals as goal

pub joined-last-requires-clause-some : goal.joined-last-requires-clause-some
joined-last-requires-clause-some g c = all_some c.args.self.actors c.args.passes.items (subst (λ n. 0 < n) (ap (λ s. s.actors) c.self.view_is) c.self.invariant.some_actor) c.requires.all

pub emptied-requires-clause-all : goal.emptied-requires-clause-all
emptied-requires-clause-all g c = took_all c.args.self.actors c.args.passes.items c.joined-last.result.view c.requires.all c.joined-last.ensures.all

pub returns-clause-passes : goal.returns-clause-passes
returns-clause-passes g c = λ i p e. c.emptied.ensures.passes p.view (c.joined-last.ensures.all i p e)
