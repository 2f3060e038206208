use Rattle.std.proofs.Common.{ap, subst, sym, ◌∙◌}
use Rattle.entry_cells.specs.Passes.{TookAll, Knows}
use Rattle.entry_cells.proofs.table.Cells.emptied.Goals as goal

pub drain-requires-clause-all : goal.drain-requires-clause-all
drain-requires-clause-all g c = subst (λ v. TookAll c.self.inside.table.shared.key.actors v) (sym (ap (λ p. p.view) c.last.view_is))
    (subst (λ n. TookAll n c.args.last.view) (sym (c.self.invariant.actors_known ∙ ap (λ s. s.actors) c.self.view_is)) c.requires.all)

pub returns-clause-passes : goal.returns-clause-passes
returns-clause-passes g c = λ w k. c.drain.ensures.passes w (subst (λ v. Knows v w) (sym (ap (λ p. p.view) c.last.view_is)) k)
