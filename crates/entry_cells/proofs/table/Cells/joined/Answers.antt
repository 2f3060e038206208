use Rattle.std.proofs.Common.{ap, sym, ◌∙◌}
use lib.ListN.{get_elem?}
use Rattle.entry_cells.proofs.PassLaws.{idle_last, idle_rest, known_last, knows_next}
use Rattle.entry_cells.proofs.table.Cells.joined.Goals as goal

pub rest-init : goal.rest-init
rest-init g c = let e = c.in-Some.ensures.items in let l = idle_last c.args.self.now _ _ _ e c.requires.idle in (idle_rest c.args.self.now _ _ _ e c.requires.idle, l.0, l.1, known_last _ _ _ e)

pub absorb-requires-clause-other : goal.absorb-requires-clause-other
absorb-requires-clause-other g c = (idle_last c.args.self.now _ _ _ c.in-Some-pop.ensures.items c.rest.invariant.0).0

pub absorb-requires-clause-idle : goal.absorb-requires-clause-idle
absorb-requires-clause-idle g c = (idle_last c.args.self.now _ _ _ c.in-Some-pop.ensures.items c.rest.invariant.0).1

pub rest-preserved : goal.rest-preserved
rest-preserved g c = let e = c.in-Some-pop.ensures.items in let is = c.absorb.ensures in let inv = c.rest.invariant in
    (idle_rest c.args.self.now _ _ _ e inv.0, (ap (λ p. p.table) is ∙ inv.1.0, ap (λ p. p.view.opening) is ∙ inv.1.1, ap (λ p. p.view.actors) is ∙ inv.1.2), (λ k h. inv.2 k (ap (λ p. get_elem? p.view.held k) (sym is) ∙ h)), knows_next _ _ _ _ _ _ (ap (λ p. p.view) is) e inv.3)
