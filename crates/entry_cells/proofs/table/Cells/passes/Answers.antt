use Rattle.std.proofs.Common.{arith, ap, sym, ◌∙◌, ◌+◌, ◌∷◌, [], ◌++◌, ◌<◌, length, set}
use Rattle.atomic_table.proofs.Lists.{at_index}
use Rattle.entry_cells.proofs.PassLaws.{new_next, first_made}
use Rattle.entry_cells.proofs.table.Cells.passes.Goals as goal

pub another-next-requires-clause-pass : goal.another-next-requires-clause-pass
another-next-requires-clause-pass g c = let inv = c.made.invariant in let h = inv.4 0 _ (at_index c.made.passes.items 0 _ (omega (arith, inv.0, inv.2, c.made.passes.ok.0)) c.index_mut.ensures.value) in (h.0, h.1.live, h.1.many)

pub another-next-requires-clause-first : goal.another-next-requires-clause-first
another-next-requires-clause-first g c = let inv = c.made.invariant in let h = inv.4 0 _ (at_index c.made.passes.items 0 _ (omega (arith, inv.0, inv.2, c.made.passes.ok.0)) c.index_mut.ensures.value) in (h.1.actor, h.1.seen)

pub another-next-requires-clause-actor : goal.another-next-requires-clause-actor
another-next-requires-clause-actor g c = let inv = c.made.invariant in let m = inv.5 _ (at_index c.made.passes.items 0 _ (omega (arith, inv.0, inv.2, c.made.passes.ok.0)) c.index_mut.ensures.value) in
    let actors = ap (λ s. s.actors) c.self.view_is in (ap (λ k. k + 1) (sym m), omega (arith, m, actors, c.made-test.true), omega (arith, actors, c.self.invariant.few_actors))

pub made-preserved : goal.made-preserved
made-preserved g c = let inv = c.made.invariant in let long : 0 < length c.made.passes.items = omega (arith, inv.0, inv.2, c.made.passes.ok.0) in let first = at_index c.made.passes.items 0 _ long c.index_mut.ensures.value in
    let m = inv.5 _ first in let p = c.push_reserved-in-made.ensures in let y = c.another-next.result in let e = p.items ∙ ap (λ z. set c.made.passes.items 0 z ++ y ∷ []) c.another-next.ensures.first in (
      omega (arith, inv.0),
      omega (arith, c.made-test.true),
      omega (arith, p.len, inv.2),
      omega (arith, p.capacity, inv.3),
      new_next c.args.self.now _ _ _ y c.made.made inv.4 first m (omega (arith, inv.2, c.made.passes.ok.0)) c.another-next.ensures.made e,
      first_made _ _ _ y c.made.made first m e,
    )
