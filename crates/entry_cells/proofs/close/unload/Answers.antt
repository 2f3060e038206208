use Rattle.std.proofs.Common.{arith, ◌≡◌, ◌+◌, length, false, true, slice_index_or, ap, subst, sym, ◌∙◌, length-append}
use lib.ListN.{get_elem?}
use Rattle.std.specs.Mem.Slots.{slots_counts}
use Rattle.entry_cells.proofs.PassLaws.{emptied_above, emptied_below, value_next}
use Rattle.entry_cells.proofs.close.unload.Goals as goal

pub cells-preserved : goal.cells-preserved
cells-preserved g c = let inv = c.cells.invariant in let t = c.take_cell.ensures.others in let p = c.push_reserved.ensures in let near = c.cells-test.true in let n = (slots_counts c.cells.closed.slots).1 in (
  t.2 ∙ inv.0,
  t.0 ∙ inv.1,
  (λ j low high. subst (λ fs. slice_index_or fs j false ≡ true) (sym t.1) (emptied_above _ c.cells.k _ inv.2 j low high)),
  (λ j less. subst (λ fs. slice_index_or fs j false ≡ false) (sym t.1) (emptied_below _ c.cells.k (omega (arith, near, n, inv.0)) inv.3 j less)),
  ap (λ xs. length xs) p.items ∙ length-append c.cells.values.items _ ∙ ap (λ m. m + 1) inv.4,
  omega (arith, inv.5, p.capacity),
  value_next _ _ _ _ inv.4 p.items inv.6 (ap (λ xs. get_elem? xs c.cells.k) (sym inv.1) ∙ c.take_cell.ensures.value),
)

pub take_cell-requires-clause-value : goal.take_cell-requires-clause-value
take_cell-requires-clause-value g c = let h = c.requires.cells c.cells.k c.cells-test.true in (h.0, ap (λ xs. get_elem? xs c.cells.k) c.cells.invariant.1 ∙ h.1)

pub take_journal-journal-requires-clause-full : goal.take_journal-journal-requires-clause-full
take_journal-journal-requires-clause-full g c = let inv = c.cells.invariant in (omega (arith, inv.0), inv.2 c.args.cells (omega (arith, c.cells.auto.k-end)) (omega arith))

pub free-requires : goal.free-requires
free-requires g c = let inv = c.cells.invariant in let t = c.take_journal-journal.ensures.others in λ k less. subst (λ fs. slice_index_or fs k false ≡ false) (sym t.1)
    (emptied_below _ c.args.cells (omega (arith, (slots_counts c.cells.closed.slots).1, inv.0)) (λ j low. inv.3 j (omega (arith, low, c.cells-test.false))) k (omega (arith, less, t.2, inv.0)))
