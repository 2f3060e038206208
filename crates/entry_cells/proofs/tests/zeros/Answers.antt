use Rattle.std.proofs.Common.{arith, refl, ap, ◌+◌, length, ◌∙◌, length-append}
use Rattle.entry_cells.proofs.TestLaws.{zero_next}
use Rattle.entry_cells.proofs.tests.zeros.Goals as goal

pub counts-preserved : goal.counts-preserved
counts-preserved c = let inv = c.counts.invariant in let p = c.push_reserved.ensures in (
  ap (λ xs. length xs) p.items ∙ length-append c.counts.counts.items _ ∙ ap (λ m. m + 1) inv.0,
  omega (arith, inv.1, p.capacity),
  zero_next _ _ _ p.items refl inv.2,
)
