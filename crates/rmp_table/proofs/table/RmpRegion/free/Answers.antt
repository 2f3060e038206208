-- A copy of an entry is that entry.
use Rattle.std.proofs.Common.{ℕ, Option, None, length, replicate, ap, ◌∙◌}
use Rattle.std.proofs.lemmas.List.{length-replicate}
use Rattle.rmp_table.proofs.EntryLaws.{all_same, free_kept, free_stored}
use Rattle.rmp_table.proofs.table.RmpRegion.free.Goals as goal

pub invariant_of-result : goal.invariant_of-result
invariant_of-result c =
    free_stored _ _ (ap length c.in_ok-none.ensures ∙ length-replicate {A = Option ℕ} 512 None) (c.in_ok-vec.ensures.items_if_clones_equal (λ y copied. copied) ∙ ap (replicate 512) c.free.ensures)

pub returns-clause-facts : goal.returns-clause-facts
returns-clause-facts c =
    free_kept _ (c.in_ok-vec.ensures.items_if_clones_equal (λ y copied. copied) ∙ ap (replicate 512) c.free.ensures)

pub returns-clause-one_holder : goal.returns-clause-one_holder
returns-clause-one_holder c = all_same _ None c.in_ok-none.ensures
