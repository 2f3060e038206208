use Rattle.std.proofs.Common.{◌≡◌, ℕ, List, sym, subst, vec_capacity}
use Rattle.phys_memory.specs.Pages.{ArePages}
use Rattle.phys_memory.proofs.PageLaws.{none_are}
use Rattle.phys_memory.proofs.region.Region.zeroed.Goals as goal

pub invariant_of-result : goal.invariant_of-result
invariant_of-result c =
    let P : List (List ℕ) → Type 0 = λ ps. ArePages ps (vec_capacity c.in_ok-with_capacity.field-0) in
    subst P (sym c.in_ok-with_capacity.ensures.items) (none_are _ c.in_ok-with_capacity.ensures.exact)
