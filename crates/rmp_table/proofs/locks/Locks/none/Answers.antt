use Rattle.std.proofs.Common.{List, vec_capacity, None, sym, subst, ap, ◌∙◌}
use Rattle.rmp_table.specs.declared.locks.FrameLock.{FrameLock}
use Rattle.rmp_table.specs.Locks.{AreLocks, holders_by}
use Rattle.rmp_table.proofs.LockLaws.{holders_none, none_are}
use Rattle.rmp_table.proofs.locks.Locks.none.Goals as goal

pub invariant_of-result : goal.invariant_of-result
invariant_of-result c =
    let P : List FrameLock → Type 0 = λ ls. AreLocks None ls (vec_capacity c.in_ok-with_capacity.field-0) in
    subst P (sym c.in_ok-with_capacity.ensures.items) (none_are _ c.in_ok-with_capacity.ensures.exact)

pub returns : goal.returns
returns c = ap (holders_by None) c.in_ok-with_capacity.ensures.items ∙ holders_none
