use Rattle.std.proofs.Common.{ℕ, List, vec_capacity, sym, subst, ap, ◌∙◌, arith}
use Rattle.rmp_table.specs.declared.locks.FrameLock.{FrameLock}
use Rattle.rmp_table.specs.Locks.{AreLocks, holders_by}
use Rattle.rmp_table.proofs.LockLaws.{is_locked}
use Rattle.rmp_table.proofs.locks.Locks.lock.Goals as goal

pub push_reserved-requires : goal.push_reserved-requires
push_reserved-requires c =
    let lock : FrameLock = record { slot = c.args.slot; holder = c.args.actor } in
    let t = is_locked _ c.self.inside.single.items (vec_capacity c.self.inside.single) lock _ c.self.invariant c.self.view_is c.requires.slot_below c.requires.unlocked in
    omega (arith, t.room, c.self.inside.single.ok.0)

pub invariant_of-self : goal.invariant_of-self
invariant_of-self c =
    let lock : FrameLock = record { slot = c.args.slot; holder = c.args.actor } in
    let P : List FrameLock → Type 0 = λ ls. AreLocks c.self.inside.every ls (vec_capacity c.self.inside.single) in
    let Q : ℕ → Type 0 = λ n. AreLocks c.self.inside.every c.push_reserved.new.self.items n in
    let t = is_locked _ c.self.inside.single.items (vec_capacity c.self.inside.single) lock _ c.self.invariant c.self.view_is c.requires.slot_below c.requires.unlocked in
    subst Q (sym c.push_reserved.ensures.capacity) (subst P (sym c.push_reserved.ensures.items) t.are)

pub returns : goal.returns
returns c =
    let lock : FrameLock = record { slot = c.args.slot; holder = c.args.actor } in
    let t = is_locked _ c.self.inside.single.items (vec_capacity c.self.inside.single) lock _ c.self.invariant c.self.view_is c.requires.slot_below c.requires.unlocked in
    ap (holders_by c.self.inside.every) c.push_reserved.ensures.items ∙ t.value_is
