use Rattle.std.proofs.Common.{◌≡◌, ◌<◌, ◌+◌, ℕ, length, ap, arith}
use Rattle.machine_core.specs.Machine.{state_of}
use Rattle.snp_top.proofs.PickLaws.{actor_here, actor_passed, none_behind}
use Rattle.snp_top.proofs.picking.count_unfinished.Goals.{then-not-finished, else-not-finished}
use Rattle.snp_top.proofs.picking.count_unfinished.Goals as goal

pub actors-preserved : goal.actors-preserved
actors-preserved c =
    let m = state_of c.args.machine.now in
    let k : ℕ = c.actors.k in
    let so_far = c.actors.invariant.counted in
    let few = c.actors.invariant.few in
    elim c.if-not-finished.branch [
      | then-not-finished w ↦
          let here = ap length (actor_here m k w.if-not-finished.ensures.unfinished) in
          let left = w.left-is in
          record { counted = omega arith; few = omega arith }
      | else-not-finished w ↦
          let test = c.actors-test.true in
          let counted = c.requires in
          let within : k < length m.actors = omega arith in
          let passed = ap length (actor_passed m k within w.if-not-finished.ensures.finished) in
          let left = w.left-is in
          record { counted = omega arith; few = omega arith }
    ]

pub returns : goal.returns
returns c =
    let m = state_of c.args.machine.now in
    let k : ℕ = c.actors.k in
    let end = c.actors.auto.k-end in
    let test = c.actors-test.false in
    let counted = c.requires in
    let whole : k ≡ length m.actors = omega arith in
    let none = ap length (none_behind m (k + 1) k whole) in
    let so_far = c.actors.invariant.counted in
    omega arith
