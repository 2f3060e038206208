use Rattle.std.proofs.Common.{◌≡◌, ◌<◌, ◌+◌, ℕ, length, drop, sym, ap, ◌∙◌, arith}
use Rattle.std.specs.Prelude.{slice_get}
use Rattle.machine_core.specs.Machine.{state_of}
use Rattle.snp_model.specs.Drill.{unfinished, unfinished_from}
use Rattle.snp_top.proofs.PickLaws.{actor_here, actor_passed, behind_first, behind_same, none_behind}
use Rattle.snp_top.proofs.picking.unfinished_at.Goals.{then-not-finished+else-behind-eq0, else-not-finished}
use Rattle.snp_top.proofs.picking.unfinished_at.Goals as goal

pub returns-then-behind-eq0-clause-place : goal.returns-then-behind-eq0-clause-place
returns-then-behind-eq0-clause-place c =
    let m = state_of c.args.machine.now in
    sym c.actors.invariant.place ∙ (λ i. slice_get (actor_here m c.actors.k c.if-not-finished.ensures.unfinished i) (c.if-behind-eq0.true i))

pub actors-preserved : goal.actors-preserved
actors-preserved c =
    let m = state_of c.args.machine.now in
    let k : ℕ = c.actors.k in
    let here = unfinished_from (k + 1) (drop k m.actors) in
    let rest = unfinished_from (k + 1 + 1) (drop (k + 1) m.actors) in
    let named = slice_get (unfinished m) c.args.place in
    let place = c.actors.invariant.place in
    let within = c.actors.invariant.within in
    elim c.if-not-finished.branch [
      | then-not-finished+else-behind-eq0 w ↦
          let at = behind_first here rest (k + 1) c.actors.behind c.if-not-finished.behind named (actor_here m k w.if-not-finished.ensures.unfinished) w.if-behind-eq0.false w.behind-is place within in
          record { place = at.0; within = at.1 }
      | else-not-finished w ↦
          let test = c.actors-test.true in
          let counted = c.requires.counted in
          let some : k < length m.actors = omega arith in
          let at = behind_same here rest c.actors.behind c.if-not-finished.behind named (actor_passed m k some w.if-not-finished.ensures.finished) w.behind-is place within in
          record { place = at.0; within = at.1 }
    ]

pub unreachable-requires : goal.unreachable-requires
unreachable-requires c =
    let m = state_of c.args.machine.now in
    let k : ℕ = c.actors.k in
    let end = c.actors.auto.k-end in
    let test = c.actors-test.false in
    let counted = c.requires.counted in
    let whole : k ≡ length m.actors = omega arith in
    let none = ap length (none_behind m (k + 1) k whole) in
    let within = c.actors.invariant.within in
    absurd (omega arith)
