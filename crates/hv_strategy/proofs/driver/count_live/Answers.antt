use Rattle.std.proofs.Common.{◌≡◌, ◌<◌, ◌+◌, ℕ, length, ap, sym, ◌∙◌, arith}
use Rattle.snp_model.specs.Journals.{state_at}
use Rattle.snp_model.specs.State.{State}
use Rattle.growing_runs.proofs.LiveLaws.{live_end, live_here, live_passed}
use Rattle.growing_runs.proofs.GrownRuns.{actors_length}
use Rattle.hv_strategy.proofs.driver.count_live.Goals.{then-is_live, else-is_live}
use Rattle.hv_strategy.proofs.driver.count_live.Goals as goal

pub actors-init : goal.actors-init
actors-init g c =
    let there = c.actors-actors.ensures.actors ∙ sym (actors_length (g.R.Ring.scenario c.args.ring.now) (g.R.Ring.list c.args.ring.now)) in
    record { counted = omega arith; few = omega arith; there = there }

pub actors-preserved : goal.actors-preserved
actors-preserved g c =
    let m : State = state_at (g.R.Ring.scenario c.args.ring.now) (g.R.Ring.list c.args.ring.now) in
    let asks = g.A.Asks.asks c.args.asker.now in
    let k : ℕ = c.actors.k in
    let so_far = c.actors.invariant.counted in
    let few = c.actors.invariant.few in
    let there = c.actors.invariant.there in
    let test = c.actors-test.true in
    let within : k < length m.actors = omega arith in
    elim c.if-is_live.branch [
      | then-is_live w ↦
          let here = ap length (live_here asks m k within (sym w.if-is_live.true ∙ c.is_live.ensures)) in
          let left = w.count-is in
          record { counted = omega arith; few = omega arith; there = there }
      | else-is_live w ↦
          let passed = ap length (live_passed asks m k within (sym w.if-is_live.false ∙ c.is_live.ensures)) in
          let left = w.count-is in
          record { counted = omega arith; few = omega arith; there = there }
    ]

pub returns : goal.returns
returns g c =
    let m : State = state_at (g.R.Ring.scenario c.args.ring.now) (g.R.Ring.list c.args.ring.now) in
    let asks = g.A.Asks.asks c.args.asker.now in
    let k : ℕ = c.actors.k in
    let end = c.actors.auto.k-end in
    let test = c.actors-test.false in
    let there = c.actors.invariant.there in
    let whole : k ≡ length m.actors = omega arith in
    let none = ap length (live_end asks (k + 1) k m.actors whole) in
    let so_far = c.actors.invariant.counted in
    omega arith
