use Rattle.std.proofs.Common.{◌≡◌, ◌<◌, ◌+◌, ℕ, length, drop, ap, sym, ◌∙◌, refl, arith}
use Rattle.std.specs.Prelude.{slice_get}
use Rattle.snp_model.specs.Journals.{state_at}
use Rattle.snp_model.specs.State.{State}
use Rattle.growing_runs.specs.Drives.{live_from}
use Rattle.growing_runs.proofs.LiveLaws.{behind_first, behind_same, live_end, live_here, live_passed}
use Rattle.growing_runs.proofs.GrownRuns.{actors_length}
use Rattle.hv_strategy.proofs.driver.live_at.Goals.{then-is_live+else-behind-eq0, else-is_live}
use Rattle.hv_strategy.proofs.driver.live_at.Goals as goal

pub actors-init : goal.actors-init
actors-init g c =
    let there = c.actors-actors.ensures.actors ∙ sym (actors_length (g.R.Ring.scenario c.args.ring.now) (g.R.Ring.list c.args.ring.now)) in
    record { place = refl; within = c.requires; there = there }

pub returns-then-behind-eq0 : goal.returns-then-behind-eq0
returns-then-behind-eq0 g c =
    let m : State = state_at (g.R.Ring.scenario c.args.ring.now) (g.R.Ring.list c.args.ring.now) in
    let asks = g.A.Asks.asks c.args.asker.now in
    let k : ℕ = c.actors.k in
    let there = c.actors.invariant.there in
    let test = c.actors-test.true in
    let within : k < length m.actors = omega arith in
    let here = live_here asks m k within (sym c.if-is_live.true ∙ c.is_live.ensures) in
    record { place = sym c.actors.invariant.place ∙ (λ i. slice_get (here i) (c.if-behind-eq0.true i)) }

pub actors-preserved : goal.actors-preserved
actors-preserved g c =
    let m : State = state_at (g.R.Ring.scenario c.args.ring.now) (g.R.Ring.list c.args.ring.now) in
    let asks = g.A.Asks.asks c.args.asker.now in
    let k : ℕ = c.actors.k in
    let there = c.actors.invariant.there in
    let test = c.actors-test.true in
    let some : k < length m.actors = omega arith in
    let here = live_from asks (k + 1) (drop k m.actors) in
    let rest = live_from asks (k + 1 + 1) (drop (k + 1) m.actors) in
    let named = slice_get (live_from asks 1 m.actors) c.args.place in
    let place = c.actors.invariant.place in
    let within = c.actors.invariant.within in
    elim c.if-is_live.branch [
      | then-is_live+else-behind-eq0 w ↦
          let at = behind_first here rest (k + 1) c.actors.behind c.if-is_live.behind named (live_here asks m k some (sym w.if-is_live.true ∙ c.is_live.ensures)) w.if-behind-eq0.false w.behind-is place within in
          record { place = at.0; within = at.1; there = there }
      | else-is_live w ↦
          let at = behind_same here rest c.actors.behind c.if-is_live.behind named (live_passed asks m k some (sym w.if-is_live.false ∙ c.is_live.ensures)) w.behind-is place within in
          record { place = at.0; within = at.1; there = there }
    ]

pub unreachable-requires : goal.unreachable-requires
unreachable-requires g c =
    let m : State = state_at (g.R.Ring.scenario c.args.ring.now) (g.R.Ring.list c.args.ring.now) in
    let asks = g.A.Asks.asks c.args.asker.now in
    let k : ℕ = c.actors.k in
    let end = c.actors.auto.k-end in
    let test = c.actors-test.false in
    let there = c.actors.invariant.there in
    let whole : k ≡ length m.actors = omega arith in
    let none = ap length (live_end asks (k + 1) k m.actors whole) in
    let within = c.actors.invariant.within in
    absurd (omega arith)
