use Rattle.std.proofs.Common.{◌≡◌, ◌-◌, ◌*◌, length}
use Rattle.snp_model.specs.Journals.{state_at}
use Rattle.growing_runs.specs.Drives.{DrivesOn, IsDriven, attempts_with, live_from, world}
use Rattle.hv_strategy.proofs.driver.drive.Given as goal

abbrev pub invariant-turns : goal.invariant-turns
invariant-turns g l = record {
  on : DrivesOn (record { asks = g.A.Asks.asks; gives = g.A.Asks.gives; sees = g.A.Asks.sees }) (record { place = g.T.Turns.place; later = g.T.Turns.later })
      (world (g.R.Ring.scenario l.initial.ring) (g.R.Ring.list l.initial.ring) l.initial.asker (g.T.Turns.state l.initial.turns)) (world (g.R.Ring.scenario l.ring) (g.R.Ring.list l.ring) l.asker (g.T.Turns.state l.turns));
  driven : IsDriven g.A.Asks.suits g.A.Asks.left (g.R.Ring.scenario l.ring) (g.R.Ring.list l.ring) l.asker (g.R.Ring.spare l.ring);
  counted : l.count ≡ length (live_from (g.A.Asks.asks l.asker) 1 (state_at (g.R.Ring.scenario l.ring) (g.R.Ring.list l.ring)).actors);
}

abbrev pub decreases-turns : goal.decreases-turns
decreases-turns g l = 32 * attempts_with g.A.Asks.left (g.R.Ring.scenario l.ring) l.asker - length (g.R.Ring.list l.ring)
