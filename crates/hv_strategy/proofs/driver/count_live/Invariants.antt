use Rattle.std.proofs.Common.{◌≡◌, ◌+◌, ◌≤◌, length, drop}
use Rattle.snp_model.specs.Journals.{state_at}
use Rattle.growing_runs.specs.Drives.{live_from}
use Rattle.hv_strategy.proofs.driver.count_live.Given as goal

abbrev pub invariant-actors : goal.invariant-actors
invariant-actors g l = record {
  counted : l.count + length (live_from (g.A.Asks.asks l.asker) (l.k + 1) (drop l.k (state_at (g.R.Ring.scenario l.ring) (g.R.Ring.list l.ring)).actors)) ≡ length (live_from (g.A.Asks.asks l.asker) 1 (state_at (g.R.Ring.scenario l.ring) (g.R.Ring.list l.ring)).actors);
  few : l.count ≤ l.k;
  there : l.actors ≡ length (state_at (g.R.Ring.scenario l.ring) (g.R.Ring.list l.ring)).actors;
}
