-- the actors that were counted and those that are left
use Rattle.std.proofs.Common.{◌≡◌, ◌+◌, ◌≤◌, length, drop}
use Rattle.machine_core.specs.Machine.{state_of}
use Rattle.snp_model.specs.Drill.{unfinished, unfinished_from}
use Rattle.snp_top.proofs.picking.count_unfinished.Given as goal

abbrev pub invariant-actors : goal.invariant-actors
invariant-actors l = record {
  counted : l.left + length (unfinished_from (l.k + 1) (drop l.k (state_of l.machine).actors)) ≡ length (unfinished (state_of l.machine));
  few : l.left ≤ l.k;
}
