-- the place among the actors that are left
use Rattle.std.proofs.Common.{◌≡◌, ◌+◌, ◌<◌, length, drop}
use Rattle.std.specs.Prelude.{slice_get}
use Rattle.machine_core.specs.Machine.{state_of}
use Rattle.snp_model.specs.Drill.{unfinished, unfinished_from}
use Rattle.snp_top.proofs.picking.unfinished_at.Given as goal

abbrev pub invariant-actors : goal.invariant-actors
invariant-actors l = record {
  place : slice_get (unfinished_from (l.k + 1) (drop l.k (state_of l.machine).actors)) l.behind ≡ slice_get (unfinished (state_of l.machine)) l.place;
  within : l.behind < length (unfinished_from (l.k + 1) (drop l.k (state_of l.machine).actors));
}
