-- the regions so far are free
use Rattle.std.proofs.Common.{◌≡◌, replicate}
use Rattle.machine_core.specs.Bays.{free_bay}
use Rattle.machine_core.proofs.building.free_bays.Given as goal

abbrev pub invariant-regions : goal.invariant-regions
invariant-regions l = l.bays.items ≡ replicate l.counter free_bay
