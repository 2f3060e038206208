-- the contexts so far are those of the opening
use Rattle.std.proofs.Common.{◌≡◌, take, map}
use Rattle.snp_model.specs.HeldContexts.{opening_held}
use Rattle.machine_core.proofs.building.first_contexts.Given as goal

abbrev pub invariant-guests : goal.invariant-guests
invariant-guests l = l.contexts.items ≡ map opening_held (take l.guest-index l.guests)
