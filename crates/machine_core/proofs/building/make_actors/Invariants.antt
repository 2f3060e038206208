-- the actors so far
use Rattle.std.proofs.Common.{◌≡◌, ◌<◌, ◌^◌, length, take, drop, map}
use Rattle.std.specs.List.{AllByRecursion}
use Rattle.snp_model.specs.declared.scenario.Actor.{Actor}
use Rattle.snp_model.specs.Opening.{opening_part}
use Rattle.machine_core.proofs.building.make_actors.Given as goal

abbrev pub invariant-actors : goal.invariant-actors
invariant-actors l = record {
  made : l.parts.items ≡ map opening_part (take l.actor-index l.actors);
  rest : AllByRecursion (λ (actor : Actor). length actor.script < 2 ^ 32) (drop l.actor-index l.actors);
}
