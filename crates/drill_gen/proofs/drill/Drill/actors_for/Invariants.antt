-- the actors so far, and those that are left
use Rattle.std.proofs.Common.{◌≡◌, ◌++◌, drop}
use Rattle.snp_model.specs.Generated.{actors_for}
use Rattle.drill_gen.proofs.drill.Drill.actors_for.Given as goal

abbrev pub invariant-roles : goal.invariant-roles
invariant-roles l = record {
  made : l.actors ++ (actors_for (drop l.role-index l.roles) l.count l.self).0 ≡ (actors_for l.roles l.count l.initial.self).0;
  left : (actors_for (drop l.role-index l.roles) l.count l.self).1 ≡ (actors_for l.roles l.count l.initial.self).1;
}
