-- the items so far, and those that are left
use Rattle.std.proofs.Common.{◌≡◌, ◌++◌, ◌-◌}
use Rattle.snp_model.specs.Generated.{script_for}
use Rattle.drill_gen.proofs.drill.Drill.script_for.Given as goal

abbrev pub invariant-items : goal.invariant-items
invariant-items l = record {
  made : l.script ++ (script_for l.role (l.count - l.counter) l.self).0 ≡ (script_for l.role l.count l.initial.self).0;
  left : (script_for l.role (l.count - l.counter) l.self).1 ≡ (script_for l.role l.count l.initial.self).1;
}
