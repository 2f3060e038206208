use Rattle.std.proofs.Common.{◌+◌, List, ◌++◌, drop, ap, ◌∙◌}
use Rattle.std.proofs.lemmas.List.{drop_more, drop_all}
use Rattle.snp_model.specs.declared.scenario.Actor.{Actor}
use Rattle.snp_model.specs.Generated.{actors_for}
use Rattle.drill_gen.proofs.GeneratedLaws.{actors_done, actors_left, actors_more}
use Rattle.drill_gen.proofs.drill.Drill.actors_for.Goals as goal

pub roles-preserved : goal.roles-preserved
roles-preserved c =
    let here = drop_more c.args.roles.now c.roles.role-index _ c.roles-test.true in
    record {
      made = ap (λ (actors : List Actor). actors ++ (actors_for (drop (c.roles.role-index + 1) c.args.roles.now) c.args.count c.script_for.new.self).0) c.in_ok-push.ensures.ok
          ∙ actors_more (drop c.roles.role-index c.args.roles.now) (drop (c.roles.role-index + 1) c.args.roles.now) _ c.args.count c.roles.self c.script_for.new.self c.in_ok-script.script c.roles.actors _ here c.in_ok-script.ensures c.roles.invariant.made;
      left = actors_left (drop c.roles.role-index c.args.roles.now) (drop (c.roles.role-index + 1) c.args.roles.now) _ c.args.count c.roles.self c.script_for.new.self _ c.in_ok-script.script here c.in_ok-script.ensures c.roles.invariant.left;
    }

pub returns : goal.returns
returns c = actors_done (drop c.roles.role-index c.args.roles.now) c.args.roles.now c.args.count c.roles.self c.args.self.now c.roles.actors (drop_all c.roles.role-index c.args.roles.now c.roles-test.false) c.roles.invariant.made c.roles.invariant.left
