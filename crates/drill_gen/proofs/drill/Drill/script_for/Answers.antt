use Rattle.std.proofs.Common.{◌+◌, ◌-◌, List, ◌++◌, ap, ◌∙◌}
use Rattle.snp_model.specs.declared.item.Line.{Line}
use Rattle.snp_model.specs.Generated.{script_for}
use Rattle.drill_gen.proofs.GeneratedLaws.{script_done, script_left, script_more}
use Rattle.drill_gen.proofs.drill.Drill.script_for.Goals as goal

pub items-preserved : goal.items-preserved
items-preserved c = record {
  made = ap (λ (script : List Line). script ++ (script_for c.args.role (c.args.count - (c.items.counter + 1)) c.item_for-item.new.self).0) c.in_ok-push.ensures.ok
      ∙ script_more c.args.role c.args.count c.items.counter c.items.self c.item_for-item.new.self c.item_for-item.result c.items.script _ c.items-test.true c.item_for-item.ensures c.items.invariant.made;
  left = script_left c.args.role c.args.count c.items.counter c.items.self c.item_for-item.new.self _ c.item_for-item.result c.items-test.true c.item_for-item.ensures c.items.invariant.left;
}

pub returns : goal.returns
returns c = script_done c.args.role c.args.count c.items.counter c.items.self c.args.self.now c.items.script c.items-test.false c.items.invariant.made c.items.invariant.left
