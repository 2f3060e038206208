use Rattle.std.proofs.Common.{arith}
use Rattle.std.proofs.lemmas.Result.{err_from_is_err_and}
use Rattle.snp_model.proofs.Adding.{left_after, left_done, prefix_after}
use Rattle.scenario_text.proofs.WrittenLines.{item_at, no_items}
use Rattle.scenario_text.proofs.writing.write_items.Goals as goal

pub returns-in_err-write_all-clause-text : goal.returns-in_err-write_all-clause-text
returns-in_err-write_all-clause-text g c =
    let p = err_from_is_err_and c.from_residual.result c.from_residual.ensures.1 in
    rw p.1 (prefix_after _ _ _ _ _ _ _ c.items.invariant.left c.in_err-write_all.ensures.text (item_at c.args.items.now c.items.item-index _ _ c.items-test.true c.put_item-end.ensures.text))

pub items-preserved : goal.items-preserved
items-preserved g c = record {
  later = omega arith;
  left = left_after _ _ _ _ _ _ _ c.items.invariant.left c.in_ok-write_all.ensures.text (item_at c.args.items.now c.items.item-index _ _ c.items-test.true c.put_item-end.ensures.text);
}

pub returns-clause-text : goal.returns-clause-text
returns-clause-text g c = left_done _ _ _ _ (no_items c.items.item-index c.args.items.now (omega arith)) c.items.invariant.left
