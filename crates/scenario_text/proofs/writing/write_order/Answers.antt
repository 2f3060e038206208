use Rattle.std.proofs.Common.{◌≡◌, ◌<◌, length, arith}
use Rattle.std.proofs.lemmas.Bool.Decides.{nat_tests}
use Rattle.std.proofs.lemmas.Result.{err_from_is_err_and}
use Rattle.snp_model.proofs.Adding.{left_after, left_done, prefix_after}
use Rattle.scenario_text.proofs.WrittenLines.{order_at, order_done}
use Rattle.scenario_text.proofs.writing.write_order.Goals as goal

pub returns-in_err-write_all-clause-text : goal.returns-in_err-write_all-clause-text
returns-in_err-write_all-clause-text g c =
    let p = err_from_is_err_and c.from_residual.result c.from_residual.ensures.1 in
    let empty = c.is_empty.ensures in
    let test = c.lines-test.true in
    let some : 0 < length c.lines.rest.now = grind (arith, nat_tests, empty, test) in
    rw p.1 (prefix_after _ _ _ _ _ _ _ c.lines.invariant.left c.in_err-write_all.ensures.text (order_at _ c.lines.rest.now _ _ _ some c.min.ensures c.split_at.ensures.front c.split_at.ensures.back c.put_order-end.ensures.text))

pub lines-preserved : goal.lines-preserved
lines-preserved g c =
    let empty = c.is_empty.ensures in
    let test = c.lines-test.true in
    let some : 0 < length c.lines.rest.now = grind (arith, nat_tests, empty, test) in
    record {
      later = omega arith;
      left = left_after _ _ _ _ _ _ _ c.lines.invariant.left c.in_ok-write_all.ensures.text (order_at _ c.lines.rest.now _ _ _ some c.min.ensures c.split_at.ensures.front c.split_at.ensures.back c.put_order-end.ensures.text);
    }

pub returns-clause-text : goal.returns-clause-text
returns-clause-text g c =
    let empty = c.is_empty.ensures in
    let test = c.lines-test.false in
    let none : length c.lines.rest.now ≡ 0 = grind (arith, nat_tests, empty, test) in
    left_done _ _ _ _ (order_done c.lines.rest.now none) c.lines.invariant.left
