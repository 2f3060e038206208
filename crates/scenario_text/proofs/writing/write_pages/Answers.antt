use Rattle.std.proofs.Common.{arith}
use Rattle.std.proofs.lemmas.Result.{err_from_is_err_and}
use Rattle.snp_model.proofs.Adding.{left_after, left_done, prefix_after}
use Rattle.scenario_text.proofs.WrittenLines.{page_at, no_pages}
use Rattle.scenario_text.proofs.writing.write_pages.Goals as goal

pub returns-in_err-write_all-clause-text : goal.returns-in_err-write_all-clause-text
returns-in_err-write_all-clause-text g c =
    let p = err_from_is_err_and c.from_residual.result c.from_residual.ensures.1 in
    rw p.1 (prefix_after _ _ _ _ _ _ _ c.pages.invariant.left c.in_err-write_all.ensures.text (page_at c.args.pages.now c.pages.page-index _ _ c.pages-test.true c.put_page-end.ensures.text))

pub pages-preserved : goal.pages-preserved
pages-preserved g c = record {
  later = omega arith;
  left = left_after _ _ _ _ _ _ _ c.pages.invariant.left c.in_ok-write_all.ensures.text (page_at c.args.pages.now c.pages.page-index _ _ c.pages-test.true c.put_page-end.ensures.text);
}

pub returns-clause-text : goal.returns-clause-text
returns-clause-text g c = left_done _ _ _ _ (no_pages c.pages.page-index c.args.pages.now (omega arith)) c.pages.invariant.left
