use Rattle.std.proofs.Common.{ℕ, List, ap, ◌∙◌, arith}
use Rattle.std.proofs.lemmas.List.{drop_all}
use Rattle.std.proofs.lemmas.Result.{err_from_is_err_and}
use Rattle.snp_model.specs.Journal.{actors_of}
use Rattle.snp_model.specs.Report.{order_lines, runs_of}
use Rattle.snp_model.proofs.Adding.{left_after, left_done, prefix_after}
use Rattle.outside_port.proofs.HoldingLaws.{holds_after, holds_done}
use Rattle.report_text.proofs.Lines.{length-actors, no_runs}
use Rattle.report_text.proofs.report.write_order.Goals as goal

pub returns-in_err-write_all-clause-text : goal.returns-in_err-write_all-clause-text
returns-in_err-write_all-clause-text g c =
    let p = err_from_is_err_and c.from_residual.result c.from_residual.ensures.1 in
    rw p.1 (prefix_after _ _ _ _ _ _ _ c.lines.invariant.left c.in_err-write_all.ensures.text c.put_order-next.ensures.text)

pub lines-preserved : goal.lines-preserved
lines-preserved g c = record {
  later = omega arith;
  left = left_after _ _ _ _ _ _ _ c.lines.invariant.left c.in_ok-write_all.ensures.text c.put_order-next.ensures.text;
  held = holds_after _ _ _ _ _ _ _ c.lines.invariant.held c.in_ok-write_all.ensures.held c.put_order-next.ensures.text;
}

pub returns-clause-text : goal.returns-clause-text
returns-clause-text g c =
    let list = c.args.journal.now.list in
    left_done _ _ _ _ (ap (λ (actors : List ℕ). order_lines (runs_of actors)) (drop_all c.lines.at (actors_of list) (omega (arith, length-actors list))) ∙ no_runs) c.lines.invariant.left

pub returns-clause-held : goal.returns-clause-held
returns-clause-held g c =
    let list = c.args.journal.now.list in
    holds_done _ _ _ _ (ap (λ (actors : List ℕ). order_lines (runs_of actors)) (drop_all c.lines.at (actors_of list) (omega (arith, length-actors list))) ∙ no_runs) c.lines.invariant.held
