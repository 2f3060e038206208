use Rattle.std.proofs.Common.{ℕ, List, ◌++◌, drop, sym, ap, ◌∙◌, arith, length-drop}
use Rattle.std.proofs.lemmas.List.{drop_all}
use Rattle.snp_model.specs.Journal.{actors_of}
use Rattle.snp_model.specs.Report.{order_rest, runs_of}
use Rattle.report_text.proofs.Lines.{length-actors, order_begins, order_goes_on, order_full, order_last, order_ends}
use Rattle.report_text.proofs.order.put_order.Goals as goal

pub runs-init : goal.runs-init
runs-init c =
    let list = c.args.journal.now.list in
    let actors = drop c.args.at (actors_of list) in
    record {
      room = omega arith;
      later = omega arith;
      within = omega arith;
      place = omega arith;
      text = order_begins actors (omega (arith, length-actors list, length-drop c.args.at (actors_of list))) ∙ ap (λ (t : List ℕ). t ++ order_rest 16 (runs_of actors)) (sym c.put-end.ensures.text);
    }

pub returns-then-next-len-clause-text : goal.returns-then-next-len-clause-text
returns-then-next-len-clause-text c =
    let list = c.args.journal.now.list in
    order_ends _ _ _ c.runs.room _ (order_last _ _ (drop_all c.runs.next (actors_of list) (omega (arith, length-actors list)))) c.runs.invariant.text c.put.ensures.text

pub runs-preserved : goal.runs-preserved
runs-preserved c = record {
  room = omega arith;
  later = omega arith;
  within = omega arith;
  place = omega arith;
  text = order_goes_on _ _ _ _ _ _ _ (omega arith) c.first_run-actor.ensures.run c.runs.invariant.text c.put_run-end.ensures.text;
}

pub returns-clause-text : goal.returns-clause-text
returns-clause-text c = order_ends _ _ _ c.runs.room _ (order_full _ _ (omega arith)) c.runs.invariant.text c.put-2.ensures.text
