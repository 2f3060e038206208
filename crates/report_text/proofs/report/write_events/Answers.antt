use Rattle.std.proofs.Common.{take, arith}
use Rattle.std.proofs.lemmas.Result.{err_from_is_err_and}
use Rattle.snp_model.proofs.Adding.{adds_none, left_after, prefix_after, writes_last}
use Rattle.outside_port.proofs.HoldingLaws.{holds_after, holds_last, holds_none}
use Rattle.report_text.proofs.Lines.{line_behind, events_end}
use Rattle.report_text.proofs.report.write_events.Goals.{then-end+in_ok-write_all, else-end}
use Rattle.report_text.proofs.report.write_events.Goals as goal

pub returns-in_err-write_all-clause-text : goal.returns-in_err-write_all-clause-text
returns-in_err-write_all-clause-text g c =
    let p = err_from_is_err_and c.from_residual.result c.from_residual.ensures.1 in
    rw p.1 (prefix_after _ _ _ _ _ _ _ c.loop-k.invariant.left c.in_err-write_all.ensures.text (line_behind _ _ _ _ (omega arith) c.put_event-end.ensures.text))

pub loop-k-preserved : goal.loop-k-preserved
loop-k-preserved g c =
    elim c.if-end.branch [
      | then-end+in_ok-write_all w ↦ record {
        room = omega arith;
        later = rw w.sink-is (omega arith);
        left = rw w.end-is (rw w.sink-is (left_after _ _ _ _ _ _ _ c.loop-k.invariant.left w.in_ok-write_all.ensures.text (line_behind _ _ _ _ (omega arith) c.put_event-end.ensures.text)));
        held = rw w.end-is (rw w.sink-is (holds_after _ _ _ _ _ _ _ c.loop-k.invariant.held w.in_ok-write_all.ensures.held (line_behind _ _ _ _ (omega arith) c.put_event-end.ensures.text)));
      }
      | else-end w ↦ record {
        room = omega arith;
        later = rw w.sink-is (omega arith);
        left = rw w.end-is (rw w.sink-is (left_after _ _ _ _ _ _ _ c.loop-k.invariant.left (adds_none _) (line_behind _ _ _ _ (omega arith) c.put_event-end.ensures.text)));
        held = rw w.end-is (rw w.sink-is (holds_after _ _ _ _ _ _ _ c.loop-k.invariant.held (holds_none _) (line_behind _ _ _ _ (omega arith) c.put_event-end.ensures.text)));
      }
    ]

pub returns-clause-text : goal.returns-clause-text
returns-clause-text g c =
    let front = take c.loop-k.end c.loop-k.buffer in
    let last = left_after _ _ _ _ _ _ _ c.loop-k.invariant.left (adds_none _) (events_end front c.args.journal.now.list c.loop-k.k (omega arith)) in
    writes_last _ _ _ _ _ _ last c.write_all-2.ensures.text

pub returns-clause-held : goal.returns-clause-held
returns-clause-held g c =
    let front = take c.loop-k.end c.loop-k.buffer in
    let last = holds_after _ _ _ _ _ _ _ c.loop-k.invariant.held (holds_none _) (events_end front c.args.journal.now.list c.loop-k.k (omega arith)) in
    holds_last _ _ (g.K.Sink.holds c.write_all-2.new.sink) _ _ _ last c.write_all-2.ensures.held
