use Rattle.std.proofs.Common.{◌+◌, ◌≤◌, ◌++◌, take, drop}
use Rattle.snp_model.specs.Outside.{HasLeft}
use Rattle.snp_model.specs.Report.{event_lines}
use Rattle.outside_port.proofs.HoldingLaws.{HoldsLeft}
use Rattle.report_text.proofs.report.write_events.Given as goal

abbrev pub invariant-loop-k : goal.invariant-loop-k
invariant-loop-k g l = record {
  room : l.end + 256 ≤ 8192;
  later : g.K.Sink.faults l.initial.sink ≤ g.K.Sink.faults l.sink;
  left : HasLeft (g.K.Sink.written l.initial.sink) (g.K.Sink.written l.sink) (take l.end l.buffer ++ event_lines l.k (drop l.k l.journal.list)) (event_lines 0 l.journal.list);
  held : HoldsLeft (g.K.Sink.holds l.initial.sink) (g.K.Sink.holds l.sink) (take l.end l.buffer ++ event_lines l.k (drop l.k l.journal.list)) (event_lines 0 l.journal.list);
}
