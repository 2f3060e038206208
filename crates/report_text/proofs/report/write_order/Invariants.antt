use Rattle.std.proofs.Common.{◌≤◌, ◌-◌, length, drop}
use Rattle.snp_model.specs.Journal.{actors_of}
use Rattle.snp_model.specs.Outside.{HasLeft}
use Rattle.snp_model.specs.Report.{order_lines, runs_of}
use Rattle.outside_port.proofs.HoldingLaws.{HoldsLeft}
use Rattle.report_text.proofs.report.write_order.Given as goal

abbrev pub invariant-lines : goal.invariant-lines
invariant-lines g l = record {
  later : g.K.Sink.faults l.initial.sink ≤ g.K.Sink.faults l.sink;
  left : HasLeft (g.K.Sink.written l.initial.sink) (g.K.Sink.written l.sink) (order_lines (runs_of (drop l.at (actors_of l.journal.list)))) (order_lines (runs_of (actors_of l.journal.list)));
  held : HoldsLeft (g.K.Sink.holds l.initial.sink) (g.K.Sink.holds l.sink) (order_lines (runs_of (drop l.at (actors_of l.journal.list)))) (order_lines (runs_of (actors_of l.journal.list)));
}

abbrev pub decreases-lines : goal.decreases-lines
decreases-lines g l = length l.journal.list - l.at
