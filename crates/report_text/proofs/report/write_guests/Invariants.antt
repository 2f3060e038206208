use Rattle.std.proofs.Common.{◌≤◌, drop}
use Rattle.snp_model.specs.Outside.{HasLeft}
use Rattle.snp_model.specs.Report.{guest_lines}
use Rattle.outside_port.proofs.HoldingLaws.{HoldsLeft}
use Rattle.report_text.proofs.report.write_guests.Given as goal

abbrev pub invariant-loop-guest : goal.invariant-loop-guest
invariant-loop-guest g l = record {
  later : g.K.Sink.faults l.initial.sink ≤ g.K.Sink.faults l.sink;
  left : HasLeft (g.K.Sink.written l.initial.sink) (g.K.Sink.written l.sink) (guest_lines (drop l.guest-index l.guests.items)) (guest_lines l.guests.items);
  held : HoldsLeft (g.K.Sink.holds l.initial.sink) (g.K.Sink.holds l.sink) (guest_lines (drop l.guest-index l.guests.items)) (guest_lines l.guests.items);
}
