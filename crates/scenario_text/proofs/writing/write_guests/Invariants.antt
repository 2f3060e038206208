use Rattle.std.proofs.Common.{◌+◌, ◌≤◌, drop}
use Rattle.snp_model.specs.Outside.{HasLeft}
use Rattle.snp_model.specs.ScenarioText.{guest_lines, text_of}
use Rattle.scenario_text.proofs.writing.write_guests.Given as goal

abbrev pub invariant-guests : goal.invariant-guests
invariant-guests g l = record {
  later : g.K.Sink.faults l.initial.sink ≤ g.K.Sink.faults l.sink;
  left : HasLeft (g.K.Sink.written l.initial.sink) (g.K.Sink.written l.sink) (text_of (guest_lines (l.place + 1) (drop l.place l.guests))) (text_of (guest_lines 1 l.guests));
}
