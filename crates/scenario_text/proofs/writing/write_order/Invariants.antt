use Rattle.std.proofs.Common.{◌≤◌, length}
use Rattle.snp_model.specs.Outside.{HasLeft}
use Rattle.snp_model.specs.ScenarioText.{order_lines, text_of}
use Rattle.scenario_text.proofs.writing.write_order.Given as goal

abbrev pub invariant-lines : goal.invariant-lines
invariant-lines g l = record {
  later : g.K.Sink.faults l.initial.sink ≤ g.K.Sink.faults l.sink;
  left : HasLeft (g.K.Sink.written l.initial.sink) (g.K.Sink.written l.sink) (text_of (order_lines l.rest)) (text_of (order_lines l.turns));
}

abbrev pub decreases-lines : goal.decreases-lines
decreases-lines g l = length l.rest
