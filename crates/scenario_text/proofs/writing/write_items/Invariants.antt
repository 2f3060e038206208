use Rattle.std.proofs.Common.{◌≤◌, drop}
use Rattle.snp_model.specs.Outside.{HasLeft}
use Rattle.snp_model.specs.ScenarioText.{item_lines, text_of}
use Rattle.scenario_text.proofs.writing.write_items.Given as goal

abbrev pub invariant-items : goal.invariant-items
invariant-items g l = record {
  later : g.K.Sink.faults l.initial.sink ≤ g.K.Sink.faults l.sink;
  left : HasLeft (g.K.Sink.written l.initial.sink) (g.K.Sink.written l.sink) (text_of (item_lines (drop l.item-index l.items))) (text_of (item_lines l.items));
}
