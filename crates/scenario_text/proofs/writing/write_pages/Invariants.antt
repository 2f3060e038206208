use Rattle.std.proofs.Common.{◌≤◌, drop}
use Rattle.snp_model.specs.Outside.{HasLeft}
use Rattle.snp_model.specs.ScenarioText.{page_lines, text_of}
use Rattle.scenario_text.proofs.writing.write_pages.Given as goal

abbrev pub invariant-pages : goal.invariant-pages
invariant-pages g l = record {
  later : g.K.Sink.faults l.initial.sink ≤ g.K.Sink.faults l.sink;
  left : HasLeft (g.K.Sink.written l.initial.sink) (g.K.Sink.written l.sink) (text_of (page_lines (drop l.page-index l.pages))) (text_of (page_lines l.pages));
}
