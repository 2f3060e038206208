use Rattle.std.proofs.Common.{◌≤◌, drop}
use Rattle.snp_model.specs.Outside.{HasLeft}
use Rattle.snp_model.specs.ScenarioText.{word_lines, text_of}
use Rattle.scenario_text.proofs.writing.write_words.Given as goal

abbrev pub invariant-words : goal.invariant-words
invariant-words g l = record {
  later : g.K.Sink.faults l.initial.sink ≤ g.K.Sink.faults l.sink;
  left : HasLeft (g.K.Sink.written l.initial.sink) (g.K.Sink.written l.sink) (text_of (word_lines (drop l.word-index l.words))) (text_of (word_lines l.words));
}
