use Rattle.std.proofs.Common.{◌+◌, ◌≤◌, drop}
use Rattle.snp_model.specs.Outside.{HasLeft}
use Rattle.snp_model.specs.ScenarioText.{actor_lines, text_of}
use Rattle.scenario_text.proofs.writing.write_actors.Given as goal

abbrev pub invariant-actors : goal.invariant-actors
invariant-actors g l = record {
  later : g.K.Sink.faults l.initial.sink ≤ g.K.Sink.faults l.sink;
  left : HasLeft (g.K.Sink.written l.initial.sink) (g.K.Sink.written l.sink) (text_of (actor_lines (l.place + 1) (drop l.place l.actors))) (text_of (actor_lines 1 l.actors));
}
