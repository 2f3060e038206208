use Rattle.std.proofs.Common.{◌≡◌, ◌+◌, ◌*◌, ◌≤◌, ◌++◌, take, drop}
use Rattle.std.specs.Prelude.{codes}
use Rattle.snp_model.specs.ScenarioText.{turn_words}
use Rattle.snp_model.specs.Spelling.{behind}
use Rattle.scenario_text.proofs.writing.put_order.Given as goal

abbrev pub invariant-runs : goal.invariant-runs
invariant-runs l = record {
  place : l.end ≤ 5 + 42 * l.turn-index;
  text : take l.end l.out ++ behind (turn_words (drop l.turn-index l.turns)) ≡ codes "order" ++ behind (turn_words l.turns);
}
