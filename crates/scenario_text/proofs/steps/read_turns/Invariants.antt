use Rattle.std.proofs.Common.{◌≡◌, ◌-◌, take, drop, length, []}
use Rattle.snp_model.specs.ScenarioLines.{turns_after}
use Rattle.scenario_text.proofs.steps.read_turns.Given as goal

abbrev pub invariant-loop-k : goal.invariant-loop-k
invariant-loop-k l = record {
  all : length l.turns ≡ 16;
  turns : turns_after (take (l.k - 1) l.turns) (drop l.k l.words) ≡ turns_after [] (drop 1 l.words);
}
