use Rattle.std.proofs.Common.{◌≡◌, ◌+◌, ◌*◌, ◌^◌, ◌≤◌, drop}
use Rattle.snp_model.specs.Reading.{turns_count}
use Rattle.scenario_text.proofs.steps.count_turns.Given as goal

abbrev pub invariant-loop-turn : goal.invariant-loop-turn
invariant-loop-turn l = (l.count ≤ 2 ^ 32 * l.turn-index) × (l.count + turns_count (drop l.turn-index l.turns) ≡ turns_count l.turns)
