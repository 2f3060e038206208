use Rattle.std.proofs.Common.{ℕ, List, [], ◌∷◌, ◌++◌, ap, sym, ◌∙◌, arith}
use Rattle.scenario_text.proofs.WrittenLines.{turn_at, turns_end}
use Rattle.scenario_text.proofs.writing.put_order.Goals as goal

pub runs-preserved : goal.runs-preserved
runs-preserved c = record {
  place = omega arith;
  text = sym (turn_at _ _ c.args.turns.now c.runs.turn-index _ c.runs-test.true c.put_turn-end.ensures.text) ∙ c.runs.invariant.text;
}

pub returns-clause-text : goal.returns-clause-text
returns-clause-text c =
    c.put.ensures.text ∙ ap (λ (t : List ℕ). t ++ 10 ∷ []) (sym (turns_end _ c.runs.turn-index c.args.turns.now (omega arith)) ∙ c.runs.invariant.text)
