use Rattle.std.proofs.Common.{List, ℕ, ◌++◌, ap, sym}
use Rattle.std.proofs.lemmas.Result.{err_from_is_err_and}
use Rattle.snp_model.specs.ScenarioText.{item_lines, text_of}
use Rattle.snp_model.proofs.Adding.{left_at_first, left_after, prefix_after, writes_last}
use Rattle.scenario_text.proofs.writing.write_actor.Goals as goal

pub returns-in_err-write_all-clause-text : goal.returns-in_err-write_all-clause-text
returns-in_err-write_all-clause-text g c =
    let p = err_from_is_err_and c.from_residual.result c.from_residual.ensures.1 in
    let items = text_of (item_lines c.args.actor.now.script) in
    rw p.1 (prefix_after _ _ _ _ _ _ _ (left_at_first _ _) c.in_err-write_all.ensures.text (ap (λ (t : List ℕ). t ++ items) (sym c.put_actor-end.ensures.text)))

pub returns-clause-text : goal.returns-clause-text
returns-clause-text g c =
    let items = text_of (item_lines c.args.actor.now.script) in
    let first = left_after _ _ _ _ _ _ _ (left_at_first _ _) c.in_ok-write_all.ensures.text (ap (λ (t : List ℕ). t ++ items) (sym c.put_actor-end.ensures.text)) in
    writes_last _ _ _ _ _ _ first (rw c.as_slice.ensures at c.write_items.ensures.text)
