use Rattle.std.proofs.Common.{◌≡◌, ℕ, [], ◌∷◌, ◌++◌, List, slice_get, take, ap, ◌∙◌, append_assoc}
use Rattle.run_journal.specs.Shorts.{whole_event}
use Rattle.snp_model.specs.declared.event.Event.{Event}
use Rattle.snp_model.specs.EventText.{event_text}
use Rattle.snp_model.specs.Report.{line}
use Rattle.report_text.proofs.Lines.{said_of_entry}
use Rattle.report_text.proofs.report.put_event.Goals as goal

pub returns-clause-text : goal.returns-clause-text
returns-clause-text c =
    let front = take c.args.at c.args.out.now in
    let kept = c.kept-kept.result in
    let text = event_text c.args.k kept.actor (whole_event kept.event kept.outcome) in
    let whole : take c.put.result c.put.new.out ≡ front ++ line text =
    c.put.ensures.text ∙ ap (λ (t : List ℕ). t ++ 10 ∷ []) c.put_line-end.ensures.text ∙ append_assoc front text (10 ∷ []) in
    said_of_entry (λ (e : ℕ × Event). take c.put.result c.put.new.out ≡ front ++ line (event_text c.args.k e.0 e.1)) (slice_get c.args.journal.now.list c.args.k) (kept.actor, whole_event kept.event kept.outcome) c.kept-kept.ensures whole
