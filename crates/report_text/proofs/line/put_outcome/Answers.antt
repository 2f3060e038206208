use Rattle.std.proofs.Common.{ℕ, ◌++◌, take, sym, ap, ◌∙◌, codes, decimal}
use Rattle.snp_model.specs.EventText.{outcome_text}
use Rattle.report_text.proofs.line.put_outcome.Goals as goal

pub returns-in-FirmwareInUse-clause-text : goal.returns-in-FirmwareInUse-clause-text
unfolding outcome_text
returns-in-FirmwareInUse-clause-text c =
    let front = take c.args.at c.args.out.now in
    c.put_named-in-FirmwareInUse.ensures.text
    ∙ ap (λ (holder : ℕ). front ++ (codes "fw 0x100 by " ++ decimal holder)) c.from-in-FirmwareInUse.ensures
    ∙ ap (λ (o : _). front ++ outcome_text o) (sym c.in-FirmwareInUse.is)
