use Rattle.std.proofs.Common.{ℕ, List, [], ◌∷◌, ◌++◌, ap, subst, ◌∙◌, codes, decimal}
use Rattle.snp_model.specs.Outside.{Writes}
use Rattle.snp_model.specs.Report.{head_text}
use Rattle.outside_port.specs.Holding.{Held}
use Rattle.report_text.proofs.report.write_head.Goals as goal

pub returns-clause-text : goal.returns-clause-text
unfolding head_text
returns-clause-text g c =
    let head = c.put_named-end.ensures.text ∙ ap (λ (version : ℕ). codes "snp-report " ++ decimal version) c.from.ensures in
    let whole = c.put-end.ensures.text ∙ ap (λ (text : List ℕ). text ++ 10 ∷ []) head in
    subst (λ (text : List ℕ). Writes (g.K.Sink.written c.args.sink.now) (g.K.Sink.written c.write_all.new.sink) c.write_all.result text) whole c.write_all.ensures.text

pub returns-clause-held : goal.returns-clause-held
unfolding head_text
returns-clause-held g c =
    let head = c.put_named-end.ensures.text ∙ ap (λ (version : ℕ). codes "snp-report " ++ decimal version) c.from.ensures in
    let whole = c.put-end.ensures.text ∙ ap (λ (text : List ℕ). text ++ 10 ∷ []) head in
    subst (λ (text : List ℕ). Held (g.K.Sink.holds c.args.sink.now) (g.K.Sink.holds c.write_all.new.sink) c.write_all.result text) whole c.write_all.ensures.held
