use Rattle.std.proofs.Common.{Result, refl, sym, ap, subst, ◌∙◌, arith}
use Rattle.snp_model.specs.declared.scenario.Scenario.{Scenario}
use Rattle.snp_model.specs.Reading.{Fault, fit}
use Rattle.snp_model.specs.Texts.{read_parts, read_text}
use Rattle.scenario_text.specs.Steps.{made_of, Says}
use Rattle.scenario_text.proofs.TextLaws.{step_line, stop_line, end_parts, fault_said}
use Rattle.scenario_text.proofs.text.read_lines.Goals as goal

pub lines-init : goal.lines-init
unfolding read_text
lines-init c = (omega arith, refl)

pub returns-in-Err : goal.returns-in-Err
returns-in-Err c =
    let made = made_of c.lines.made in
    fault_said c.in-Err.fault c.at_line.result c.lines.line (fit made c.in-Some.bytes.now) _ c.in-Err.ensures c.at_line.ensures (λ f e. sym c.lines.invariant.1 ∙ ap (read_parts c.lines.line made) c.in-Some.ensures.parts ∙ stop_line c.lines.line made c.in-Some.bytes.now c.in-Some.more.now f e)

pub lines-preserved : goal.lines-preserved
lines-preserved c =
    let made = made_of c.lines.made in
    let shorter = c.in-Some.ensures.shorter in
    (omega (arith, shorter, c.lines.invariant.0), sym (step_line c.lines.line made (made_of c.fit.new.made) c.in-Some.bytes.now c.in-Some.more.now c.in-Ok.ensures) ∙ ap (read_parts c.lines.line made) (sym c.in-Some.ensures.parts) ∙ c.lines.invariant.1)

pub returns : goal.returns
returns c =
    let made = made_of c.lines.made in
    let same = sym (end_parts c.lines.line made c.lines.rest.now) ∙ ap (read_parts c.lines.line made) (sym c.in_default.ensures.parts) ∙ c.lines.invariant.1 in
    let P : Result Scenario (_ × Fault) → Type 0 = λ a. Says c.end.result a in
    subst P same c.end.ensures
