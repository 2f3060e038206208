use Rattle.std.proofs.Common.{List, ℕ, Result, refl, sym, ap, subst, ◌∙◌, arith}
use Rattle.snp_model.specs.declared.reading.Reason.{Reason}
use Rattle.snp_model.specs.MeasureText.{hashing, kept_of, measure_parts}
use Rattle.measure_text.specs.Steps.{made_of, Says}
use Rattle.measure_text.proofs.TextLaws.{step_line, stop_line, end_parts}
use Rattle.measure_text.proofs.text.read_lines.Goals as goal

pub lines-init : goal.lines-init
unfolding kept_of
lines-init c = (omega arith, refl)

pub returns-in-Err : goal.returns-in-Err
returns-in-Err c =
    let made = made_of c.lines.made in
    sym c.lines.invariant.1 ∙ ap (measure_parts hashing c.lines.line made) c.in-Some.ensures.parts ∙ stop_line hashing c.lines.line made c.in-Some.bytes.now c.in-Some.more.now c.in-Err.reason c.in-Err.ensures

pub lines-preserved : goal.lines-preserved
lines-preserved c =
    let made = made_of c.lines.made in
    let shorter = c.in-Some.ensures.shorter in
    (omega (arith, shorter, c.lines.invariant.0), sym (step_line hashing c.lines.line made (made_of c.fit.new.made) c.in-Some.bytes.now c.in-Some.more.now c.in-Ok.ensures) ∙ ap (measure_parts hashing c.lines.line made) (sym c.in-Some.ensures.parts) ∙ c.lines.invariant.1)

pub returns : goal.returns
returns c =
    let made = made_of c.lines.made in
    let same = sym (end_parts hashing c.lines.line made c.lines.rest.now) ∙ ap (measure_parts hashing c.lines.line made) (sym c.in_default.ensures.parts) ∙ c.lines.invariant.1 in
    let P : Result (List ℕ) (ℕ × Reason) → Type 0 = λ a. Says c.end.result a in
    subst P same c.end.ensures
