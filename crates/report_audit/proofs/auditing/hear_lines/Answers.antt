use Rattle.std.proofs.Common.{ℕ, Result, sym, ap, subst, ◌∙◌, arith}
use Rattle.snp_model.specs.Lines.{parts_at}
use Rattle.report_audit.specs.Answers.{Says}
use Rattle.report_audit.specs.Audit.{Complaint, Heard, audit_of, hear, hear_parts}
use Rattle.report_audit.specs.Hearing.{heard_of}
use Rattle.report_audit.proofs.TextLaws.{step_line, stop_line, end_parts, fault_said}
use Rattle.report_audit.proofs.auditing.hear_lines.Goals as goal

pub lines-init : goal.lines-init
unfolding audit_of
lines-init c = (omega arith, ap (λ (h : Heard). hear_parts c.args.scenario.now c.args.first h (parts_at 10 c.args.text.now)) c.new-heard.ensures.heard)

pub returns-in-Err : goal.returns-in-Err
returns-in-Err c =
    let s = c.args.scenario.now in
    let heard = heard_of c.lines.heard in
    fault_said c.in-Err.fault c.at_line.result c.lines.line (hear s heard c.in-Some.bytes.now) _ c.in-Err.ensures.heard c.at_line.ensures (λ f e. sym c.lines.invariant.1 ∙ ap (hear_parts s c.lines.line heard) c.in-Some.ensures.parts ∙ stop_line s c.lines.line heard c.in-Some.bytes.now c.in-Some.more.now f e)

pub lines-preserved : goal.lines-preserved
lines-preserved c =
    let s = c.args.scenario.now in
    let heard = heard_of c.lines.heard in
    let shorter = c.in-Some.ensures.shorter in
    (omega (arith, shorter, c.lines.invariant.0), sym (step_line s c.lines.line heard (heard_of c.hear.new.self) c.in-Some.bytes.now c.in-Some.more.now c.in-Ok.ensures.heard) ∙ ap (hear_parts s c.lines.line heard) (sym c.in-Some.ensures.parts) ∙ c.lines.invariant.1)

pub returns : goal.returns
returns c =
    let s = c.args.scenario.now in
    let heard = heard_of c.lines.heard in
    let same = sym (end_parts s c.lines.line heard c.lines.rest.now) ∙ ap (hear_parts s c.lines.line heard) (sym c.in_default.ensures.parts) ∙ c.lines.invariant.1 in
    let P : Result ℕ (ℕ × Complaint) → Type 0 = λ a. Says c.end.result a in
    subst P same c.end.ensures
