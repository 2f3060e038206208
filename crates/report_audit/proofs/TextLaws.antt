-- The steps of auditing a text line by line.
use Rattle.std.proofs.Common.{◌≡◌, ℕ, ◌+◌, ◌≤◌, length, List, [], ◌∷◌, Result, Ok, Err, Option, refl, sym, ap, subst, ◌∙◌}
use Rattle.snp_model.specs.declared.scenario.Scenario.{Scenario}
use Rattle.snp_model.specs.Lines.{parts_at}
use Rattle.snp_model.specs.Outside.{Adds}
use Rattle.snp_model.specs.Reading.{Valid}
use Rattle.snp_model.proofs.SoundLaws.{valid_is_sound}
use Rattle.snp_model.proofs.ReadingLaws.{some_part}
use Rattle.report_audit.specs.Answers.{audited_text, Audits, Fails, FailsAt, SaysFault, Tells}
use Rattle.report_audit.specs.Audit.{Complaint, refused, not_legal, Heard, hear, hear_parts, end_of}
use Rattle.report_audit.specs.declared.fault.AuditFault.{AuditFault}
use Rattle.report_audit.specs.declared.fault.AuditFault.TheVariants as faults
use Rattle.report_audit.specs.declared.fault.LineFault.{LineFault}
use Rattle.report_audit.specs.declared.fault.LineFault.TheVariants.{Refused, NotLegal, Memory}

step_parts : (c : Scenario) (n : ℕ) (heard next : Heard) (line part : List ℕ) (parts : List (List ℕ)) → hear c heard line ≡ Ok next → hear_parts c n heard (line ∷ part ∷ parts) ≡ hear_parts c (n + 1) next (part ∷ parts)
unfolding hear_parts
step_parts c n heard next line part parts e = rw e refl

stop_parts : (c : Scenario) (n : ℕ) (heard : Heard) (line part : List ℕ) (parts : List (List ℕ)) (complaint : Complaint) → hear c heard line ≡ Err complaint → hear_parts c n heard (line ∷ part ∷ parts) ≡ Err (n, complaint)
unfolding hear_parts
stop_parts c n heard line part parts complaint e = rw e refl

-- a line that fits is passed
pub step_line : (c : Scenario) (n : ℕ) (heard next : Heard) (line more : List ℕ) → hear c heard line ≡ Ok next → hear_parts c n heard (line ∷ parts_at 10 more) ≡ hear_parts c (n + 1) next (parts_at 10 more)
step_line c n heard next line more e =
    let s = some_part 10 more in
    let P : List (List ℕ) → Type 0 = λ ps. hear_parts c n heard (line ∷ ps) ≡ hear_parts c (n + 1) next ps in
    subst P (sym s.is) (step_parts c n heard next line s.part s.parts e)

-- one that doesn't fit stops the audit
pub stop_line : (c : Scenario) (n : ℕ) (heard : Heard) (line more : List ℕ) (complaint : Complaint) → hear c heard line ≡ Err complaint → hear_parts c n heard (line ∷ parts_at 10 more) ≡ Err (n, complaint)
stop_line c n heard line more complaint e =
    let s = some_part 10 more in
    let P : List (List ℕ) → Type 0 = λ ps. hear_parts c n heard (line ∷ ps) ≡ Err (n, complaint) in
    subst P (sym s.is) (stop_parts c n heard line s.part s.parts complaint e)

-- the last part is the end
pub end_parts : (c : Scenario) (n : ℕ) (heard : Heard) (rest : List ℕ) → hear_parts c n heard (rest ∷ []) ≡ end_of n heard rest
unfolding hear_parts
end_parts c n heard rest = refl

-- a fault of a line is the fault of the text
pub fault_said : (fault : LineFault) (out : AuditFault) (n : ℕ) (answer : Result Heard Complaint) (said : Result ℕ (ℕ × Complaint)) → Fails fault answer → SaysFault n fault out → ((complaint : Complaint) → answer ≡ Err complaint → said ≡ Err (n, complaint)) → FailsAt out said
fault_said (Refused reason) out n answer said h g f = subst (λ (o : AuditFault). FailsAt o said) (sym g) (f (refused reason) h)
fault_said (NotLegal expected found) out n answer said h g f = subst (λ (o : AuditFault). FailsAt o said) (sym g) (f (not_legal expected found) h)
fault_said Memory (faults.Memory error) n answer said h g f = tt
fault_said Memory (faults.Refused line reason) n answer said h g f = absurd g
fault_said Memory (faults.NotLegal line expected found) n answer said h g f = absurd g
fault_said Memory (faults.Sink fault) n answer said h g f = absurd g

-- what is told of an audit that says yes
pub told : (answer : Result ℕ (ℕ × Complaint)) (count : ℕ) (old now : Option (List ℕ)) (before after : ℕ) (outcome : Result ℕ AuditFault)
    → answer ≡ Ok count → Tells count old now before after outcome → Audits answer old now before after outcome
told answer count old now before after (Ok n) is tells = (is ∙ ap Ok (sym tells.0), subst (λ (k : ℕ). Adds old now (audited_text k)) (sym tells.0) tells.1)
told answer count old now before after (Err (faults.Sink fault)) is tells = (count, is, tells.0, tells.1)
told answer count old now before after (Err (faults.Refused line reason)) is tells = absurd tells
told answer count old now before after (Err (faults.NotLegal line expected found)) is tells = absurd tells
told answer count old now before after (Err (faults.Memory error)) is tells = absurd tells

-- and of one that doesn't
pub untold : (answer : Result ℕ (ℕ × Complaint)) (fault : AuditFault) (old : Option (List ℕ)) (before after : ℕ) → FailsAt fault answer → Audits answer old old before after (Err fault)
untold answer (faults.Refused line reason) old before after says = (says, refl)
untold answer (faults.NotLegal line expected found) old before after says = (says, refl)
untold answer (faults.Sink fault) old before after says = absurd says
untold answer (faults.Memory error) old before after says = refl

-- a valid scenario has few guests
pub few_guests : (c : Scenario) → Valid c → length c.guests ≤ 8
few_guests c valid = (valid_is_sound c valid).guests_most
