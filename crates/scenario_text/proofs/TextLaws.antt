-- The steps of reading a text line by line.
use Rattle.std.proofs.Common.{◌≡◌, ℕ, ◌+◌, ◌≤◌, List, [], ◌∷◌, length, Result, Ok, Err, refl, sym, subst}
use Rattle.snp_model.specs.declared.scenario.Scenario.{Scenario}
use Rattle.snp_model.specs.Lines.{parts_at}
use Rattle.snp_model.specs.Reading.{Made, Fault, refused, passes, fit, most_bytes}
use Rattle.snp_model.specs.Texts.{end_of, read_parts, read_text}
use Rattle.snp_model.proofs.ReadingLaws.{some_part}
use Rattle.scenario_text.specs.declared.fault.ScenarioFault.{ScenarioFault}
use Rattle.scenario_text.specs.declared.fault.ScenarioFault.TheVariants as faults
use Rattle.scenario_text.specs.declared.fault.LineFault.{LineFault}
use Rattle.scenario_text.specs.declared.fault.LineFault.TheVariants.{Refused, Limit, Memory}
use Rattle.scenario_text.specs.Answers.{Answers}
use Rattle.scenario_text.specs.Steps.{Fails, FailsAt, Says, SaysFault}
use Rattle.scenario_text.proofs.FindingLaws.{finding_read, reading_of}

step_parts : (n : ℕ) (made next : Made) (line part : List ℕ) (parts : List (List ℕ)) → fit made line ≡ Ok next → read_parts n made (line ∷ part ∷ parts) ≡ read_parts (n + 1) next (part ∷ parts)
unfolding read_parts
step_parts n made next line part parts e = rw e refl

stop_parts : (n : ℕ) (made : Made) (line part : List ℕ) (parts : List (List ℕ)) (fault : Fault) → fit made line ≡ Err fault → read_parts n made (line ∷ part ∷ parts) ≡ Err (n, fault)
unfolding read_parts
stop_parts n made line part parts fault e = rw e refl

-- a line that fits is passed
pub step_line : (n : ℕ) (made next : Made) (line more : List ℕ) → fit made line ≡ Ok next → read_parts n made (line ∷ parts_at 10 more) ≡ read_parts (n + 1) next (parts_at 10 more)
step_line n made next line more e =
    let s = some_part 10 more in
    let P : List (List ℕ) → Type 0 = λ ps. read_parts n made (line ∷ ps) ≡ read_parts (n + 1) next ps in
    subst P (sym s.is) (step_parts n made next line s.part s.parts e)

-- one that doesn't fit stops the reading
pub stop_line : (n : ℕ) (made : Made) (line more : List ℕ) (fault : Fault) → fit made line ≡ Err fault → read_parts n made (line ∷ parts_at 10 more) ≡ Err (n, fault)
stop_line n made line more fault e =
    let s = some_part 10 more in
    let P : List (List ℕ) → Type 0 = λ ps. read_parts n made (line ∷ ps) ≡ Err (n, fault) in
    subst P (sym s.is) (stop_parts n made line s.part s.parts fault e)

-- the last part is the end
pub end_parts : (n : ℕ) (made : Made) (rest : List ℕ) → read_parts n made (rest ∷ []) ≡ end_of n made rest
unfolding read_parts
end_parts n made rest = refl

-- a fault of a line is the fault of the text
pub fault_said : (fault : LineFault) (out : ScenarioFault) (n : ℕ) (answer : Result Made Fault) (read : Result Scenario (ℕ × Fault)) → Fails fault answer → SaysFault n fault out → ((f : Fault) → answer ≡ Err f → read ≡ Err (n, f)) → FailsAt out read
fault_said (Refused reason) out n answer read h g f =
    let P : ScenarioFault → Type 0 = λ o. FailsAt o read in
    subst P (sym g) (f (refused reason) h)
fault_said (Limit quantity count) out n answer read h g f =
    let P : ScenarioFault → Type 0 = λ o. FailsAt o read in
    subst P (sym g) (n, f (passes quantity count) h)
fault_said Memory (faults.Memory error) n answer read h g f = tt
fault_said Memory (faults.Refused line reason) n answer read h g f = absurd g
fault_said Memory (faults.Limit quantity count) n answer read h g f = absurd g

-- the answer of the reader
pub answered : (text : List ℕ) (outcome : Result Scenario ScenarioFault) → length text ≤ most_bytes → Says outcome (read_text text) → Answers outcome text
unfolding finding_read
answered text (Ok c) short e =
    let r = reading_of text (Ok c) short e in
    (r, (r.lines, r.makes))
answered text (Err (faults.Refused n reason)) short e = reading_of text (Err (n, refused reason)) short e
answered text (Err (faults.Limit quantity count)) short e = reading_of text (Err (e.0, passes quantity count)) short e.1
answered text (Err (faults.Memory error)) short e = tt
