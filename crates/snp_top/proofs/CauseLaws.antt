-- What keeps a text from being replayed, by how far it was read and by what it says.
use Rattle.std.proofs.Common.{◌≡◌, ℕ, ◌+◌, ◌≤◌, List, ◌++◌, length, drop, Option, Some, None, Err, Result, sym, subst, ap, ◌∙◌, arith, inl, length-append}
use Rattle.std.proofs.lemmas.List.{drop_all, drop_at}
use Rattle.snp_model.specs.declared.reading.Quantity.{Quantity}
use Rattle.snp_model.specs.declared.reading.Quantity.TheVariants.{Bytes}
use Rattle.snp_model.specs.declared.reading.Reason.{Reason}
use Rattle.snp_model.specs.declared.scenario.Scenario.{Scenario}
use Rattle.snp_model.specs.Limits.{most}
use Rattle.snp_model.specs.Outside.{TakesAll}
use Rattle.snp_model.specs.Reading.{IsTooLong, Passes, Refuses}
use Rattle.scenario_text.specs.declared.fault.ScenarioFault.{ScenarioFault}
use Rattle.scenario_text.specs.declared.fault.ScenarioFault.TheVariants as texts
use Rattle.scenario_text.specs.Answers.{Answers}
use Rattle.snp_top.specs.declared.fault.CommandFault.{CommandFault}
use Rattle.snp_top.specs.declared.fault.CommandFault.TheVariants as faults
use Rattle.snp_top.specs.Faults.{text_fault}
use Rattle.snp_top.specs.Input.{HasInputCause, TakesExactly}
use Rattle.snp_top.specs.Replays.{HasReplayCause, ReadsSome, ReadsText}
use Rattle.snp_top.specs.Runs.{IsNoTurn}

-- a text of which one byte too many was read
pub too_long : (left now : Option (List ℕ)) (quantity : Quantity) (count : ℕ) → TakesExactly (most Bytes + 1) left now → quantity ≡ Bytes → count ≡ most Bytes + 1 → ReadsSome left now (λ text. IsTooLong text quantity count)
too_long None now quantity count takes bytes many = tt
too_long (Some text) now quantity count takes bytes many =
    let front = takes.0 in
    let rest = takes.2.0 in
    let parts : text ≡ front ++ rest = takes.2.2 in
    let behind : drop (most Bytes + 1) text ≡ rest = ap (drop (most Bytes + 1)) parts ∙ drop_at front rest (most Bytes + 1) takes.1 in
    (takes.2.1 ∙ ap (λ (r : List ℕ). Some r) (sym behind), record { long = omega (arith, ap length parts, length-append front rest, takes.1); quantity_is = bytes; count_is = many })

pub passes_long : (left now : Option (List ℕ)) (quantity : Quantity) (count : ℕ) → ReadsSome left now (λ text. IsTooLong text quantity count) → ReadsSome left now (λ text. Passes text quantity count)
passes_long None now quantity count reads = tt
passes_long (Some text) now quantity count reads = (reads.0, inl reads.1)

-- what keeps a text from being read keeps it from being replayed
pub input_cause : (left now : Option (List ℕ)) (before after : ℕ) (fault : CommandFault) → HasInputCause left now before after fault → HasReplayCause left now before after fault
input_cause left now before after faults.Read cause = cause
input_cause left now before after (faults.Limit quantity count) cause = passes_long left now quantity count (too_long left now quantity count cause.0 cause.1 cause.2)
input_cause left now before after faults.Memory cause = tt
input_cause left now before after fault cause = absurd cause

refused : (left now : Option (List ℕ)) (bytes text : List ℕ) (line : ℕ) (reason : Reason) → TakesAll left now bytes → text ≡ bytes → Refuses text line reason → ReadsText left now (λ t. Refuses t line reason)
refused None now bytes text line reason takes same refuses = tt
refused (Some t) now bytes text line reason takes same refuses = (takes.0, subst (λ (s : List ℕ). Refuses s line reason) (same ∙ sym takes.1) refuses)

passed : (left now : Option (List ℕ)) (bytes text : List ℕ) (quantity : Quantity) (count : ℕ) → TakesAll left now bytes → text ≡ bytes → length bytes ≤ most Bytes → Passes text quantity count
    → ReadsSome left now (λ t. Passes t quantity count)
passed None now bytes text quantity count takes same short passes = tt
passed (Some t) now bytes text quantity count takes same short passes =
    let few : length t ≤ most Bytes + 1 = omega (arith, ap length takes.1) in
    (takes.0 ∙ ap (λ (r : List ℕ). Some r) (sym (drop_all (most Bytes + 1) t few)), subst (λ (s : List ℕ). Passes s quantity count) (same ∙ sym takes.1) passes)

-- what is wrong with a text that was read to its end keeps it from being replayed
text_cause : (left now : Option (List ℕ)) (before after : ℕ) (bytes text : List ℕ) (fault : ScenarioFault) → TakesAll left now bytes → text ≡ bytes → length bytes ≤ most Bytes
    → Answers (let answer : Result Scenario ScenarioFault = Err fault in answer) text → HasReplayCause left now before after (text_fault fault)
text_cause left now before after bytes text (texts.Refused line reason) takes same short answers = refused left now bytes text line reason takes same answers
text_cause left now before after bytes text (texts.Limit quantity count) takes same short answers = passed left now bytes text quantity count takes same short answers
text_cause left now before after bytes text (texts.Memory error) takes same short answers = tt

pub made_cause : (left now : Option (List ℕ)) (before after : ℕ) (bytes text : List ℕ) (fault : ScenarioFault) (made : CommandFault) → made ≡ text_fault fault → TakesAll left now bytes → text ≡ bytes → length bytes ≤ most Bytes
    → Answers (let answer : Result Scenario ScenarioFault = Err fault in answer) text → HasReplayCause left now before after made
made_cause left now before after bytes text fault made is takes same short answers =
    subst (HasReplayCause left now before after) (sym is) (text_cause left now before after bytes text fault takes same short answers)

-- neither what keeps a text from being read nor what is wrong with it is an entry of a schedule
pub input_no_turn : (left now : Option (List ℕ)) (before after : ℕ) (fault : CommandFault) → HasInputCause left now before after fault → IsNoTurn fault
input_no_turn left now before after (faults.Schedule turn) cause = absurd cause
input_no_turn left now before after faults.Words cause = tt
input_no_turn left now before after (faults.Scenario line reason) cause = tt
input_no_turn left now before after (faults.Limit quantity count) cause = tt
input_no_turn left now before after faults.Read cause = tt
input_no_turn left now before after faults.Write cause = tt
input_no_turn left now before after faults.Memory cause = tt

text_no_turn : (fault : ScenarioFault) → IsNoTurn (text_fault fault)
text_no_turn (texts.Refused line reason) = tt
text_no_turn (texts.Limit quantity count) = tt
text_no_turn (texts.Memory error) = tt

pub made_no_turn : (fault : ScenarioFault) (made : CommandFault) → made ≡ text_fault fault → IsNoTurn made
made_no_turn fault made is = subst IsNoTurn (sym is) (text_no_turn fault)
