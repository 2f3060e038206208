-- What is said of a text, of a scenario that was replayed, and of an outcome.
use Rattle.std.proofs.Common.{◌≡◌, ℕ, ◌≤◌, zero, suc, List, [], ◌∷◌, take, Option, None, Some, IfSome, Result, Ok, Err, subst, arith}
use Rattle.std.specs.Prelude.{slice_get}
use Rattle.snp_model.specs.declared.reading.Quantity.{Quantity}
use Rattle.snp_model.specs.declared.reading.Reason.{Reason}
use Rattle.snp_model.specs.declared.scenario.Scenario.{Scenario}
use Rattle.snp_model.specs.Ending.{report_of}
use Rattle.scenario_text.specs.Findings.{says, wrong, too_much}
use Rattle.snp_model.specs.Opening.{opening}
use Rattle.snp_model.specs.Outside.{Adds, AddsPrefix}
use Rattle.snp_model.specs.Reading.{Passes, Reads, Refuses, Valid, order_of}
use Rattle.snp_model.specs.Report.{report_text}
use Rattle.snp_model.specs.Run.{IsDefined, IsDefinedFrom, state_from}
use Rattle.snp_model.specs.State.{State, IsUnfinished}
use Rattle.snp_model.specs.Step.{after}
use Rattle.scenario_text.proofs.FindingLaws.{one_finding}
use Rattle.snp_top.specs.declared.fault.CommandFault.{CommandFault}
use Rattle.snp_top.specs.declared.fault.CommandFault.TheVariants as faults
use Rattle.snp_top.specs.declared.replay.Played.{Played}
use Rattle.snp_top.specs.declared.words.Asked.TheVariants as asks
use Rattle.snp_top.specs.Batch.{ForScenario, Outside, ReportsTo, SaysRun}
use Rattle.snp_top.specs.Exits.{ComesTo}
use Rattle.snp_top.specs.Faults.{status_of}
use Rattle.snp_top.specs.Replays.{IsPlayed, IsRead, ReadsText, SaysOne}
use Rattle.snp_top.specs.Schedule.{IsFirstBad}

-- what is written of a replay is the report of its scenario
played_report : (c : Scenario) (played : Played) → IsPlayed c played → report_text played.version played.journal.list played.guests.items ≡ report_of c (order_of c)
unfolding report_of
played_report c played is = λ i. report_text (is.version i) (is.events i) (is.guests i)

-- the scenario that was replayed, with what was written of it
reported : (left now : Option (List ℕ)) (played : Played) (Says : List ℕ → Type 0) → ReadsText left now (SaysOne (λ c. IsPlayed c played)) → Says (report_text played.version played.journal.list played.guests.items)
    → ReadsText left now (SaysOne (λ c. IsDefined c (order_of c) × Says (report_of c (order_of c))))
reported None now played Says reads writes = tt
reported (Some text) now played Says reads writes =
    let c = reads.1.0 in
    let is = reads.1.2 in
    (reads.0, (c, reads.1.1, (is.defined, subst Says (played_report c played is) writes)))

pub comes_report : (outcome : Result (Unit {0}) CommandFault) (before now : Outside) (played : Played) → ReadsText before.left now.left (SaysOne (λ c. IsPlayed c played))
    → ReportsTo before.written now.written before.write_faults now.write_faults (report_text played.version played.journal.list played.guests.items) outcome → ComesTo (Some asks.Replay) outcome before now
comes_report (Ok done) before now played reads reports = reported before.left now.left played (Adds before.written now.written) reads reports
comes_report (Err faults.Write) before now played reads reports = (reported before.left now.left played (AddsPrefix before.written now.written) reads reports.0, reports.1)
comes_report (Err fault) before now played reads reports = absurd reports

-- statuses are those of the outcomes
pub status_between : (fault : CommandFault) → (2 ≤ status_of fault) × (status_of fault ≤ 8)
status_between faults.Words = (omega arith, omega arith)
status_between (faults.Scenario line reason) = (omega arith, omega arith)
status_between (faults.Limit quantity count) = (omega arith, omega arith)
status_between faults.Read = (omega arith, omega arith)
status_between faults.Write = (omega arith, omega arith)
status_between faults.Memory = (omega arith, omega arith)
status_between (faults.Schedule turn) = (omega arith, omega arith)

pub text_read : (left now : Option (List ℕ)) (P : List ℕ → Type 0) → ReadsText left now P → IsRead left now
text_read None now P reads = tt
text_read (Some text) now P reads = reads.0

pub run_said : (left now : Option (List ℕ)) (P : Scenario → Type 0) → ReadsText left now (SaysOne (λ c. IsDefined c (order_of c) × P c)) → SaysRun left
run_said None now P reads = tt
run_said (Some text) now P reads = (reads.1.0, reads.1.1, reads.1.2.0)

-- a text says one scenario alone
pub same_scenario : (text : List ℕ) (c d : Scenario) → Reads text c → Reads text d → c ≡ d
same_scenario text c d one other = let e = one_finding text (says c) (says d) one other in cc

-- what is said is valid
pub said_valid : (text : List ℕ) (c : Scenario) → Reads text c → Valid c
said_valid text c reads = (reads.lines, reads.makes)

-- what holds of the scenario that was read holds of every scenario that the text says
pub for_scenario : (left now : Option (List ℕ)) (P Q : Scenario → Type 0) → ReadsText left now (SaysOne P) → ((c : Scenario) → Valid c → P c → Q c) → ForScenario left Q
for_scenario None now P Q reads gives = tt
for_scenario (Some text) now P Q reads gives =
    let one = reads.1 in
    λ c other. subst Q (same_scenario text one.0 c one.1 other) (gives one.0 (said_valid text one.0 one.1) one.2)

-- what is known where the bytes are told
pub if_some : (P : List ℕ → Type 0) (left : Option (List ℕ)) (text : List ℕ) → left ≡ Some text → IfSome left P → P text
if_some P left text is h = subst (λ (l : Option (List ℕ)). IfSome l P) is h

-- a text that says a scenario is neither refused nor passes a limit
pub said_or_wrong : (text : List ℕ) (c : Scenario) (line : ℕ) (reason : Reason) → Reads text c → Refuses text line reason → ⊥
said_or_wrong text c line reason one other = let e = one_finding text (says c) (wrong line reason) one other in cc

pub said_or_too_much : (text : List ℕ) (c : Scenario) (quantity : Quantity) (count : ℕ) → Reads text c → Passes text quantity count → ⊥
said_or_too_much text c quantity count one other = let e = one_finding text (says c) (too_much quantity count) one other in cc

pub wrong_or_too_much : (text : List ℕ) (line : ℕ) (reason : Reason) (quantity : Quantity) (count : ℕ) → Refuses text line reason → Passes text quantity count → ⊥
wrong_or_too_much text line reason quantity count one other = let e = one_finding text (wrong line reason) (too_much quantity count) one other in cc

-- a schedule that makes a run has no bad entry
pub run_has_none : (m : State) (s : List ℕ) (k actor : ℕ) → slice_get s k ≡ Some actor → (IsUnfinished (state_from m (take k s)) actor → ⊥) → IsDefinedFrom m s → ⊥
unfolding IsDefinedFrom state_from
run_has_none m [] k actor named bad defined = absurd (cc)
run_has_none m (x ∷ s) zero actor named bad defined = let same : x ≡ actor = cc in bad (subst (IsUnfinished m) same defined.0)
run_has_none m (x ∷ s) (suc k) actor named bad defined = run_has_none (after m x) s k actor named bad defined.1

pub bad_or_run : (text : List ℕ) (c d : Scenario) (entry actor : ℕ) → Reads text c → Reads text d → IsFirstBad (opening c) (order_of c) entry actor → IsDefined d (order_of d) → ⊥
bad_or_run text c d entry actor one other bad defined =
    run_has_none (opening c) (order_of c) entry actor bad.named bad.bad (subst (λ (e : Scenario). IsDefined e (order_of e)) (same_scenario text d c other one) defined)
