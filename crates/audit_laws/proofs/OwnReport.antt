-- The report that a run makes is audited with yes.
use Rattle.std.proofs.Common.{◌≡◌, ℕ, ◌≤◌, true, List, length, Ok, ap, ◌∙◌, arith}
use Rattle.snp_model.specs.declared.scenario.Scenario.{Scenario}
use Rattle.snp_model.specs.Ending.{lines_of, report_of}
use Rattle.snp_model.specs.GuestMemory.{IsLegal}
use Rattle.snp_model.specs.Opening.{opening}
use Rattle.snp_model.specs.Reading.{Valid}
use Rattle.snp_model.specs.Run.{IsDefined, run_of, state_after}
use Rattle.snp_model.specs.ScenarioLines.{is_opened}
use Rattle.snp_model.specs.Sound.{IsSound}
use Rattle.snp_model.specs.Spelled.{IsSpelled}
use Rattle.snp_model.proofs.SoundLaws.{valid_is_sound}
use Rattle.scenario_text.proofs.ValidSpelled.{valid_spelled}
use Rattle.run_laws.proofs.RoomLaws.{run_length}
use Rattle.run_laws.proofs.RunLaws.{length_run}
use Rattle.run_laws.proofs.SealedRuns.{disciplined_lacks, lacking_guest_legal}
use Rattle.report_audit.specs.Again.{IsWritten}
use Rattle.report_audit.specs.Audit.{audit_of}
use Rattle.report_audit.proofs.ReportAgain.{report_heard}
use Rattle.audit_laws.specs.Premises.{MeetPremises}
use Rattle.audit_laws.proofs.EventFits.{run_entries}
use Rattle.audit_laws.proofs.GuestFits.{run_guest_count, run_guest_lines}
use Rattle.audit_laws.proofs.RunHeard.{opened_declared, run_heard}

pub run_short : (c : Scenario) (s : List ℕ) → IsSound c → IsDefined c s → length s ≤ 262144
run_short c s sound defined =
    let most = sound.attempts_most in
    let long = run_length c s defined in
    omega (arith, most, long)

pub run_written : (c : Scenario) (s : List ℕ) → IsSound c → IsSpelled c → IsDefined c s → IsWritten c (run_of c s) (lines_of (state_after c s))
run_written c s sound spelled defined =
    let version = sound.version_most in
    let short = run_short c s sound defined in
    let events = length_run (opening c) s in
    let count = run_guest_count c s in
    let most = sound.guests_most in
    record {
      version = omega (arith, version);
      few = omega (arith, short, events);
      fits = run_entries c s sound spelled defined;
      guests_are = run_guest_lines c s;
      declared = count;
      few_guests = omega (arith, count, most);
    }

opened_legal : (c : Scenario) (s : List ℕ) → IsSound c → IsDefined c s → MeetPremises c s → (guest : ℕ) → is_opened c.guests guest ≡ true → IsLegal c s guest
opened_legal c s sound defined met guest opened =
    let is = opened_declared c.guests guest opened in
    let of = met guest opened in
    lacking_guest_legal c s guest sound defined is.some is.most (disciplined_lacks c s guest of.0) of.1

audited_by : (c : Scenario) (s : List ℕ) (first : ℕ) → IsSound c → IsSpelled c → IsDefined c s → MeetPremises c s → audit_of c first (report_of c s) ≡ Ok (length s)
unfolding report_of
audited_by c s first sound spelled defined met =
    let heard = run_heard c s sound defined (opened_legal c s sound defined met) in
    report_heard c first (run_of c s) (lines_of (state_after c s)) heard.value (run_written c s sound spelled defined) heard.is ∙ ap (λ (n : ℕ). Ok n) (length_run (opening c) s)

pub own_audited : (c : Scenario) (s : List ℕ) (first : ℕ) → Valid c → IsDefined c s → MeetPremises c s → audit_of c first (report_of c s) ≡ Ok (length s)
own_audited c s first valid defined met = audited_by c s first (valid_is_sound c valid) (valid_spelled c valid) defined met
