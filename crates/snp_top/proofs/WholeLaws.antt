-- What is reported of a whole run.
use Rattle.std.proofs.Common.{◌≡◌, ℕ, ◌<◌, ◌^◌, true, List, [], Option, Some, length, sym, ap, ◌∙◌, subst, arith}
use Rattle.snp_model.specs.declared.event.Event.{Event}
use Rattle.snp_model.specs.declared.report.GuestLine.{GuestLine}
use Rattle.snp_model.specs.declared.scenario.Scenario.{Scenario}
use Rattle.snp_model.specs.Ending.{lines_of, report_of}
use Rattle.snp_model.specs.Journal.{actors_of}
use Rattle.snp_model.specs.Opening.{opening}
use Rattle.snp_model.specs.Reading.{Valid}
use Rattle.snp_model.specs.Report.{actors_in, report_text, runs_of}
use Rattle.snp_model.specs.Run.{run_of}
use Rattle.snp_model.specs.State.{State}
use Rattle.snp_model.proofs.SoundLaws.{attempts_few, valid_is_sound}
use Rattle.run_laws.proofs.GuestMemoryLaws.{guests_are_legal}
use Rattle.run_laws.proofs.JournalsLaws.{is_run_length, is_run_none, state_at_none, unfinished_is_actor}
use Rattle.run_laws.proofs.OrderedLaws.{run_is_ordered}
use Rattle.run_laws.proofs.RunLaws.{actors_of_run}
use Rattle.report_text.proofs.Runs.{runs_spell}
use Rattle.snp_top.specs.Fleets.{IsWhole, Kept}
use Rattle.snp_top.specs.Runs.{IsKeptRun, IsReported, ReportsKept}

-- the order lines of a run's report spell its schedule
pub run_spelled : (c : Scenario) (schedule : List ℕ) → actors_in (runs_of (actors_of (run_of c schedule))) ≡ schedule
unfolding actors_of
run_spelled c schedule = runs_spell (actors_of (run_of c schedule)) ∙ actors_of_run (opening c) schedule

-- what is written of a whole run is a report of the scenario, by the schedule of its events
pub whole_kept : (c : Scenario) (kept : Kept) (Writes : List ℕ → Type 0) → Valid c → IsWhole c kept → Writes (report_text c.version kept.list kept.guests) → IsKeptRun c kept Writes
unfolding report_of
whole_kept c kept Writes valid whole writes =
    let s : List ℕ = actors_of kept.list in
    let events : kept.list ≡ run_of c s = whole.run.events in
    let same : report_text c.version kept.list kept.guests ≡ report_of c s = λ i. report_text c.version (events i) (whole.guests i) in
    record {
      whole = whole;
      written = writes;
      reported = record {
        schedule = s;
        chosen = whole.complete;
        defined = whole.run.defined;
        ordered = run_is_ordered c s whole.run.defined;
        legal = guests_are_legal c s (valid_is_sound c valid) whole.run.defined;
        spelled = run_spelled c s;
        written = subst Writes same writes;
      };
      same = λ i. s;
    }

pub whole_reported : (c : Scenario) (kept : Kept) (Writes : List ℕ → Type 0) → Valid c → IsWhole c kept → Writes (report_text c.version kept.list kept.guests) → IsReported true c Writes
whole_reported c kept Writes valid whole writes = (whole_kept c kept Writes valid whole writes).reported

-- what a fleet keeps is what was reported
pub kept_reported : {c : Scenario} {opens : Option Scenario} {kept : Option Kept} {k : Kept} {Writes : List ℕ → Type 0} → opens ≡ Some c → Some k ≡ kept → IsKeptRun c k Writes → ReportsKept c opens kept Writes
kept_reported {c} {opens} {kept} {k} {Writes} opening keeps is =
    subst (λ (o : Option Scenario). ReportsKept c o kept Writes) (sym opening) (subst (λ (o : Option Kept). ReportsKept c (Some c) o Writes) keeps ((λ i. c), is))

-- it has few events
pub whole_short : (c : Scenario) (kept : Kept) → Valid c → IsWhole c kept → length kept.list < 2 ^ 32
whole_short c kept valid whole = omega (arith, is_run_length c kept.list whole.run, attempts_few c valid)

-- a scenario without actors has run to its end at the opening
pub idle_whole : (c : Scenario) (m : State) (guests : List GuestLine) (list : List (ℕ × Event)) → length c.actors ≡ 0 → m ≡ opening c → guests ≡ lines_of m → list ≡ [] → IsWhole c (record { guests = guests; list = list })
idle_whole c m guests list none opens lines empty =
    subst (λ (l : List (ℕ × Event)). IsWhole c (record { guests = guests; list = l })) (sym empty) (record {
      run = is_run_none c;
      complete = λ actor unfinished. let at = unfinished_is_actor c [] actor unfinished in omega (arith, none, at.0, at.1);
      guests = lines ∙ ap lines_of (opens ∙ sym (state_at_none c));
    })
