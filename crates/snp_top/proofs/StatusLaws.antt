-- Which status comes where, and what a status 0 or 6 tells of each command.
use Rattle.std.proofs.Common.{◌≡◌, ◌≢◌, ℕ, ◌<◌, ◌⊎◌, Bool, true, false, List, length, Option, None, Some, IfSome, OnOk, Result, Ok, Err, refl, sym, ap, ◌∙◌, subst, arith, inl, inr}
use Rattle.std.proofs.lemmas.Bool.{false≢true}
use Rattle.snp_model.specs.declared.reading.Quantity.{Quantity}
use Rattle.snp_model.specs.declared.reading.Quantity.TheVariants.{Bytes}
use Rattle.snp_model.specs.declared.reading.Reason.{Reason}
use Rattle.snp_model.specs.declared.scenario.Scenario.{Scenario}
use Rattle.snp_model.specs.Ending.{report_of}
use Rattle.snp_model.specs.Limits.{most}
use Rattle.snp_model.specs.MeasureText.{RefusesPages, SaysPages}
use Rattle.snp_model.specs.Measurement.{LaunchedPage}
use Rattle.snp_model.specs.Opening.{opening}
use Rattle.snp_model.specs.Outside.{Adds, AddsPrefix, Rose}
use Rattle.snp_model.specs.Premises.{AreLegal}
use Rattle.snp_model.specs.Reading.{Passes, Reads, Refuses, Valid, order_of}
use Rattle.snp_model.specs.Run.{IsDefined, IsOrdered}
use Rattle.snp_model.proofs.SoundLaws.{valid_is_sound}
use Rattle.run_laws.proofs.GuestMemoryLaws.{guests_are_legal}
use Rattle.run_laws.proofs.OrderedLaws.{run_is_ordered}
use Rattle.snp_top.specs.declared.fault.CommandFault.{CommandFault}
use Rattle.snp_top.specs.declared.fault.CommandFault.TheVariants as faults
use Rattle.snp_top.specs.declared.words.Asked.{Asked}
use Rattle.snp_top.specs.declared.words.Asked.TheVariants as asks
use Rattle.snp_top.specs.declared.words.Drawn.{Drawn}
use Rattle.snp_top.specs.Batch.{Concludes, ForScenario, Outside, SaysRun}
use Rattle.snp_top.specs.Exits.{Exits, HasCause, Outputs}
use Rattle.snp_top.specs.Faults.{error_line, exit_status, status_of}
use Rattle.snp_top.specs.Fleets.{Kept}
use Rattle.snp_top.specs.Measures.{HasMeasureCause}
use Rattle.snp_top.specs.Replays.{HasReplayCause, IsRead, ReadsText, SaysOne}
use Rattle.snp_top.specs.Runs.{IsNoTurn, IsReported, OnCut}
use Rattle.snp_top.specs.Schedule.{IsFirstBad}
use Rattle.snp_top.specs.Words.{asks_run, asks_scenario, asks_text}
use Rattle.snp_top.proofs.BatchLaws.{bad_or_run, for_scenario, if_some, run_said, said_or_too_much, said_or_wrong, said_valid, status_between, text_read, wrong_or_too_much}
use Rattle.snp_top.proofs.ExitLaws.{by_status}
use Rattle.snp_top.proofs.KeptLaws.{Fleets, cut_fleet_kept, line_nothing}
use Rattle.snp_top.proofs.MeasureLaws.{says_or_refuses}
use Rattle.snp_top.proofs.WholeLaws.{run_spelled}

-- a command asked for under another name
pub exits_as : {asked other : Option Asked} {k : ℕ} {before now : Outside} → asked ≡ other → Exits asked k before now → Exits other k before now
exits_as {asked} {other} {k} {before} {now} same exits = subst (λ (a : Option Asked). Exits a k before now) same exits

-- what a command that reads a scenario has read
outputs_say : (asked : Option Asked) (left now : Option (List ℕ)) (text : List ℕ) (P : List ℕ → Type 0) → asks_scenario asked ≡ true → left ≡ Some text → Outputs asked left now P → (c : Scenario) × Reads text c
outputs_say None left now text P reads is out = absurd out
outputs_say (Some asks.Replay) left now text P reads is out = let said = if_some _ left text is out in (said.1.0, said.1.1)
outputs_say (Some asks.Run) left now text P reads is out = let said = if_some _ left text is out in (said.1.0, said.1.1)
outputs_say (Some asks.Measure) left now text P reads is out = absurd (false≢true reads)
outputs_say (Some (asks.Drawn number what)) left now text P reads is out = absurd (false≢true reads)

replay_cause : (asked : Option Asked) (left now : Option (List ℕ)) (before after : ℕ) (fault : CommandFault) → asks_scenario asked ≡ true → HasCause asked left now before after fault → HasReplayCause left now before after fault
replay_cause None left now before after fault reads cause = absurd (false≢true reads)
replay_cause (Some asks.Replay) left now before after fault reads cause = cause
replay_cause (Some asks.Run) left now before after fault reads cause = cause.1
replay_cause (Some asks.Measure) left now before after fault reads cause = absurd (false≢true reads)
replay_cause (Some (asks.Drawn number what)) left now before after fault reads cause = absurd (false≢true reads)

-- 3 comes where a line of a scenario is refused
pub refused_where : {asked : Option Asked} {k : ℕ} {before now : Outside} → Exits asked k before now → asks_scenario asked ≡ true → (text : List ℕ) (line : ℕ) (reason : Reason) → before.left ≡ Some text → Refuses text line reason
    → (k ≡ 3) ⊎ ((k ≡ 5) ⊎ (k ≡ 7))
refused_where {asked} {k} {before} {now} exits reads text line reason left refuses = by_status exits ((k ≡ 3) ⊎ ((k ≡ 5) ⊎ (k ≡ 7)))
    (λ zero out. let said = outputs_say asked before.left now.left text (Adds before.written now.written) reads left out in absurd (said_or_wrong text said.0 line reason said.1 refuses))
    (λ six out. let said = outputs_say asked before.left now.left text (AddsPrefix before.written now.written) reads left out.0 in absurd (said_or_wrong text said.0 line reason said.1 refuses))
    (λ fails. go fails.fault fails.status_is (replay_cause asked before.left now.left before.read_faults now.read_faults fails.fault reads fails.cause))
  where
    go : (fault : CommandFault) → k ≡ status_of fault → HasReplayCause before.left now.left before.read_faults now.read_faults fault → (k ≡ 3) ⊎ ((k ≡ 5) ⊎ (k ≡ 7))
    go faults.Words is cause = absurd cause
    go (faults.Scenario other why) is cause = inl is
    go (faults.Limit quantity count) is cause = let said = if_some _ before.left text left cause in absurd (wrong_or_too_much text line reason quantity count refuses said.1)
    go faults.Read is cause = inr (inl is)
    go faults.Write is cause = absurd cause
    go faults.Memory is cause = inr (inr is)
    go (faults.Schedule turn) is cause = let said = if_some _ before.left text left cause in absurd (said_or_wrong text said.1.0 line reason said.1.1 refuses)

-- 4 where it passes a limit
pub passed_where : {asked : Option Asked} {k : ℕ} {before now : Outside} → Exits asked k before now → asks_scenario asked ≡ true → (text : List ℕ) (quantity : Quantity) (count : ℕ) → before.left ≡ Some text → Passes text quantity count
    → (k ≡ 4) ⊎ ((k ≡ 5) ⊎ (k ≡ 7))
passed_where {asked} {k} {before} {now} exits reads text quantity count left passes = by_status exits ((k ≡ 4) ⊎ ((k ≡ 5) ⊎ (k ≡ 7)))
    (λ zero out. let said = outputs_say asked before.left now.left text (Adds before.written now.written) reads left out in absurd (said_or_too_much text said.0 quantity count said.1 passes))
    (λ six out. let said = outputs_say asked before.left now.left text (AddsPrefix before.written now.written) reads left out.0 in absurd (said_or_too_much text said.0 quantity count said.1 passes))
    (λ fails. go fails.fault fails.status_is (replay_cause asked before.left now.left before.read_faults now.read_faults fails.fault reads fails.cause))
  where
    go : (fault : CommandFault) → k ≡ status_of fault → HasReplayCause before.left now.left before.read_faults now.read_faults fault → (k ≡ 4) ⊎ ((k ≡ 5) ⊎ (k ≡ 7))
    go faults.Words is cause = absurd cause
    go (faults.Scenario line reason) is cause = let said = if_some _ before.left text left cause in absurd (wrong_or_too_much text line reason quantity count said.1 passes)
    go (faults.Limit other many) is cause = inl is
    go faults.Read is cause = inr (inl is)
    go faults.Write is cause = absurd cause
    go faults.Memory is cause = inr (inr is)
    go (faults.Schedule turn) is cause = let said = if_some _ before.left text left cause in absurd (said_or_too_much text said.1.0 quantity count said.1.1 passes)

-- 8 where an entry of the schedule names an actor that is missing or finished
pub bad_turn_where : {k : ℕ} {before now : Outside} → Exits (Some asks.Replay) k before now → (text : List ℕ) (c : Scenario) (entry actor : ℕ) → before.left ≡ Some text
    → Reads text c → IsFirstBad (opening c) (order_of c) entry actor → (k ≡ 8) ⊎ ((k ≡ 5) ⊎ (k ≡ 7))
bad_turn_where {k} {before} {now} exits text c entry actor left reads bad = by_status exits ((k ≡ 8) ⊎ ((k ≡ 5) ⊎ (k ≡ 7)))
    (λ zero out. let said = if_some _ before.left text left out in absurd (bad_or_run text c said.1.0 entry actor reads said.1.1 bad said.1.2.0))
    (λ six out. let said = if_some _ before.left text left out.0 in absurd (bad_or_run text c said.1.0 entry actor reads said.1.1 bad said.1.2.0))
    (λ fails. go fails.fault fails.status_is fails.cause)
  where
    go : (fault : CommandFault) → k ≡ status_of fault → HasReplayCause before.left now.left before.read_faults now.read_faults fault → (k ≡ 8) ⊎ ((k ≡ 5) ⊎ (k ≡ 7))
    go faults.Words is cause = absurd cause
    go (faults.Scenario line reason) is cause = let said = if_some _ before.left text left cause in absurd (said_or_wrong text c line reason reads said.1)
    go (faults.Limit quantity count) is cause = let said = if_some _ before.left text left cause in absurd (said_or_too_much text c quantity count reads said.1)
    go faults.Read is cause = inr (inl is)
    go faults.Write is cause = absurd cause
    go faults.Memory is cause = inr (inr is)
    go (faults.Schedule turn) is cause = inl is

-- 3 and 4 of a measure text
pub page_refused_where : {k : ℕ} {before now : Outside} → Exits (Some asks.Measure) k before now → (text : List ℕ) (line : ℕ) (reason : Reason) → before.left ≡ Some text → RefusesPages text line reason
    → (k ≡ 3) ⊎ ((k ≡ 5) ⊎ (k ≡ 7))
page_refused_where {k} {before} {now} exits text line reason left refuses = by_status exits ((k ≡ 3) ⊎ ((k ≡ 5) ⊎ (k ≡ 7)))
    (λ zero out. let said = if_some _ before.left text left out in absurd (says_or_refuses text said.1.0 line reason said.1.1 refuses))
    (λ six out. let said = if_some _ before.left text left out.0 in absurd (says_or_refuses text said.1.0 line reason said.1.1 refuses))
    (λ fails. go fails.fault fails.status_is fails.cause)
  where
    go : (fault : CommandFault) → k ≡ status_of fault → HasMeasureCause before.left now.left before.read_faults now.read_faults fault → (k ≡ 3) ⊎ ((k ≡ 5) ⊎ (k ≡ 7))
    go faults.Words is cause = absurd cause
    go (faults.Scenario other why) is cause = inl is
    go (faults.Limit quantity count) is cause = let said = if_some _ before.left text left cause in let long = said.1.long in let short = refuses.short in absurd (omega (arith, long, short))
    go faults.Read is cause = inr (inl is)
    go faults.Write is cause = absurd cause
    go faults.Memory is cause = inr (inr is)
    go (faults.Schedule turn) is cause = absurd cause

pub too_long_where : {k : ℕ} {before now : Outside} → Exits (Some asks.Measure) k before now → (text : List ℕ) → before.left ≡ Some text → most Bytes < length text → (k ≡ 4) ⊎ ((k ≡ 5) ⊎ (k ≡ 7))
too_long_where {k} {before} {now} exits text left long = by_status exits ((k ≡ 4) ⊎ ((k ≡ 5) ⊎ (k ≡ 7)))
    (λ zero out. let said = if_some _ before.left text left out in let short = said.1.1.short in absurd (omega (arith, long, short)))
    (λ six out. let said = if_some _ before.left text left out.0 in let short = said.1.1.short in absurd (omega (arith, long, short)))
    (λ fails. go fails.fault fails.status_is fails.cause)
  where
    go : (fault : CommandFault) → k ≡ status_of fault → HasMeasureCause before.left now.left before.read_faults now.read_faults fault → (k ≡ 4) ⊎ ((k ≡ 5) ⊎ (k ≡ 7))
    go faults.Words is cause = absurd cause
    go (faults.Scenario line reason) is cause = let said = if_some _ before.left text left cause in let short = said.1.short in absurd (omega (arith, long, short))
    go (faults.Limit quantity count) is cause = inl is
    go faults.Read is cause = inr (inl is)
    go faults.Write is cause = absurd cause
    go faults.Memory is cause = inr (inr is)
    go (faults.Schedule turn) is cause = absurd cause

-- what a number determines is written, unless the sink or memory fails
pub drawn_exits : {k : ℕ} {before now : Outside} {number : ℕ} {what : Drawn} → Exits (Some (asks.Drawn number what)) k before now → (k ≡ 0) ⊎ ((k ≡ 6) ⊎ (k ≡ 7))
drawn_exits {k} exits = by_status exits ((k ≡ 0) ⊎ ((k ≡ 6) ⊎ (k ≡ 7))) (λ zero out. inl zero) (λ six out. inr (inl six)) (λ fails. inr (inr (fails.status_is ∙ ap status_of fails.cause)))

pub drawn_ends : {k : ℕ} {before now : Outside} {number : ℕ} {what : Drawn} → Exits (Some (asks.Drawn number what)) k before now → (Rose before.write_faults now.write_faults → ⊥) → (k ≡ 0) ⊎ (k ≡ 7)
drawn_ends {k} exits no_write = by_status exits ((k ≡ 0) ⊎ (k ≡ 7)) (λ zero out. inl zero) (λ six out. absurd (no_write out.1)) (λ fails. inr (fails.status_is ∙ ap status_of fails.cause))

-- nothing else keeps a report from being written
pub replay_ends : {k : ℕ} {before now : Outside} → Exits (Some asks.Replay) k before now → (text : List ℕ) (c : Scenario) → before.left ≡ Some text → Reads text c → IsDefined c (order_of c)
    → (Rose before.read_faults now.read_faults → ⊥) → (Rose before.write_faults now.write_faults → ⊥) → (k ≡ 0) ⊎ (k ≡ 7)
replay_ends {k} {before} {now} exits text c left reads defined no_read no_write = by_status exits ((k ≡ 0) ⊎ (k ≡ 7))
    (λ zero out. inl zero) (λ six out. absurd (no_write out.1)) (λ fails. go fails.fault fails.status_is fails.cause)
  where
    go : (fault : CommandFault) → k ≡ status_of fault → HasReplayCause before.left now.left before.read_faults now.read_faults fault → (k ≡ 0) ⊎ (k ≡ 7)
    go faults.Words is cause = absurd cause
    go (faults.Scenario line reason) is cause = let said = if_some _ before.left text left cause in absurd (said_or_wrong text c line reason reads said.1)
    go (faults.Limit quantity count) is cause = let said = if_some _ before.left text left cause in absurd (said_or_too_much text c quantity count reads said.1)
    go faults.Read is cause = absurd (no_read cause.1)
    go faults.Write is cause = absurd cause
    go faults.Memory is cause = inr is
    go (faults.Schedule turn) is cause = let said = if_some _ before.left text left cause in absurd (bad_or_run text said.1.0 c turn.entry turn.actor said.1.1 reads said.1.2 defined)

pub run_ends : {k : ℕ} {before now : Outside} → Exits (Some asks.Run) k before now → (text : List ℕ) (c : Scenario) → before.left ≡ Some text → Reads text c
    → (Rose before.read_faults now.read_faults → ⊥) → (Rose before.write_faults now.write_faults → ⊥) → (k ≡ 0) ⊎ (k ≡ 7)
run_ends {k} {before} {now} exits text c left reads no_read no_write = by_status exits ((k ≡ 0) ⊎ (k ≡ 7))
    (λ zero out. inl zero) (λ six out. absurd (no_write out.1)) (λ fails. go fails.fault fails.status_is fails.cause)
  where
    go : (fault : CommandFault) → k ≡ status_of fault → IsNoTurn fault × HasReplayCause before.left now.left before.read_faults now.read_faults fault → (k ≡ 0) ⊎ (k ≡ 7)
    go faults.Words is cause = absurd cause.1
    go (faults.Scenario line reason) is cause = let said = if_some _ before.left text left cause.1 in absurd (said_or_wrong text c line reason reads said.1)
    go (faults.Limit quantity count) is cause = let said = if_some _ before.left text left cause.1 in absurd (said_or_too_much text c quantity count reads said.1)
    go faults.Read is cause = absurd (no_read cause.1.1)
    go faults.Write is cause = absurd cause.1
    go faults.Memory is cause = inr is
    go (faults.Schedule turn) is cause = absurd cause.0

pub measure_ends : {k : ℕ} {before now : Outside} → Exits (Some asks.Measure) k before now → (text : List ℕ) (pages : List LaunchedPage) → before.left ≡ Some text → SaysPages text pages
    → (Rose before.read_faults now.read_faults → ⊥) → (Rose before.write_faults now.write_faults → ⊥) → (k ≡ 0) ⊎ (k ≡ 7)
measure_ends {k} {before} {now} exits text pages left says no_read no_write = by_status exits ((k ≡ 0) ⊎ (k ≡ 7))
    (λ zero out. inl zero) (λ six out. absurd (no_write out.1)) (λ fails. go fails.fault fails.status_is fails.cause)
  where
    go : (fault : CommandFault) → k ≡ status_of fault → HasMeasureCause before.left now.left before.read_faults now.read_faults fault → (k ≡ 0) ⊎ (k ≡ 7)
    go faults.Words is cause = absurd cause
    go (faults.Scenario line reason) is cause = let said = if_some _ before.left text left cause in absurd (says_or_refuses text pages line reason says said.1)
    go (faults.Limit quantity count) is cause = let said = if_some _ before.left text left cause in let long = said.1.long in let short = says.short in absurd (omega (arith, long, short))
    go faults.Read is cause = absurd (no_read cause.1)
    go faults.Write is cause = absurd cause
    go faults.Memory is cause = inr is
    go (faults.Schedule turn) is cause = absurd cause

-- 0: the text was read to its end
outputs_read : (asked : Option Asked) (left now : Option (List ℕ)) (P : List ℕ → Type 0) → asks_text asked ≡ true → Outputs asked left now P → IsRead left now
outputs_read None left now P reads out = absurd out
outputs_read (Some asks.Replay) left now P reads out = text_read left now _ out
outputs_read (Some asks.Run) left now P reads out = text_read left now _ out
outputs_read (Some asks.Measure) left now P reads out = text_read left now _ out
outputs_read (Some (asks.Drawn number what)) left now P reads out = absurd (false≢true reads)

pub done_read : {asked : Option Asked} {k : ℕ} {before now : Outside} → Exits asked k before now → k ≡ 0 → asks_text asked ≡ true → IsRead before.left now.left
done_read {asked} {k} {before} {now} exits zero reads = outputs_read asked before.left now.left (Adds before.written now.written) reads (exits.done zero)

-- the headline of `replay`
pub done_run : {k : ℕ} {before now : Outside} → Exits (Some asks.Replay) k before now → k ≡ 0 → SaysRun before.left
done_run {k} {before} {now} exits zero = run_said before.left now.left (λ c. Adds before.written now.written (report_of c (order_of c))) (exits.done zero)

pub done_report : {k : ℕ} {before now : Outside} → Exits (Some asks.Replay) k before now → k ≡ 0 → ForScenario before.left (λ c. Adds before.written now.written (report_of c (order_of c)))
done_report {k} {before} {now} exits zero =
    for_scenario before.left now.left (λ c. IsDefined c (order_of c) × Adds before.written now.written (report_of c (order_of c))) (λ c. Adds before.written now.written (report_of c (order_of c))) (exits.done zero) (λ c valid is. is.1)

pub done_ordered : {k : ℕ} {before now : Outside} → Exits (Some asks.Replay) k before now → k ≡ 0 → ForScenario before.left (λ c. IsOrdered c (order_of c))
done_ordered {k} {before} {now} exits zero =
    for_scenario before.left now.left (λ c. IsDefined c (order_of c) × Adds before.written now.written (report_of c (order_of c))) (λ c. IsOrdered c (order_of c)) (exits.done zero) (λ c valid is. run_is_ordered c (order_of c) is.0)

pub done_legal : {k : ℕ} {before now : Outside} → Exits (Some asks.Replay) k before now → k ≡ 0 → ForScenario before.left (λ c. AreLegal c (order_of c))
done_legal {k} {before} {now} exits zero =
    for_scenario before.left now.left (λ c. IsDefined c (order_of c) × Adds before.written now.written (report_of c (order_of c))) (λ c. AreLegal c (order_of c)) (exits.done zero) (λ c valid is. guests_are_legal c (order_of c) (valid_is_sound c valid) is.0)

-- a replay's report, in the words of both commands
replay_reported : (c : Scenario) (Writes : List ℕ → Type 0) → Valid c → IsDefined c (order_of c) → Writes (report_of c (order_of c)) → IsReported false c Writes
replay_reported c Writes valid defined writes = record {
  schedule = order_of c;
  chosen = refl;
  defined = defined;
  ordered = run_is_ordered c (order_of c) defined;
  legal = guests_are_legal c (order_of c) (valid_is_sound c valid) defined;
  spelled = run_spelled c (order_of c);
  written = writes;
}

outputs_reported : (asked : Option Asked) (left now : Option (List ℕ)) (P : List ℕ → Type 0) → asks_scenario asked ≡ true → Outputs asked left now P → ReadsText left now (SaysOne (λ c. IsReported (asks_run asked) c P))
outputs_reported None left now P reads out = absurd out
outputs_reported (Some asks.Replay) None now P reads out = tt
outputs_reported (Some asks.Replay) (Some text) now P reads out =
    let one = out.1 in
    (out.0, (one.0, one.1, replay_reported one.0 P (said_valid text one.0 one.1) one.2.0 one.2.1))
outputs_reported (Some asks.Run) left now P reads out = out
outputs_reported (Some asks.Measure) left now P reads out = absurd (false≢true reads)
outputs_reported (Some (asks.Drawn number what)) left now P reads out = absurd (false≢true reads)

some_said : (left now : Option (List ℕ)) (P : List ℕ → Type 0) → ReadsText left now P → IfSome left P
some_said None now P reads = tt
some_said (Some text) now P reads = reads.1

-- that of `replay` and `run`; whether it is `run` is b
pub done_reported : {asked : Option Asked} {k : ℕ} {before now : Outside} (b : Bool) → b ≡ asks_run asked → Exits asked k before now → k ≡ 0 → asks_scenario asked ≡ true
    → IfSome before.left (SaysOne (λ c. IsReported b c (Adds before.written now.written)))
done_reported {asked} {k} {before} {now} b is exits zero reads =
    subst (λ (x : Bool). IfSome before.left (SaysOne (λ c. IsReported x c (Adds before.written now.written)))) (sym is)
    (some_said before.left now.left (SaysOne (λ c. IsReported (asks_run asked) c (Adds before.written now.written))) (outputs_reported asked before.left now.left (Adds before.written now.written) reads (exits.done zero)))

-- 6: a front of the report
pub cut_reported : {asked : Option Asked} {k : ℕ} {before now : Outside} (b : Bool) → b ≡ asks_run asked → Exits asked k before now → k ≡ 6 → asks_scenario asked ≡ true
    → ReadsText before.left now.left (SaysOne (λ c. IsReported b c (AddsPrefix before.written now.written)))
cut_reported {asked} {k} {before} {now} b is exits six reads =
    subst (λ (x : Bool). ReadsText before.left now.left (SaysOne (λ c. IsReported x c (AddsPrefix before.written now.written)))) (sym is)
    (outputs_reported asked before.left now.left (AddsPrefix before.written now.written) reads (exits.cut six).0)

-- what is so of the report of what a fleet keeps, behind the end of the command
pub fleet_done : (outcome : Result (Unit {0}) CommandFault) (k : ℕ) (left : Option (List ℕ)) (opens : Option Scenario) (kept : Option Kept) (old mid now : Option (List ℕ)) (between after : ℕ)
    → k ≡ exit_status outcome → Concludes outcome mid now between after → OnOk outcome (Fleets left opens kept (Adds old mid)) → k ≡ 0 → Fleets left opens kept (Adds old now)
fleet_done (Ok done) k left opens kept old mid now between after is wrote holds zero = subst (λ (w : Option (List ℕ)). Fleets left opens kept (Adds old w)) (sym wrote.0) holds
fleet_done (Err fault) k left opens kept old mid now between after is wrote holds zero = let known = status_between fault in absurd (omega (arith, zero, is, known.0))

pub fleet_stopped : (outcome : Result (Unit {0}) CommandFault) (k : ℕ) (left : Option (List ℕ)) (opens : Option Scenario) (kept : Option Kept) (old mid now : Option (List ℕ)) (between after : ℕ)
    → k ≡ exit_status outcome → Concludes outcome mid now between after → OnCut outcome (Fleets left opens kept (AddsPrefix old mid)) → k ≡ 6 → Fleets left opens kept (AddsPrefix old now)
unfolding error_line
fleet_stopped (Err faults.Write) k left opens kept old mid now between after is wrote holds six = cut_fleet_kept left opens kept old mid now holds (line_nothing mid now between after wrote)
fleet_stopped outcome k left opens kept old mid now between after is wrote holds six = absurd (omega (arith, six, is))
