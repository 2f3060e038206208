-- What an exit status tells, clause by clause.
use Rattle.std.proofs.Common.{◌≡◌, ◌≢◌, eqb, ℕ, ◌+◌, ◌≤◌, ◌<◌, ◌⊎◌, true, false, List, length, Option, None, Some, IfSome, Result, Ok, Err, refl, sym, ap, ◌∙◌, subst, arith, inl, inr}
use Rattle.std.proofs.lemmas.Bool.Decides.{eqb_tells}
use Rattle.std.specs.Prelude.{codes}
use Rattle.snp_model.specs.declared.reading.Quantity.{Quantity}
use Rattle.snp_model.specs.declared.reading.Quantity.TheVariants.{Bytes}
use Rattle.snp_model.specs.declared.reading.Reason.{Reason}
use Rattle.snp_model.specs.Limits.{most}
use Rattle.snp_model.specs.Outside.{Adds, AddsPrefix, Rose}
use Rattle.snp_model.specs.Reading.{Refuses}
use Rattle.snp_top.specs.declared.fault.CommandFault.{CommandFault}
use Rattle.snp_top.specs.declared.fault.CommandFault.TheVariants as faults
use Rattle.snp_top.specs.declared.words.Asked.{Asked}
use Rattle.snp_top.specs.declared.words.Asked.TheVariants as asks
use Rattle.snp_top.specs.Batch.{Concludes, Outside, SaysBadTurn, SaysLimit, SaysRefusal, WritesLine, WritesNothing, Wrote}
use Rattle.snp_top.specs.Exits.{ComesTo, Exits, Fails, HasCause, Outputs, Stops}
use Rattle.snp_top.specs.Faults.{error_line, exit_status, limit_line, refusal_line, status_of}
use Rattle.snp_top.specs.Input.{TakesAtMost}
use Rattle.snp_top.specs.Measures.{SaysPageRefusal}
use Rattle.snp_top.specs.Replays.{ReadsText}
use Rattle.snp_top.specs.Words.{asks_scenario}
use Rattle.snp_top.proofs.BatchLaws.{status_between}
use Rattle.snp_top.proofs.CauseLaws.{passes_long}
use Rattle.snp_top.proofs.KeptLaws.{line_nothing, outputs_as, prefix_kept, rose_kept}
use Rattle.snp_top.proofs.MeasureLaws.{long_read}

-- a failed write is no other fault
no_write_cause : (asked : Option Asked) (left now : Option (List ℕ)) (before after : ℕ) → HasCause asked left now before after faults.Write → ⊥
no_write_cause None left now before after cause = absurd (cc)
no_write_cause (Some asks.Replay) left now before after cause = cause
no_write_cause (Some asks.Run) left now before after cause = cause.1
no_write_cause (Some asks.Measure) left now before after cause = cause
no_write_cause (Some (asks.Drawn number what)) left now before after cause = absurd (cc)

-- a fault before anything is written
pub stops_there : (asked : Option Asked) (fault : CommandFault) (before now : Outside) → HasCause asked before.left now.left before.read_faults now.read_faults fault
    → WritesNothing before.written now.written before.write_faults now.write_faults → Stops asked fault before now
stops_there asked faults.Words before now cause nothing = (cause, nothing)
stops_there asked (faults.Scenario line reason) before now cause nothing = (cause, nothing)
stops_there asked (faults.Limit quantity count) before now cause nothing = (cause, nothing)
stops_there asked faults.Read before now cause nothing = (cause, nothing)
stops_there asked faults.Write before now cause nothing = absurd (no_write_cause asked before.left now.left before.read_faults now.read_faults cause)
stops_there asked faults.Memory before now cause nothing = (cause, nothing)
stops_there asked (faults.Schedule turn) before now cause nothing = (cause, nothing)

-- the line of a fault, behind what was there
line_behind : (old mid now : Option (List ℕ)) (before between after : ℕ) (line : List ℕ) → WritesNothing old mid before between → WritesLine mid now between after line → WritesLine old now before after line
line_behind old mid now before between after line nothing wrote =
    subst (λ (o : Option (List ℕ)). WritesLine o now before after line) nothing.0 (subst (λ (n : ℕ). WritesLine mid now n after line) nothing.1 wrote)

-- a command that failed ends with its line
ends_failed : (asked : Option Asked) (fault : CommandFault) (status : ℕ) (before : Outside) (left : Option (List ℕ)) (reads : ℕ) (mid now : Option (List ℕ)) (between after : ℕ)
    → status_of fault ≢ 6 → HasCause asked before.left left before.read_faults reads fault → WritesNothing before.written mid before.write_faults between → status ≡ status_of fault
    → WritesLine mid now between after (error_line fault) → between ≤ after → TakesAtMost (most Bytes + 1) before.left left → (before.read_faults ≤ reads) × (before.write_faults ≤ between)
    → Exits asked status before (record { left = left; read_faults = reads; written = now; write_faults = after })
ends_failed asked fault status before left reads mid now between after other cause nothing is wrote later taken counts =
    let known = status_between fault in
    record {
      done = λ zero. absurd (omega (arith, zero, is, known.0));
      cut = λ six. absurd (other (sym is ∙ six));
      failed = λ some whole. record { fault = fault; status_is = is; cause = cause; line = line_behind before.written mid now before.write_faults between after (error_line fault) nothing wrote };
      taken = taken;
      later = (counts.0, omega (arith, counts.1, later));
    }

-- a command ends
pub concluded : (asked : Option Asked) (outcome : Result (Unit {0}) CommandFault) (status : ℕ) (before : Outside) (left : Option (List ℕ)) (reads : ℕ) (mid now : Option (List ℕ)) (between after : ℕ)
    → ComesTo asked outcome before (record { left = left; read_faults = reads; written = mid; write_faults = between }) → status ≡ exit_status outcome → Concludes outcome mid now between after
    → between ≤ after → TakesAtMost (most Bytes + 1) before.left left → (before.read_faults ≤ reads) × (before.write_faults ≤ between)
    → Exits asked status before (record { left = left; read_faults = reads; written = now; write_faults = after })
unfolding error_line
concluded asked (Ok done) status before left reads mid now between after came is wrote later taken counts = record {
  done = λ zero. subst (λ (w : Option (List ℕ)). Outputs asked before.left left (Adds before.written w)) (sym wrote.0) came;
  cut = λ six. absurd (omega (arith, six, is));
  failed = λ some whole. absurd (some is);
  taken = taken;
  later = (counts.0, omega (arith, counts.1, later));
}
concluded asked (Err faults.Write) status before left reads mid now between after came is wrote later taken counts =
    let nothing = line_nothing mid now between after wrote in
    record {
      done = λ zero. absurd (omega (arith, zero, is));
      cut = λ six. (outputs_as asked before.left left (AddsPrefix before.written mid) (AddsPrefix before.written now) (λ bytes adds. prefix_kept before.written mid now bytes adds nothing) came.0, rose_kept before.write_faults between after came.1 later);
      failed = λ some whole. absurd (whole is);
      taken = taken;
      later = (counts.0, omega (arith, counts.1, later));
    }
concluded asked (Err faults.Words) status before left reads mid now between after came is wrote later taken counts =
    ends_failed asked faults.Words status before left reads mid now between after (λ e. absurd (omega (arith, e))) came.0 came.1 is wrote later taken counts
concluded asked (Err (faults.Scenario line reason)) status before left reads mid now between after came is wrote later taken counts =
    ends_failed asked (faults.Scenario line reason) status before left reads mid now between after (λ e. absurd (omega (arith, e))) came.0 came.1 is wrote later taken counts
concluded asked (Err (faults.Limit quantity count)) status before left reads mid now between after came is wrote later taken counts =
    ends_failed asked (faults.Limit quantity count) status before left reads mid now between after (λ e. absurd (omega (arith, e))) came.0 came.1 is wrote later taken counts
concluded asked (Err faults.Read) status before left reads mid now between after came is wrote later taken counts =
    ends_failed asked faults.Read status before left reads mid now between after (λ e. absurd (omega (arith, e))) came.0 came.1 is wrote later taken counts
concluded asked (Err faults.Memory) status before left reads mid now between after came is wrote later taken counts =
    ends_failed asked faults.Memory status before left reads mid now between after (λ e. absurd (omega (arith, e))) came.0 came.1 is wrote later taken counts
concluded asked (Err (faults.Schedule turn)) status before left reads mid now between after came is wrote later taken counts =
    ends_failed asked (faults.Schedule turn) status before left reads mid now between after (λ e. absurd (omega (arith, e))) came.0 came.1 is wrote later taken counts

-- three ways in which a command exits
pub by_status : {asked : Option Asked} {k : ℕ} {before now : Outside} → Exits asked k before now → (R : Type 0)
    → (k ≡ 0 → Outputs asked before.left now.left (Adds before.written now.written) → R)
    → (k ≡ 6 → Outputs asked before.left now.left (AddsPrefix before.written now.written) × Rose before.write_faults now.write_faults → R)
    → (Fails asked k before now → R) → R
by_status {asked} {k} exits R done cut failed = first (eqb_tells k 0)
  where
    second : k ≢ 0 → ((eqb k 6 ≡ true) × (k ≡ 6)) ⊎ ((eqb k 6 ≡ false) × (k ≢ 6)) → R
    second some (inl six) = cut six.1 (exits.cut six.1)
    second some (inr other) = failed (exits.failed some other.1)

    first : ((eqb k 0 ≡ true) × (k ≡ 0)) ⊎ ((eqb k 0 ≡ false) × (k ≢ 0)) → R
    first (inl zero) = done zero.1 (exits.done zero.1)
    first (inr some) = second some.1 (eqb_tells k 6)

-- there are no other statuses
pub exit_known : {asked : Option Asked} {k : ℕ} {before now : Outside} → Exits asked k before now → (k ≤ 8) × (k ≢ 1)
exit_known {asked} {k} exits = by_status exits ((k ≤ 8) × (k ≢ 1))
    (λ zero out. (omega (arith, zero), λ e. absurd (omega (arith, zero, e))))
    (λ six out. (omega (arith, six), λ e. absurd (omega (arith, six, e))))
    (λ fails. let known = status_between fails.fault in let is = fails.status_is in (omega (arith, is, known.1), λ e. absurd (omega (arith, is, known.0, e))))

-- a status but 0 and 6 is that of a fault
fault_of : {asked : Option Asked} {k : ℕ} {before now : Outside} → Exits asked k before now → (n : ℕ) → k ≡ n → n ≢ 0 → n ≢ 6 → Fails asked k before now
fault_of exits n is some whole = exits.failed (λ e. some (sym is ∙ e)) (λ e. whole (sym is ∙ e))

-- 2
pub exit_words_line : {asked : Option Asked} {k : ℕ} {before now : Outside} → Exits asked k before now → k ≡ 2 → Wrote before now (codes "error words\n")
unfolding error_line
exit_words_line {asked} {k} {before} {now} exits meant =
    let fails = fault_of exits 2 meant (λ e. absurd (omega (arith, e))) (λ e. absurd (omega (arith, e))) in
    go fails.fault fails.status_is fails.line
  where
    go : (fault : CommandFault) → k ≡ status_of fault → Wrote before now (error_line fault) → Wrote before now (error_line faults.Words)
    go faults.Words is line = line
    go fault is line = absurd (omega (arith, meant, is))

asks_nothing : (asked : Option Asked) (left now : Option (List ℕ)) (before after : ℕ) → HasCause asked left now before after faults.Words → asked ≡ None
asks_nothing None left now before after cause = refl
asks_nothing (Some asks.Replay) left now before after cause = absurd cause
asks_nothing (Some asks.Run) left now before after cause = absurd cause.1
asks_nothing (Some asks.Measure) left now before after cause = absurd cause
asks_nothing (Some (asks.Drawn number what)) left now before after cause = absurd (cc)

pub exit_nothing : {asked : Option Asked} {k : ℕ} {before now : Outside} → Exits asked k before now → k ≡ 2 → asked ≡ None
exit_nothing {asked} {k} {before} {now} exits meant =
    let fails = fault_of exits 2 meant (λ e. absurd (omega (arith, e))) (λ e. absurd (omega (arith, e))) in
    go fails.fault fails.status_is fails.cause
  where
    go : (fault : CommandFault) → k ≡ status_of fault → HasCause asked before.left now.left before.read_faults now.read_faults fault → asked ≡ None
    go faults.Words is cause = asks_nothing asked before.left now.left before.read_faults now.read_faults cause
    go fault is cause = absurd (omega (arith, meant, is))

nothing_status : (k : ℕ) (before now : Outside) → Exits None k before now → k ≡ 2
nothing_status k before now exits = by_status exits (k ≡ 2) (λ zero out. absurd out) (λ six out. absurd out.0) (λ fails. fails.status_is ∙ ap status_of fails.cause)

pub exit_where_nothing : {asked : Option Asked} {k : ℕ} {before now : Outside} → Exits asked k before now → asked ≡ None → k ≡ 2
exit_where_nothing {asked} {k} {before} {now} exits none = nothing_status k before now (subst (λ (a : Option Asked). Exits a k before now) none exits)

-- 3
exit_refused : {asked : Option Asked} {k : ℕ} {before now : Outside} → Exits asked k before now → k ≡ 3
    → (line : ℕ) × (reason : Reason) × HasCause asked before.left now.left before.read_faults now.read_faults (faults.Scenario line reason) × Wrote before now (refusal_line line reason)
unfolding error_line
exit_refused {asked} {k} {before} {now} exits meant =
    let fails = fault_of exits 3 meant (λ e. absurd (omega (arith, e))) (λ e. absurd (omega (arith, e))) in
    go fails.fault fails.status_is fails.cause fails.line
  where
    go : (fault : CommandFault) → k ≡ status_of fault → HasCause asked before.left now.left before.read_faults now.read_faults fault → Wrote before now (error_line fault)
        → (line : ℕ) × (reason : Reason) × HasCause asked before.left now.left before.read_faults now.read_faults (faults.Scenario line reason) × Wrote before now (refusal_line line reason)
    go (faults.Scenario line reason) is cause wrote = (line, reason, cause, wrote)
    go fault is cause wrote = absurd (omega (arith, meant, is))

scenario_cause : (asked : Option Asked) (left now : Option (List ℕ)) (before after line : ℕ) (reason : Reason) → asks_scenario asked ≡ true → HasCause asked left now before after (faults.Scenario line reason)
    → ReadsText left now (λ text. Refuses text line reason)
scenario_cause None left now before after line reason reads cause = absurd (cc)
scenario_cause (Some asks.Replay) left now before after line reason reads cause = cause
scenario_cause (Some asks.Run) left now before after line reason reads cause = cause.1
scenario_cause (Some asks.Measure) left now before after line reason reads cause = absurd (cc)
scenario_cause (Some (asks.Drawn number what)) left now before after line reason reads cause = absurd (cc)

pub exit_refusal : {asked : Option Asked} {k : ℕ} {before now : Outside} → Exits asked k before now → k ≡ 3 → asks_scenario asked ≡ true
    → SaysRefusal before.left now.left before.written now.written before.write_faults now.write_faults
exit_refusal {asked} {k} {before} {now} exits meant reads =
    let refused = exit_refused exits meant in
    (refused.0, refused.1, scenario_cause asked before.left now.left before.read_faults now.read_faults refused.0 refused.1 reads refused.2, refused.3)

pub exit_page_refusal : {k : ℕ} {before now : Outside} → Exits (Some asks.Measure) k before now → k ≡ 3
    → SaysPageRefusal before.left now.left before.written now.written before.write_faults now.write_faults
exit_page_refusal exits meant = exit_refused exits meant

-- 4
exit_passed : {asked : Option Asked} {k : ℕ} {before now : Outside} → Exits asked k before now → k ≡ 4
    → (quantity : Quantity) × (count : ℕ) × HasCause asked before.left now.left before.read_faults now.read_faults (faults.Limit quantity count) × Wrote before now (limit_line quantity count)
unfolding error_line
exit_passed {asked} {k} {before} {now} exits meant =
    let fails = fault_of exits 4 meant (λ e. absurd (omega (arith, e))) (λ e. absurd (omega (arith, e))) in
    go fails.fault fails.status_is fails.cause fails.line
  where
    go : (fault : CommandFault) → k ≡ status_of fault → HasCause asked before.left now.left before.read_faults now.read_faults fault → Wrote before now (error_line fault)
        → (quantity : Quantity) × (count : ℕ) × HasCause asked before.left now.left before.read_faults now.read_faults (faults.Limit quantity count) × Wrote before now (limit_line quantity count)
    go (faults.Limit quantity count) is cause wrote = (quantity, count, cause, wrote)
    go fault is cause wrote = absurd (omega (arith, meant, is))

limit_of : (asked : Option Asked) (before now : Outside) (quantity : Quantity) (count : ℕ) → HasCause asked before.left now.left before.read_faults now.read_faults (faults.Limit quantity count)
    → Wrote before now (limit_line quantity count) → SaysLimit before.left now.left before.written now.written before.write_faults now.write_faults
limit_of None before now quantity count cause wrote = absurd (cc)
limit_of (Some asks.Replay) before now quantity count cause wrote = (quantity, count, cause, wrote)
limit_of (Some asks.Run) before now quantity count cause wrote = (quantity, count, cause.1, wrote)
limit_of (Some asks.Measure) before now quantity count cause wrote = (quantity, count, passes_long before.left now.left quantity count cause, wrote)
limit_of (Some (asks.Drawn number what)) before now quantity count cause wrote = absurd (cc)

pub exit_limit : {asked : Option Asked} {k : ℕ} {before now : Outside} → Exits asked k before now → k ≡ 4
    → SaysLimit before.left now.left before.written now.written before.write_faults now.write_faults
exit_limit {asked} {k} {before} {now} exits meant = let passed = exit_passed exits meant in limit_of asked before now passed.0 passed.1 passed.2 passed.3

pub exit_too_long : {k : ℕ} {before now : Outside} → Exits (Some asks.Measure) k before now → k ≡ 4 → IfSome before.left (λ text. most Bytes < length text)
exit_too_long {k} {before} {now} exits meant = let passed = exit_passed exits meant in long_read before.left now.left passed.0 passed.1 passed.2

-- 5
read_cause : (asked : Option Asked) (left now : Option (List ℕ)) (before after : ℕ) → HasCause asked left now before after faults.Read → TakesAtMost (most Bytes) left now × Rose before after
read_cause None left now before after cause = absurd (cc)
read_cause (Some asks.Replay) left now before after cause = cause
read_cause (Some asks.Run) left now before after cause = cause.1
read_cause (Some asks.Measure) left now before after cause = cause
read_cause (Some (asks.Drawn number what)) left now before after cause = absurd (cc)

exit_read : {asked : Option Asked} {k : ℕ} {before now : Outside} → Exits asked k before now → k ≡ 5
    → (TakesAtMost (most Bytes) before.left now.left × Rose before.read_faults now.read_faults) × Wrote before now (codes "error read\n")
unfolding error_line
exit_read {asked} {k} {before} {now} exits meant =
    let fails = fault_of exits 5 meant (λ e. absurd (omega (arith, e))) (λ e. absurd (omega (arith, e))) in
    go fails.fault fails.status_is fails.cause fails.line
  where
    go : (fault : CommandFault) → k ≡ status_of fault → HasCause asked before.left now.left before.read_faults now.read_faults fault → Wrote before now (error_line fault)
        → (TakesAtMost (most Bytes) before.left now.left × Rose before.read_faults now.read_faults) × Wrote before now (error_line faults.Read)
    go faults.Read is cause wrote = (read_cause asked before.left now.left before.read_faults now.read_faults cause, wrote)
    go fault is cause wrote = absurd (omega (arith, meant, is))

pub exit_read_failed : {asked : Option Asked} {k : ℕ} {before now : Outside} → Exits asked k before now → k ≡ 5 → Rose before.read_faults now.read_faults
exit_read_failed exits meant = (exit_read exits meant).0.1

pub exit_read_stopped : {asked : Option Asked} {k : ℕ} {before now : Outside} → Exits asked k before now → k ≡ 5 → TakesAtMost (most Bytes) before.left now.left
exit_read_stopped exits meant = (exit_read exits meant).0.0

pub exit_read_line : {asked : Option Asked} {k : ℕ} {before now : Outside} → Exits asked k before now → k ≡ 5 → Wrote before now (codes "error read\n")
exit_read_line exits meant = (exit_read exits meant).1

-- 6
pub exit_write_failed : {asked : Option Asked} {k : ℕ} {before now : Outside} → Exits asked k before now → k ≡ 6 → Rose before.write_faults now.write_faults
exit_write_failed exits meant = (exits.cut meant).1

-- 7
pub exit_memory_line : {asked : Option Asked} {k : ℕ} {before now : Outside} → Exits asked k before now → k ≡ 7 → Wrote before now (codes "error memory\n")
unfolding error_line
exit_memory_line {asked} {k} {before} {now} exits meant =
    let fails = fault_of exits 7 meant (λ e. absurd (omega (arith, e))) (λ e. absurd (omega (arith, e))) in
    go fails.fault fails.status_is fails.line
  where
    go : (fault : CommandFault) → k ≡ status_of fault → Wrote before now (error_line fault) → Wrote before now (error_line faults.Memory)
    go faults.Memory is line = line
    go fault is line = absurd (omega (arith, meant, is))

-- 8
turn_of : (asked : Option Asked) (left now : Option (List ℕ)) (before after : ℕ) (fault : CommandFault) → status_of fault ≡ 8 → HasCause asked left now before after fault → asked ≡ Some asks.Replay
turn_of None left now before after fault is cause = let two = ap status_of cause in absurd (omega (arith, is, two))
turn_of (Some asks.Replay) left now before after fault is cause = refl
turn_of (Some asks.Run) left now before after (faults.Schedule turn) is cause = absurd cause.0
turn_of (Some asks.Run) left now before after fault is cause = absurd (omega (arith, is))
turn_of (Some asks.Measure) left now before after (faults.Schedule turn) is cause = absurd cause
turn_of (Some asks.Measure) left now before after fault is cause = absurd (omega (arith, is))
turn_of (Some (asks.Drawn number what)) left now before after fault is cause = let seven = ap status_of cause in absurd (omega (arith, is, seven))

pub exit_turn_asked : {asked : Option Asked} {k : ℕ} {before now : Outside} → Exits asked k before now → k ≡ 8 → asked ≡ Some asks.Replay
exit_turn_asked {asked} {k} {before} {now} exits meant =
    let fails = fault_of exits 8 meant (λ e. absurd (omega (arith, e))) (λ e. absurd (omega (arith, e))) in
    turn_of asked before.left now.left before.read_faults now.read_faults fails.fault (sym fails.status_is ∙ meant) fails.cause

replay_turn : {k : ℕ} {before now : Outside} → Exits (Some asks.Replay) k before now → k ≡ 8 → SaysBadTurn before.left now.left before.written now.written before.write_faults now.write_faults
unfolding error_line
replay_turn {k} {before} {now} exits meant =
    let fails = fault_of exits 8 meant (λ e. absurd (omega (arith, e))) (λ e. absurd (omega (arith, e))) in
    go fails.fault fails.status_is fails.cause fails.line
  where
    go : (fault : CommandFault) → k ≡ status_of fault → HasCause (Some asks.Replay) before.left now.left before.read_faults now.read_faults fault → Wrote before now (error_line fault)
        → SaysBadTurn before.left now.left before.written now.written before.write_faults now.write_faults
    go (faults.Schedule turn) is cause wrote = (turn.entry, turn.actor, cause, wrote)
    go fault is cause wrote = absurd (omega (arith, meant, is))

pub exit_bad_turn : {asked : Option Asked} {k : ℕ} {before now : Outside} → Exits asked k before now → k ≡ 8 → SaysBadTurn before.left now.left before.written now.written before.write_faults now.write_faults
exit_bad_turn {asked} {k} {before} {now} exits meant = replay_turn (subst (λ (a : Option Asked). Exits a k before now) (exit_turn_asked exits meant) exits) meant
