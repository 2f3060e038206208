-- What a replay answers, before anything is written. This project's own.
use Rattle.std.specs.Prelude.{◌≡◌, ℕ, ◌+◌, List, [], drop, Option, Some, IfSome, Result, Ok, Err}
use Rattle.snp_model.specs.declared.reading.Quantity.TheVariants.{Bytes}
use Rattle.snp_model.specs.declared.scenario.Scenario.{Scenario}
use Rattle.snp_model.specs.Ending.{lines_of}
use Rattle.snp_model.specs.Limits.{most}
use Rattle.snp_model.specs.Opening.{opening}
use Rattle.snp_model.specs.Outside.{Rose}
use Rattle.snp_model.specs.Reading.{Passes, Reads, Refuses, order_of}
use Rattle.snp_model.specs.Run.{IsDefined, run_of, state_after}
use Rattle.snp_top.specs.declared.fault.CommandFault.{CommandFault}
use Rattle.snp_top.specs.declared.fault.CommandFault.TheVariants as faults
use Rattle.snp_top.specs.declared.replay.Played.{Played}
use Rattle.snp_top.specs.Input.{TakesAtMost}
use Rattle.snp_top.specs.Schedule.{IsFirstBad}

-- the schedule of a scenario makes a run, and these are its version, its events and its guests at the end
pub record IsPlayed (c : Scenario) (played : Played) : Type 0 where
  pub defined : IsDefined c (order_of c)
  pub version : played.version ≡ c.version
  pub events : played.journal.list ≡ run_of c (order_of c)
  pub guests : played.guests.items ≡ lines_of (state_after c (order_of c))

-- what came of running a scenario; want of memory is free
abbrev pub RunsTo : Scenario → Result Played CommandFault → Type 0
RunsTo c (Ok played) = IsPlayed c played
RunsTo c (Err (faults.Schedule turn)) = IsFirstBad (opening c) (order_of c) turn.entry turn.actor
RunsTo c (Err faults.Memory) = Unit {0}
RunsTo c (Err fault) = ⊥

-- a source was read to its end, where it tells its bytes
abbrev pub IsRead : Option (List ℕ) → Option (List ℕ) → Type 0
IsRead left now = IfSome left (λ text. now ≡ Some [])

-- a source was read to its end, and this holds of the text that it had left
abbrev pub ReadsText : Option (List ℕ) → Option (List ℕ) → (List ℕ → Type 0) → Type 0
ReadsText left now P = IfSome left (λ text. (now ≡ Some []) × P text)

-- this holds of the text that a source had left, of which all was taken, or the first bytes where it is too long
abbrev pub ReadsSome : Option (List ℕ) → Option (List ℕ) → (List ℕ → Type 0) → Type 0
ReadsSome left now P = IfSome left (λ text. (now ≡ Some (drop (most Bytes + 1) text)) × P text)

-- the text says a scenario, and this holds of it
abbrev pub SaysOne : (Scenario → Type 0) → List ℕ → Type 0
SaysOne P text = (c : Scenario) × Reads text c × P c

-- what keeps the text that a source had left from being replayed; want of memory is free
abbrev pub HasReplayCause : Option (List ℕ) → Option (List ℕ) → ℕ → ℕ → CommandFault → Type 0
HasReplayCause left now before after (faults.Scenario line reason) = ReadsText left now (λ text. Refuses text line reason)
HasReplayCause left now before after (faults.Limit quantity count) = ReadsSome left now (λ text. Passes text quantity count)
HasReplayCause left now before after faults.Read = TakesAtMost (most Bytes) left now × Rose before after
HasReplayCause left now before after faults.Memory = Unit {0}
HasReplayCause left now before after (faults.Schedule turn) = ReadsText left now (SaysOne (λ c. IsFirstBad (opening c) (order_of c) turn.entry turn.actor))
HasReplayCause left now before after fault = ⊥

-- what came of replaying it
abbrev pub ReplaysTo : Option (List ℕ) → Option (List ℕ) → ℕ → ℕ → Result Played CommandFault → Type 0
ReplaysTo left now before after (Ok played) = ReadsText left now (SaysOne (λ c. IsPlayed c played))
ReplaysTo left now before after (Err fault) = HasReplayCause left now before after fault
