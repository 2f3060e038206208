-- What an exit status tells: what the command that was asked for has read and written. This project's own.
use Rattle.std.specs.Prelude.{◌≡◌, ◌≢◌, ℕ, ◌+◌, ◌≤◌, true, List, Option, None, Some, Result, Ok, Err}
use Rattle.snp_model.specs.declared.reading.Quantity.TheVariants.{Bytes}
use Rattle.snp_model.specs.Ending.{report_of}
use Rattle.snp_model.specs.Limits.{most}
use Rattle.snp_model.specs.MeasureText.{digest_line}
use Rattle.snp_model.specs.Outside.{Adds, AddsPrefix, Rose}
use Rattle.snp_model.specs.Reading.{order_of}
use Rattle.snp_model.specs.Run.{IsDefined}
use Rattle.snp_top.specs.declared.fault.CommandFault.{CommandFault}
use Rattle.snp_top.specs.declared.fault.CommandFault.TheVariants as faults
use Rattle.snp_top.specs.declared.words.Asked.{Asked}
use Rattle.snp_top.specs.declared.words.Asked.TheVariants as asks
use Rattle.snp_top.specs.Batch.{Outside, WritesNothing, Wrote}
use Rattle.snp_top.specs.Drills.{SaysDrawn}
use Rattle.snp_top.specs.Faults.{error_line, status_of}
use Rattle.snp_top.specs.Input.{TakesAtMost}
use Rattle.snp_top.specs.Measures.{HasMeasureCause, SaysDigest}
use Rattle.snp_top.specs.Replays.{HasReplayCause, ReadsText, SaysOne}
use Rattle.snp_top.specs.Runs.{IsNoTurn, IsReported}
use Rattle.snp_top.specs.Words.{command_of}

-- the text was read to its end, where the command reads one, and this is so of the output that the command makes of it: `replay`
-- the report of the run that the order lines spell, `run` the report of one run in which every actor is finished, `measure` the
-- digest of the pages, and `gen` and `drill` what the number determines
abbrev pub Outputs : Option Asked → Option (List ℕ) → Option (List ℕ) → (List ℕ → Type 0) → Type 0
Outputs None left now Is = ⊥
Outputs (Some asks.Replay) left now Is = ReadsText left now (SaysOne (λ c. IsDefined c (order_of c) × Is (report_of c (order_of c))))
Outputs (Some asks.Run) left now Is = ReadsText left now (SaysOne (λ c. IsReported true c Is))
Outputs (Some asks.Measure) left now Is = ReadsText left now (SaysDigest (λ digest. Is (digest_line digest)))
Outputs (Some (asks.Drawn number what)) left now Is = SaysDrawn what number Is

-- where a fault but a failed write comes: that of the words where they ask for nothing, and the others by the text that was read and
-- by the count of the source's faults. Want of memory is free, and where no text is read there is no other
abbrev pub HasCause : Option Asked → Option (List ℕ) → Option (List ℕ) → ℕ → ℕ → CommandFault → Type 0
HasCause None left now before after fault = fault ≡ faults.Words
HasCause (Some asks.Replay) left now before after fault = HasReplayCause left now before after fault
HasCause (Some asks.Run) left now before after fault = IsNoTurn fault × HasReplayCause left now before after fault
HasCause (Some asks.Measure) left now before after fault = HasMeasureCause left now before after fault
HasCause (Some (asks.Drawn number what)) left now before after fault = fault ≡ faults.Memory

-- a command came to nothing
pub record Fails (asked : Option Asked) (status : ℕ) (before now : Outside) : Type 0 where
  pub fault : CommandFault
  -- the exit status is that of the fault
  pub status_is : status ≡ status_of fault
  -- the fault comes by its cause
  pub cause : HasCause asked before.left now.left before.read_faults now.read_faults fault
  -- its error line was written, or a front of it where writing failed
  pub line : Wrote before now (error_line fault)

-- a command exits with a status: what it has read and written, of the source and the sink before and after
pub record Exits (asked : Option Asked) (status : ℕ) (before now : Outside) : Type 0 where
  -- 0: all of its output was written, and nothing else
  pub done : status ≡ 0 → Outputs asked before.left now.left (Adds before.written now.written)
  -- 6: writing failed, and a front of its output was written
  pub cut : status ≡ 6 → Outputs asked before.left now.left (AddsPrefix before.written now.written) × Rose before.write_faults now.write_faults
  -- any other: a fault has this status and its cause, and its error line was written, or a front of it where writing failed
  pub failed : status ≢ 0 → status ≢ 6 → Fails asked status before now
  -- a front of the text was taken, at most one byte more than a text may have
  pub taken : TakesAtMost (most Bytes + 1) before.left now.left
  -- the counts of faults didn't fall
  pub later : (before.read_faults ≤ now.read_faults) × (before.write_faults ≤ now.write_faults)

-- this is told of the words, the status, and the source and the sink before and after, by what a command exits with
abbrev pub Tells : (List (List ℕ) → ℕ → Outside → Outside → Type 0) → Type 0
Tells P = (words : List (List ℕ)) (status : ℕ) (before now : Outside) → Exits (command_of words) status before now → P words status before now

-- why a command stops, before its error line: the sink failed under its output, or nothing is written yet
abbrev pub Stops : Option Asked → CommandFault → Outside → Outside → Type 0
Stops asked faults.Write before now =
    Outputs asked before.left now.left (AddsPrefix before.written now.written) × Rose before.write_faults now.write_faults
Stops asked fault before now =
    HasCause asked before.left now.left before.read_faults now.read_faults fault × WritesNothing before.written now.written before.write_faults now.write_faults

-- what a command comes to, before its error line
abbrev pub ComesTo : Option Asked → Result (Unit {0}) CommandFault → Outside → Outside → Type 0
ComesTo asked (Ok done) before now = Outputs asked before.left now.left (Adds before.written now.written)
ComesTo asked (Err fault) before now = Stops asked fault before now
