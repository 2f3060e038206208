-- What a measurement answers, and what is then read and written. This project's own.
use Rattle.std.specs.Prelude.{ℕ, List, Option}
use Rattle.snp_model.specs.declared.reading.Reason.{Reason}
use Rattle.snp_model.specs.declared.reading.Quantity.TheVariants.{Bytes}
use Rattle.snp_model.specs.Limits.{most}
use Rattle.snp_model.specs.MeasureText.{RefusesPages, SaysPages, digest_line}
use Rattle.snp_model.specs.Measurement.{LaunchedPage, measure}
use Rattle.snp_model.specs.Outside.{Adds, AddsPrefix, Rose}
use Rattle.snp_model.specs.Reading.{IsTooLong}
use Rattle.snp_top.specs.declared.fault.CommandFault.{CommandFault}
use Rattle.snp_top.specs.declared.fault.CommandFault.TheVariants as faults
use Rattle.snp_top.specs.Batch.{WritesLine}
use Rattle.snp_top.specs.Faults.{refusal_line}
use Rattle.snp_top.specs.Input.{TakesAtMost}
use Rattle.snp_top.specs.Replays.{ReadsSome, ReadsText}

-- the text is a measure text, and this holds of the launch digest of the pages that it says
abbrev pub SaysDigest : (List ℕ → Type 0) → List ℕ → Type 0
SaysDigest P text = (pages : List LaunchedPage) × SaysPages text pages × P (measure pages)

-- the text was read to its end, it is a measure text, and the line that tells the digest of its pages is written
abbrev pub WritesDigest : Option (List ℕ) → Option (List ℕ) → Option (List ℕ) → Option (List ℕ) → Type 0
WritesDigest left now old written = ReadsText left now (SaysDigest (λ digest. Adds old written (digest_line digest)))

-- the same, but that a front of the line is written
abbrev pub SaysCutDigest : Option (List ℕ) → Option (List ℕ) → Option (List ℕ) → Option (List ℕ) → Type 0
SaysCutDigest left now old written = ReadsText left now (SaysDigest (λ digest. AddsPrefix old written (digest_line digest)))

-- the text was read to its end, a line of it is the first that is no line of a measure text, and this line and its reason are written
abbrev pub SaysPageRefusal : Option (List ℕ) → Option (List ℕ) → Option (List ℕ) → Option (List ℕ) → ℕ → ℕ → Type 0
SaysPageRefusal left now old written before after =
    (line : ℕ) × (reason : Reason) × ReadsText left now (λ text. RefusesPages text line reason) × WritesLine old written before after (refusal_line line reason)

-- what keeps the text that a source had left from being measured; want of memory is free
abbrev pub HasMeasureCause : Option (List ℕ) → Option (List ℕ) → ℕ → ℕ → CommandFault → Type 0
HasMeasureCause left now before after (faults.Scenario line reason) = ReadsText left now (λ text. RefusesPages text line reason)
HasMeasureCause left now before after (faults.Limit quantity count) = ReadsSome left now (λ text. IsTooLong text quantity count)
HasMeasureCause left now before after faults.Read = TakesAtMost (most Bytes) left now × Rose before after
HasMeasureCause left now before after faults.Memory = Unit {0}
HasMeasureCause left now before after fault = ⊥
