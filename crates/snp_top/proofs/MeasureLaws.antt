-- What is said of a measure text and of its digest.
use Rattle.std.proofs.Common.{◌≡◌, ℕ, ◌<◌, List, length, Option, None, Some, IfSome, sym, ◌∙◌, subst}
use Rattle.snp_model.specs.declared.reading.Quantity.{Quantity}
use Rattle.snp_model.specs.declared.reading.Quantity.TheVariants.{Bytes}
use Rattle.snp_model.specs.declared.reading.Reason.{Reason}
use Rattle.snp_model.specs.Limits.{most}
use Rattle.snp_model.specs.MeasureText.{RefusesPages, SaysPages, digest_line}
use Rattle.snp_model.specs.Measurement.{LaunchedPage, measure}
use Rattle.snp_model.specs.Outside.{Adds, AddsPrefix, TakesAll}
use Rattle.snp_model.specs.Reading.{IsTooLong}
use Rattle.snp_top.specs.declared.fault.CommandFault.{CommandFault}
use Rattle.snp_top.specs.declared.fault.CommandFault.TheVariants as faults
use Rattle.snp_top.specs.Batch.{Outside}
use Rattle.snp_top.specs.Input.{HasInputCause}
use Rattle.snp_top.specs.Measures.{HasMeasureCause, SaysCutDigest, SaysDigest, WritesDigest}
use Rattle.snp_top.specs.Replays.{ReadsSome, ReadsText}
use Rattle.snp_top.proofs.CauseLaws.{too_long}

-- what holds of a digest that was read holds of the text
digest_said : (left now : Option (List ℕ)) (digest : List ℕ) (P : List ℕ → Type 0) → ReadsText left now (SaysDigest (λ said. digest ≡ said)) → P digest → ReadsText left now (SaysDigest P)
digest_said None now digest P reads holds = tt
digest_said (Some text) now digest P reads holds = (reads.0, (reads.1.0, reads.1.1, subst P reads.1.2 holds))

pub digest_written : (before now : Outside) (digest : List ℕ) → ReadsText before.left now.left (SaysDigest (λ said. digest ≡ said)) → Adds before.written now.written (digest_line digest)
    → WritesDigest before.left now.left before.written now.written
digest_written before now digest reads adds = digest_said before.left now.left digest (λ said. Adds before.written now.written (digest_line said)) reads adds

pub digest_cut : (before now : Outside) (digest : List ℕ) → ReadsText before.left now.left (SaysDigest (λ said. digest ≡ said)) → AddsPrefix before.written now.written (digest_line digest)
    → SaysCutDigest before.left now.left before.written now.written
digest_cut before now digest reads adds = digest_said before.left now.left digest (λ said. AddsPrefix before.written now.written (digest_line said)) reads adds

-- what the reader of a measure text said is said of the text that a source had left
pub pages_said : (left now : Option (List ℕ)) (bytes text : List ℕ) (digest : List ℕ) → TakesAll left now bytes → text ≡ bytes → (pages : List LaunchedPage) × SaysPages text pages × (digest ≡ measure pages)
    → ReadsText left now (SaysDigest (λ said. digest ≡ said))
pages_said None now bytes text digest takes same says = tt
pages_said (Some t) now bytes text digest takes same says = (takes.0, (says.0, subst (λ (s : List ℕ). SaysPages s says.0) (same ∙ sym takes.1) says.1, says.2))

pub pages_refused : (left now : Option (List ℕ)) (bytes text : List ℕ) (line : ℕ) (reason : Reason) → TakesAll left now bytes → text ≡ bytes → RefusesPages text line reason → ReadsText left now (λ t. RefusesPages t line reason)
pages_refused None now bytes text line reason takes same refuses = tt
pages_refused (Some t) now bytes text line reason takes same refuses = (takes.0, subst (λ (s : List ℕ). RefusesPages s line reason) (same ∙ sym takes.1) refuses)

-- what keeps a text from being read keeps it from being measured
pub input_measured : (left now : Option (List ℕ)) (before after : ℕ) (fault : CommandFault) → HasInputCause left now before after fault → HasMeasureCause left now before after fault
input_measured left now before after faults.Read cause = cause
input_measured left now before after (faults.Limit quantity count) cause = too_long left now quantity count cause.0 cause.1 cause.2
input_measured left now before after faults.Memory cause = tt
input_measured left now before after fault cause = absurd cause

-- a text that is too long is so
pub long_read : (left now : Option (List ℕ)) (quantity : Quantity) (count : ℕ) → ReadsSome left now (λ text. IsTooLong text quantity count) → IfSome left (λ text. most Bytes < length text)
long_read None now quantity count reads = tt
long_read (Some text) now quantity count reads = reads.1.long

-- a text that says pages isn't refused, and one that is too long is neither
pub says_or_refuses : (text : List ℕ) (pages : List LaunchedPage) (line : ℕ) (reason : Reason) → SaysPages text pages → RefusesPages text line reason → ⊥
says_or_refuses text pages line reason says refuses = let e = sym says.reads ∙ refuses.refuses in cc
