-- Which outcomes are refusals: a fault, a guest that doesn't run, a status other than success, something in use, or tags that differ; and
-- that an actor lets its locks go. This project's own.
use Rattle.std.specs.Prelude.{◌==◌, ◌≡◌, ℕ, Bool, true, false, not}
use Rattle.snp_model.specs.declared.event.Outcome.{Outcome}
use Rattle.snp_model.specs.declared.event.Outcome.TheVariants.{Loaded, Opaque, Stored, Swapped, Compared, Gp, Pf, Npf, Vc, Offline, Status, Carry, StatusInUse, Firmware, FirmwareInUse, BadTag, Next, Skipped}
use Rattle.snp_model.specs.Entries.{released}
use Rattle.snp_model.specs.Locks.{context_holder_of, holder_of}
use Rattle.snp_model.specs.State.{State}
use Rattle.snp_model.specs.Step.{after}

-- whether an outcome is a refusal; a compare that found another word is none, and neither is an outcome of a skip
abbrev pub is_refusal : Outcome → Bool
is_refusal (Loaded word) = false
is_refusal Opaque = false
is_refusal Stored = false
is_refusal (Swapped word) = false
is_refusal (Compared found written) = false
is_refusal Gp = true
is_refusal (Pf code) = true
is_refusal (Npf code) = true
is_refusal (Vc code) = true
is_refusal Offline = true
is_refusal (Status status) = not (status == 0)
is_refusal (Carry carry) = false
is_refusal (StatusInUse holder) = true
is_refusal (Firmware status) = not (status == 0)
is_refusal (FirmwareInUse holder) = true
is_refusal (BadTag found kept) = true
is_refusal Next = false
is_refusal (Skipped count) = false

-- after the next event of an actor what it had locked is free, and every other lock has the holder that it had, or none as before
pub record LetsGo (m : State) (actor : ℕ) : Type 0 where
  pub frames : (frame : ℕ) → holder_of (after m actor) frame ≡ released actor (holder_of m frame)
  pub contexts : (guest : ℕ) → context_holder_of (after m actor) guest ≡ released actor (context_holder_of m guest)
