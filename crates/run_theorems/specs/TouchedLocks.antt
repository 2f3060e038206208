-- That what an event has locked before it and after it, it touches, and that no lock changes its holder beside what is touched (this project's own).
use Rattle.std.specs.Prelude.{◌≡◌, ℕ, true, false, Some}
use Rattle.snp_model.specs.Locks.{context_holder_of, holder_of, locks_context, locks_frame}
use Rattle.snp_model.specs.State.{State, part_of}
use Rattle.snp_model.specs.Step.{after}
use Rattle.snp_model.specs.Touches.{Touched, touches, touches_frame}

-- what the next event of an actor touches
abbrev pub touched_by : State → ℕ → Touched
touched_by m actor = touches m.frames m.guests (part_of m actor)

-- what an actor has locked before its next event, and what it has locked after it, is touched by the event
pub record LocksAreTouched (m : State) (actor : ℕ) : Type 0 where
  pub frames_before : (frame : ℕ) → locks_frame frame (part_of m actor) ≡ true → touches_frame (touched_by m actor) frame ≡ true
  pub frames_after : (frame : ℕ) → locks_frame frame (part_of (after m actor) actor) ≡ true → touches_frame (touched_by m actor) frame ≡ true
  pub contexts_before : (guest : ℕ) → locks_context guest (part_of m actor) ≡ true → (touched_by m actor).context ≡ Some guest
  pub contexts_after : (guest : ℕ) → locks_context guest (part_of (after m actor) actor) ≡ true → (touched_by m actor).context ≡ Some guest

-- beside what the event touches, each lock has after it the holder that it had
pub record HoldersStay (m : State) (actor : ℕ) : Type 0 where
  pub frames : (frame : ℕ) → touches_frame (touched_by m actor) frame ≡ false → holder_of (after m actor) frame ≡ holder_of m frame
  pub contexts : (guest : ℕ) → ((touched_by m actor).context ≡ Some guest → ⊥) → context_holder_of (after m actor) guest ≡ context_holder_of m guest
