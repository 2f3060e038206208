use Rattle.std.proofs.Common.{◌≡◌, ℕ, ◌<◌, ◌≤◌, false}
use Rattle.scenario_text.specs.Pages.{frame_taken}
use Rattle.scenario_text.proofs.taken.Taken.has_frames.Given as goal

abbrev pub invariant-loop-frame : goal.invariant-loop-frame
invariant-loop-frame l = (n : ℕ) → l.base ≤ n → n < l.frame → frame_taken l.self n ≡ false
