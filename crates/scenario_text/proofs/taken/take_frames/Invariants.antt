use Rattle.std.proofs.Common.{◌≡◌, ℕ, ◌-◌, ◌≤◌, false, ◌||◌, length, get_or}
use Rattle.snp_model.specs.Locks.{in_range}
use Rattle.scenario_text.proofs.taken.take_frames.Given as goal

abbrev pub invariant-loop-frame : goal.invariant-loop-frame
invariant-loop-frame l = record {
  room : l.end ≤ length l.frames.items;
  taken : (f : ℕ) → get_or l.frames.items f false ≡ (in_range l.base (l.frame - l.base) f || get_or l.initial.frames.items f false);
}
