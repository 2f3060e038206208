use Rattle.std.proofs.Common.{◌≡◌, ℕ, ◌-◌, ◌==◌, ◌&&◌, ◌||◌}
use Rattle.std.specs.HashSet.{contains}
use Rattle.snp_model.specs.Locks.{in_range}
use Rattle.scenario_text.specs.Pages.{same_gpn}
use Rattle.scenario_text.proofs.taken.take_gpns.Given as goal

abbrev pub invariant-loop-gpn : goal.invariant-loop-gpn
invariant-loop-gpn l =
    (q : ℕ × ℕ) → contains same_gpn l.gpns q ≡ (((q.0 == l.guest) && in_range l.base (l.gpn - l.base) q.1) || contains same_gpn l.initial.gpns q)
