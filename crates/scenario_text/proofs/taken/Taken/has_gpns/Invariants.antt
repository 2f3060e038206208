use Rattle.std.proofs.Common.{◌≡◌, ℕ, ◌<◌, ◌≤◌, false}
use Rattle.scenario_text.specs.Pages.{gpn_taken}
use Rattle.scenario_text.proofs.taken.Taken.has_gpns.Given as goal

abbrev pub invariant-loop-gpn : goal.invariant-loop-gpn
invariant-loop-gpn l = (n : ℕ) → l.base ≤ n → n < l.gpn → gpn_taken l.self (l.guest, n) ≡ false
