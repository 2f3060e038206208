-- the actors so far are finished
use Rattle.std.proofs.Common.{ℕ, ◌<◌}
use Rattle.snp_model.specs.State.{IsUnfinished}
use Rattle.machine_core.specs.Machine.{state_of}
use Rattle.machine_core.proofs.machine.Machine.all_finished.Given as goal

abbrev pub invariant-actors : goal.invariant-actors
invariant-actors l = (a : ℕ) → a < l.actor → IsUnfinished (state_of l.self) a → ⊥
