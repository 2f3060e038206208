-- no lock of the frames so far
use Rattle.std.proofs.Common.{◌≡◌, ℕ, ◌<◌, Some}
use Rattle.snp_model.specs.Entries.{holder_at}
use Rattle.rmp_update.proofs.tests.none_held.Given as goal

abbrev pub invariant-slots : goal.invariant-slots
invariant-slots g l = (slot : ℕ) → slot < l.slot → holder_at l.rmp slot ≡ Some l.actor → ⊥
