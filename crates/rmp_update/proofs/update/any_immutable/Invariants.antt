-- none of the frames so far
use Rattle.std.proofs.Common.{◌≡◌, ℕ, ◌<◌, false}
use Rattle.snp_model.specs.Entries.{facts_at}
use Rattle.rmp_update.proofs.update.any_immutable.Given as goal

abbrev pub invariant-slots : goal.invariant-slots
invariant-slots l = (k : ℕ) → k < l.slot → (facts_at l.rmp k).immutable ≡ false
