use Rattle.std.proofs.Common.{◌≡◌, ℕ, ◌<◌, true}
use Rattle.snp_model.specs.Metadata.{entry_at, is_owned}
use Rattle.fw_swap.proofs.ownership.owned.Given as goal

abbrev pub invariant-loop-number : goal.invariant-loop-number
invariant-loop-number l = (k : ℕ) → k < l.number → is_owned l.asid (entry_at l.words k) ≡ true
