use Rattle.std.proofs.Common.{◌≡◌, ℕ, ◌<◌, length}
use Rattle.snp_model.specs.RegionWords.{page_at}
use Rattle.snp_model.specs.State.{zero_words}
use Rattle.fw_reclaim.proofs.reclaim.empty.Given as goal

abbrev pub invariant-frames : goal.invariant-frames
invariant-frames l = record {
  long : length l.memory ≡ 512;
  zero : (k : ℕ) → k < l.frame → page_at l.memory k ≡ zero_words;
}
