use Rattle.std.proofs.Common.{◌≡◌, ℕ, ◌<◌, length, get_or}
use Rattle.snp_model.specs.ScenarioLines.{key_byte}
use Rattle.report_text.proofs.pieces.tag_bytes.Given as goal

abbrev pub invariant-loop-k : goal.invariant-loop-k
invariant-loop-k l = (length l.tag ≡ 16) × ((k : ℕ) → k < l.k → get_or l.tag k 0 ≡ key_byte l.word k)
