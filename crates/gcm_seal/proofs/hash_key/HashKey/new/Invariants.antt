use Rattle.std.proofs.Common.{◌≡◌, ℕ, ◌<◌, length, get_or}
use Rattle.gcm_seal.specs.Words.{bits_below, word_product}
use Rattle.gcm_seal.proofs.hash_key.HashKey.new.Given as goal

-- the multiples so far
abbrev pub invariant-loop-digit : goal.invariant-loop-digit
invariant-loop-digit l = record {
  whole : length l.multiples ≡ 16;
  each : (k : ℕ) → k < l.digit → get_or l.multiples k 0 ≡ word_product (bits_below 4 k) l.word;
}
