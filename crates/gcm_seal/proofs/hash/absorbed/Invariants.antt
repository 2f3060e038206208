use Rattle.std.proofs.Common.{◌≡◌, ◌-◌, ◌≤◌, length, drop, map}
use Rattle.snp_model.specs.Gcm.{blocks, ghash, padded}
use Rattle.gcm_seal.specs.Words.{word_coefficients}
use Rattle.gcm_seal.proofs.hash.absorbed.Given as goal

-- what is left of the text gives the whole result
abbrev pub invariant-loop-at : goal.invariant-loop-at
invariant-loop-at l = record {
  inside : l.at ≤ length l.text;
  same : ghash (word_coefficients l.hash_key) (word_coefficients l.state) (map padded (blocks (drop l.at l.text)))
      ≡ ghash (word_coefficients l.hash_key) (word_coefficients l.start) (map padded (blocks l.text));
}

abbrev pub decreases-loop-at : goal.decreases-loop-at
decreases-loop-at l = length l.initial.text - l.at
