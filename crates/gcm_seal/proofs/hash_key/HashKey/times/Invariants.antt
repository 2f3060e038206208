use Rattle.std.proofs.Common.{◌≡◌, ◌*◌}
use Rattle.gcm_seal.specs.Words.{bits_below, word_product}
use Rattle.gcm_seal.proofs.hash_key.HashKey.times.Given as goal

-- the product of the lowest coefficients so far, those of the highest powers
abbrev pub invariant-loop-i : goal.invariant-loop-i
invariant-loop-i l = l.product ≡ word_product (bits_below (4 * l.i) l.word) l.self-inside.word
