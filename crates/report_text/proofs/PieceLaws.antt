-- A word behind others.
use Rattle.std.proofs.Common.{◌≡◌, ℕ, zero, suc, ◌+◌, List, [], ◌∷◌, drop, refl, arith}
use Rattle.snp_model.specs.Lines.{word}

pub word_behind : (ws : List (List ℕ)) (from k : ℕ) → word (drop from ws) k ≡ word ws (from + k)
word_behind ws zero k = let e : 0 + k ≡ k = omega arith in rw e refl
word_behind [] (suc from) k = refl
word_behind (w ∷ ws) (suc from) k = let e : suc from + k ≡ suc (from + k) = omega arith in rw e (word_behind ws from k)
