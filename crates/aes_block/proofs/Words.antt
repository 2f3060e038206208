-- Words by their bytes.
use Rattle.std.proofs.Common.{◌≡◌, ℕ, List, [], ◌∷◌, ◌/◌, ◌%◌, ◌^◌, bit_xor, ap, ◌∙◌}
use Rattle.std.proofs.lemmas.Nat.{xor_shr, xor_mod}
use Rattle.std.specs.Int.{w32, to_be_bytes}
use Rattle.snp_model.specs.Aes.{add_words}

byte_xor : (a b k : ℕ) → bit_xor a b / 2 ^ k % 256 ≡ bit_xor (a / 2 ^ k % 256) (b / 2 ^ k % 256)
byte_xor a b k = ap (λ n. n % 256) (xor_shr a b k) ∙ xor_mod (a / 2 ^ k) (b / 2 ^ k) 8

bytes_xor : (a b : ℕ) → to_be_bytes w32 (bit_xor a b) ≡ add_words (to_be_bytes w32 a) (to_be_bytes w32 b)
bytes_xor a b = λ i. byte_xor a b 24 i ∷ byte_xor a b 16 i ∷ byte_xor a b 8 i ∷ xor_mod a b 8 i ∷ []

-- the bytes of a sum
pub sum_is : (p q : ℕ) (x y : List ℕ) → to_be_bytes w32 p ≡ x → to_be_bytes w32 q ≡ y → to_be_bytes w32 (bit_xor p q) ≡ add_words x y
sum_is p q x y ep eq =
    bytes_xor p q ∙ ap (λ (w : List ℕ). add_words w (to_be_bytes w32 q)) ep ∙ ap (add_words x) eq
