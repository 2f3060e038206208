-- The bytes of a block, the word that they are, and its coefficients.
use Rattle.std.proofs.Common.{◌≡◌, ℕ, ◌+◌, ◌-◌, ◌*◌, ◌/◌, ◌%◌, ◌^◌, ◌<◌, ◌≤◌, suc, zero, List, [], ◌∷◌, ◌++◌, length, get_or, drop, replicate, refl, ap, sym, ◌∙◌, arith}
use Rattle.std.proofs.lemmas.List.{length-append, length-replicate, drop-replicate, append-nil}
use borrow.Rule.Slice.PartMut.{put_mid}
use Rattle.std.specs.Int.{bit_at, byte_at, bytes_high_first, to_be_bytes, from_be_bytes, w64, w128}
use Rattle.std.proofs.Math.Nat.{pow-suc, div-div-eq-div-mul}
use Rattle.std.proofs.lemmas.Nat.{shr-shr, mod_below}
use Rattle.snp_model.specs.Polynomials.{byte_coefficients, bytes_of, coefficients}
use Rattle.snp_model.specs.Gcm.{lengths_block, padded}
use Rattle.gcm_seal.specs.Words.{bits_below, word_coefficients}

byte_power : (k : ℕ) → 256 ^ k ≡ 2 ^ (8 * k)
byte_power zero = refl
byte_power (suc k) =
    let more : 8 * suc k ≡ suc (suc (suc (suc (suc (suc (suc (suc (8 * k)))))))) = omega arith in
    rw more (omega (arith, byte_power k, pow-suc 256 k, pow-suc 2 (suc (suc (suc (suc (suc (suc (suc (8 * k)))))))), pow-suc 2 (suc (suc (suc (suc (suc (suc (8 * k))))))), pow-suc 2 (suc (suc (suc (suc (suc (8 * k)))))), pow-suc 2 (suc (suc (suc (suc (8 * k))))), pow-suc 2 (suc (suc (suc (8 * k)))), pow-suc 2 (suc (suc (8 * k))), pow-suc 2 (suc (8 * k)), pow-suc 2 (8 * k)))

-- bit i of the byte k of a word
high_bit : (n k i j : ℕ) → j ≡ 8 * k + i → bit_at n j ≡ bit_at (n / 256 ^ k) i
high_bit n k i j is = ap (bit_at n) is ∙ ap (λ m. m % 2) (sym (shr-shr n (8 * k) i)) ∙ ap (λ p. n / p / 2 ^ i % 2) (sym (byte_power k))

-- one byte more
bits_below-byte : (k n : ℕ) → bits_below (8 * suc k) n ≡ byte_coefficients (n / 256 ^ k) ++ bits_below (8 * k) n
bits_below-byte k n =
    let more : 8 * suc k ≡ suc (suc (suc (suc (suc (suc (suc (suc (8 * k)))))))) = omega arith in
    let m0 = 8 * k in
    let m1 = suc m0 in
    let m2 = suc m1 in
    let m3 = suc m2 in
    let m4 = suc m3 in
    let m5 = suc m4 in
    let m6 = suc m5 in
    let m7 = suc m6 in
    let b0 = high_bit n k 0 m0 (omega arith) in
    let b1 = high_bit n k 1 m1 (omega arith) in
    let b2 = high_bit n k 2 m2 (omega arith) in
    let b3 = high_bit n k 3 m3 (omega arith) in
    let b4 = high_bit n k 4 m4 (omega arith) in
    let b5 = high_bit n k 5 m5 (omega arith) in
    let b6 = high_bit n k 6 m6 (omega arith) in
    let b7 = high_bit n k 7 m7 (omega arith) in
    rw more (λ i. b7 i ∷ b6 i ∷ b5 i ∷ b4 i ∷ b3 i ∷ b2 i ∷ b1 i ∷ b0 i ∷ bits_below (8 * k) n)

-- the low byte alone counts
low_byte : (n : ℕ) → byte_coefficients (n % 256) ≡ byte_coefficients n
low_byte n =
    let b7 : n % 256 / 128 % 2 ≡ n / 128 % 2 = omega arith in
    let b6 : n % 256 / 64 % 2 ≡ n / 64 % 2 = omega arith in
    let b5 : n % 256 / 32 % 2 ≡ n / 32 % 2 = omega arith in
    let b4 : n % 256 / 16 % 2 ≡ n / 16 % 2 = omega arith in
    let b3 : n % 256 / 8 % 2 ≡ n / 8 % 2 = omega arith in
    let b2 : n % 256 / 4 % 2 ≡ n / 4 % 2 = omega arith in
    let b1 : n % 256 / 2 % 2 ≡ n / 2 % 2 = omega arith in
    let b0 : n % 256 / 1 % 2 ≡ n / 1 % 2 = omega arith in
    λ i. b7 i ∷ b6 i ∷ b5 i ∷ b4 i ∷ b3 i ∷ b2 i ∷ b1 i ∷ b0 i ∷ []

byte_value : (n : ℕ) → n < 256 → 128 * bit_at n 7 + 64 * bit_at n 6 + 32 * bit_at n 5 + 16 * bit_at n 4 + 8 * bit_at n 3 + 4 * bit_at n 2 + 2 * bit_at n 1 + bit_at n 0 ≡ n
byte_value n small = omega arith

-- the word whose bytes these are, after the high ones
abbrev number : ℕ → List ℕ → ℕ
number high [] = high
number high (b ∷ bytes) = number (high * 256 + b) bytes

-- what stands above the bytes
above_bytes : (bytes : List ℕ) (high : ℕ) → ((i : ℕ) → get_or bytes i 0 < 256) → number high bytes / 256 ^ length bytes ≡ high
above_bytes [] high small = omega arith
above_bytes (b ∷ bytes) high small =
    let rest = above_bytes bytes (high * 256 + b) (λ i. small (suc i)) in
    let n = number (high * 256 + b) bytes in
    let power : 256 ^ suc (length bytes) ≡ 256 ^ length bytes * 256 = pow-suc 256 (length bytes) in
    let first : b < 256 = small 0 in
    rw power (sym (div-div-eq-div-mul n (256 ^ length bytes) 256) ∙ ap (λ m. m / 256) rest ∙ omega arith)

number_coefficients : (bytes : List ℕ) (high : ℕ) → ((i : ℕ) → get_or bytes i 0 < 256) → bits_below (8 * length bytes) (number high bytes) ≡ coefficients bytes
unfolding coefficients
number_coefficients [] high small = refl
number_coefficients (b ∷ bytes) high small =
    let n = number (high * 256 + b) bytes in
    let top : n / 256 ^ length bytes ≡ high * 256 + b = above_bytes bytes (high * 256 + b) (λ i. small (suc i)) in
    let first : b < 256 = small 0 in
    let low : (high * 256 + b) % 256 ≡ b % 256 = omega arith in
    bits_below-byte (length bytes) n
    ∙ ap (λ m. byte_coefficients m ++ bits_below (8 * length bytes) n) top
    ∙ ap (λ l. l ++ bits_below (8 * length bytes) n) (sym (low_byte (high * 256 + b)) ∙ ap byte_coefficients low ∙ low_byte b)
    ∙ ap (λ l. byte_coefficients b ++ l) (number_coefficients bytes (high * 256 + b) (λ i. small (suc i)))

sixteen : (bytes : List ℕ) → length bytes ≡ 16 → from_be_bytes w128 bytes ≡ number 0 bytes
sixteen (a ∷ b ∷ c ∷ d ∷ e ∷ f ∷ g ∷ h ∷ i ∷ j ∷ k ∷ l ∷ m ∷ n ∷ o ∷ p ∷ []) len = omega arith
sixteen _ len = absurd (omega arith)

pub word_from_bytes : (bytes : List ℕ) (n : ℕ) → length bytes ≡ 16 → ((i : ℕ) → get_or bytes i 0 < 256) → n ≡ from_be_bytes w128 bytes → word_coefficients n ≡ coefficients bytes
unfolding word_coefficients
word_from_bytes bytes n len small is = ap (bits_below 128) (is ∙ sixteen bytes len) ∙ ap (λ k. bits_below (8 * k) (number 0 bytes)) (sym len) ∙ number_coefficients bytes 0 small

bytes_of-byte : (n : ℕ) (rest : List ℕ) → bytes_of (byte_coefficients n ++ rest) ≡ n % 256 ∷ bytes_of rest
unfolding bytes_of
bytes_of-byte n rest =
    let small : n % 256 < 256 = omega arith in
    ap (λ l. bytes_of (l ++ rest)) (sym (low_byte n)) ∙ ap (λ m. m ∷ bytes_of rest) (byte_value (n % 256) small)

byte_at_is : (k n : ℕ) → byte_at k n ≡ n / 256 ^ k % 256
byte_at_is zero n = omega arith
byte_at_is (suc k) n = refl

bytes_of-bits : (k n : ℕ) → bytes_of (bits_below (8 * k) n) ≡ bytes_high_first k n
unfolding bytes_of
bytes_of-bits zero n = refl
bytes_of-bits (suc k) n =
    ap bytes_of (bits_below-byte k n) ∙ bytes_of-byte (n / 256 ^ k) (bits_below (8 * k) n)
    ∙ (λ i. sym (byte_at_is k n) i ∷ bytes_of-bits k n i)

pub bytes_from_word : (n : ℕ) → bytes_of (word_coefficients n) ≡ to_be_bytes w128 n
unfolding word_coefficients
bytes_from_word n = bytes_of-bits 16 n

-- each number is a byte
small-append : (xs ys : List ℕ) → ((i : ℕ) → get_or xs i 0 < 256) → ((i : ℕ) → get_or ys i 0 < 256) → (i : ℕ) → get_or (xs ++ ys) i 0 < 256
small-append [] ys x y i = y i
small-append (a ∷ xs) ys x y zero = x 0
small-append (a ∷ xs) ys x y (suc i) = small-append xs ys (λ j. x (suc j)) y i

small-zeros : (n i : ℕ) → get_or (replicate n 0) i 0 < 256
small-zeros zero i = omega arith
small-zeros (suc n) zero = omega arith
small-zeros (suc n) (suc i) = small-zeros n i

-- the word of a block that is written over the front of sixteen zero bytes
pub padded_word_is : (block front : List ℕ) (n : ℕ) → length block ≤ 16 → ((i : ℕ) → get_or block i 0 < 256) → front ≡ block → n ≡ from_be_bytes w128 (front ++ drop (length block) (replicate 16 0)) → word_coefficients n ≡ coefficients (padded block)
unfolding padded
padded_word_is block front n short small is_front is =
    let zeros = replicate (16 - length block) 0 in
    let whole : front ++ drop (length block) (replicate 16 0) ≡ block ++ zeros = ap (λ l. l ++ drop (length block) (replicate 16 0)) is_front ∙ ap (λ l. block ++ l) (drop-replicate (length block) 16 0) in
    let len : length (block ++ zeros) ≡ 16 = omega (arith, length-append block zeros, length-replicate {A = ℕ} (16 - length block) 0) in
    word_from_bytes (block ++ zeros) n len (small-append block zeros small (small-zeros (16 - length block))) (is ∙ ap (from_be_bytes w128) whole)

byte_at-small : (k n : ℕ) → byte_at k n < 256
byte_at-small zero n = omega arith
byte_at-small (suc k) n = mod_below (n / 256 ^ suc k) 256 (omega arith)

small-bytes : (k n i : ℕ) → get_or (bytes_high_first k n) i 0 < 256
small-bytes zero n i = omega arith
small-bytes (suc k) n zero = byte_at-small k n
small-bytes (suc k) n (suc i) = small-bytes k n i

-- the word of the two lengths, written over the halves of sixteen zero bytes
pub lengths_word_is : (aad text front back : List ℕ) (n : ℕ) → front ≡ to_be_bytes w64 (8 * length aad) → back ≡ to_be_bytes w64 (8 * length text) → n ≡ from_be_bytes w128 (put_mid 8 8 (front ++ 0 ∷ 0 ∷ 0 ∷ 0 ∷ 0 ∷ 0 ∷ 0 ∷ 0 ∷ []) back) → word_coefficients n ≡ coefficients (lengths_block aad text)
unfolding lengths_block
lengths_word_is aad text front back n is_front is_back is =
    let a = to_be_bytes w64 (8 * length aad) in
    let t = to_be_bytes w64 (8 * length text) in
    let zeros : List ℕ = 0 ∷ 0 ∷ 0 ∷ 0 ∷ 0 ∷ 0 ∷ 0 ∷ 0 ∷ [] in
    let whole : put_mid 8 8 (front ++ zeros) back ≡ a ++ t = ap (λ f. put_mid 8 8 (f ++ zeros) back) is_front ∙ ap (λ b. a ++ b) (append-nil back ∙ is_back) in
    word_from_bytes (a ++ t) n refl (small-append a t (small-bytes 8 (8 * length aad)) (small-bytes 8 (8 * length text))) (is ∙ ap (from_be_bytes w128) whole)

-- a whole block needs no filling
pub padded-full : (block : List ℕ) → length block ≡ 16 → padded block ≡ block
unfolding padded
padded-full block full =
    let none : 16 - length block ≡ 0 = omega arith in
    ap (λ n. block ++ replicate n 0) none ∙ append-nil block
