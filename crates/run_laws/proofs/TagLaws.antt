-- A tag is sixteen bytes.
use Rattle.std.proofs.Common.{◌≡◌, ℕ, zero, suc, ◌+◌, ◌*◌, ◌%◌, ◌^◌, ◌<◌, cond, eqb, List, [], ◌∷◌, ◌++◌, length, get_or, take, replicate, refl, sym, ap, ◌∙◌, arith, length-append}
use Rattle.std.proofs.lemmas.Bool.{cond_both}
use Rattle.std.proofs.lemmas.List.{length-take}
use Rattle.std.proofs.lemmas.Nat.{mod_below}
use Rattle.std.proofs.lemmas.Nat.Bits.{bit_at-lt}
use Rattle.std.specs.List.{flat_map, AllByRecursion}
use Rattle.snp_model.specs.Aes.{cipher, add_round_key}
use Rattle.snp_model.specs.Gcm.{ghash, hash_subkey, hashed, before_first, tag}
use Rattle.snp_model.specs.Metadata.{AreBytes}
use Rattle.snp_model.specs.Polynomials.{byte_coefficients, coefficients, bytes_of, plus, zero_polynomial, reduction, times_x, product}
use Rattle.snp_model.proofs.GctrLaws.{length-gctr, gctr_bytes}

-- each of these numbers is a bit
abbrev AreBits : List ℕ → Type 0
AreBits bits = (i : ℕ) → get_or bits i 0 < 2

record IsPolynomial (p : List ℕ) : Type 0 where
  long : length p ≡ 128
  bits : AreBits p

no_bits : AreBits []
no_bits i = omega arith

cons_bits : (b : ℕ) (bits : List ℕ) → b < 2 → AreBits bits → AreBits (b ∷ bits)
cons_bits b bits small are zero = small
cons_bits b bits small are (suc i) = are i

both_bits : (xs ys : List ℕ) → AreBits xs → AreBits ys → AreBits (xs ++ ys)
both_bits [] ys x y i = y i
both_bits (a ∷ xs) ys x y zero = x 0
both_bits (a ∷ xs) ys x y (suc i) = both_bits xs ys (λ k. x (suc k)) y i

zero_bits : (n : ℕ) → AreBits (replicate n 0)
zero_bits zero i = omega arith
zero_bits (suc n) zero = omega arith
zero_bits (suc n) (suc i) = zero_bits n i

front_bits : (n : ℕ) (bits : List ℕ) → AreBits bits → AreBits (take n bits)
front_bits zero bits are i = omega arith
front_bits (suc n) [] are i = omega arith
front_bits (suc n) (b ∷ bits) are zero = are 0
front_bits (suc n) (b ∷ bits) are (suc i) = front_bits n bits (λ k. are (suc k)) i

-- the coefficients that bytes stand for
all_bits : (bits : List ℕ) → AllByRecursion (λ (b : ℕ). b < 2) bits → AreBits bits
all_bits [] all = no_bits
all_bits (b ∷ bits) all = cons_bits b bits all.0 (all_bits bits all.1)

byte_bits : (b : ℕ) → AreBits (byte_coefficients b)
byte_bits b =
    all_bits (byte_coefficients b)
    (bit_at-lt b 7, (bit_at-lt b 6, (bit_at-lt b 5, (bit_at-lt b 4, (bit_at-lt b 3, (bit_at-lt b 2, (bit_at-lt b 1, (bit_at-lt b 0, tt))))))))

coefficient_bits : (bytes : List ℕ) → AreBits (coefficients bytes)
unfolding coefficients
coefficient_bits [] = no_bits
coefficient_bits (b ∷ bytes) = both_bits (byte_coefficients b) (flat_map byte_coefficients bytes) (byte_bits b) (coefficient_bits bytes)

length-coefficients : (bytes : List ℕ) → length (coefficients bytes) ≡ 8 * length bytes
unfolding coefficients
length-coefficients [] = refl
length-coefficients (b ∷ bytes) = length-append (byte_coefficients b) (flat_map byte_coefficients bytes) ∙ omega (arith, length-coefficients bytes)

-- sums and products
plus_bits : (p q : List ℕ) → AreBits p → AreBits q → AreBits (plus p q)
unfolding plus
plus_bits [] q are_p are_q = are_q
plus_bits (a ∷ p) [] are_p are_q = are_p
plus_bits (a ∷ p) (b ∷ q) are_p are_q = cons_bits ((a + b) % 2) (plus p q) (mod_below (a + b) 2 (omega arith)) (plus_bits p q (λ k. are_p (suc k)) (λ k. are_q (suc k)))

length-plus : (p q : List ℕ) → length p ≡ length q → length (plus p q) ≡ length q
unfolding plus
length-plus [] q same = refl
length-plus (a ∷ p) [] same = same
length-plus (a ∷ p) (b ∷ q) same = ap suc (length-plus p q (omega arith))

plus_polynomial : (p q : List ℕ) → IsPolynomial p → IsPolynomial q → IsPolynomial (plus p q)
plus_polynomial p q is_p is_q = record { long = length-plus p q (is_p.long ∙ sym is_q.long) ∙ is_q.long; bits = plus_bits p q is_p.bits is_q.bits }

zero_is : IsPolynomial zero_polynomial
unfolding zero_polynomial
zero_is = record { long = refl; bits = zero_bits 128 }

reduction_is : IsPolynomial reduction
unfolding reduction
reduction_is = record { long = refl; bits = both_bits (1 ∷ 1 ∷ 1 ∷ 0 ∷ 0 ∷ 0 ∷ 0 ∷ 1 ∷ []) (replicate 120 0) first (zero_bits 120) }
  where
    first : AreBits (1 ∷ 1 ∷ 1 ∷ 0 ∷ 0 ∷ 0 ∷ 0 ∷ 1 ∷ [])
    first =
        all_bits (1 ∷ 1 ∷ 1 ∷ 0 ∷ 0 ∷ 0 ∷ 0 ∷ 1 ∷ [])
        (omega arith, (omega arith, (omega arith, (omega arith, (omega arith, (omega arith, (omega arith, (omega arith, tt))))))))

times_polynomial : (p : List ℕ) → IsPolynomial p → IsPolynomial (times_x p)
unfolding times_x
times_polynomial p is =
    let long = length-take 127 p in
    let raised : IsPolynomial (0 ∷ take 127 p) = record { long = omega (arith, is.long); bits = cons_bits 0 (take 127 p) (omega arith) (front_bits 127 p is.bits) } in
    cond_both (eqb (get_or p 127 0) 1) _ _ IsPolynomial (λ _. plus_polynomial (0 ∷ take 127 p) reduction raised reduction_is) (λ _. raised)

product_polynomial : (p q : List ℕ) → IsPolynomial q → IsPolynomial (product p q)
unfolding product
product_polynomial [] q is = zero_is
product_polynomial (c ∷ p) q is =
    plus_polynomial (cond (eqb c 1) q zero_polynomial) (product p (times_x q)) (cond_both (eqb c 1) _ _ IsPolynomial (λ _. is) (λ _. zero_is))
    (product_polynomial p (times_x q) (times_polynomial q is))

ghash_polynomial : (h y : List ℕ) (blocks : List (List ℕ)) → IsPolynomial h → IsPolynomial y → IsPolynomial (ghash h y blocks)
unfolding ghash
ghash_polynomial h y [] is_h is_y = is_y
ghash_polynomial h y (x ∷ rest) is_h is_y =
    ghash_polynomial h (product (plus y (coefficients x)) h) rest is_h (product_polynomial (plus y (coefficients x)) h is_h)

-- the bytes that stand for them
byte_small : (a b c d e f g h : ℕ) → a < 2 → b < 2 → c < 2 → d < 2 → e < 2 → f < 2 → g < 2 → h < 2
    → 128 * a + 64 * b + 32 * c + 16 * d + 8 * e + 4 * f + 2 * g + h < 2 ^ 8
byte_small a b c d e f g h a1 b1 c1 d1 e1 f1 g1 h1 = omega arith

record AreBytesOf (n : ℕ) (bytes : List ℕ) : Type 0 where
  long : length bytes ≡ n
  small : AreBytes bytes

one_more : (n b : ℕ) (bytes : List ℕ) → b < 2 ^ 8 → AreBytesOf n bytes → AreBytesOf (suc n) (b ∷ bytes)
one_more n b bytes small are = record { long = ap suc are.long; small = λ i. either i }
  where
    either : (i : ℕ) → get_or (b ∷ bytes) i 0 < 2 ^ 8
    either zero = small
    either (suc i) = are.small i

bytes_are : (n : ℕ) (p : List ℕ) → length p ≡ 8 * n → AreBits p → AreBytesOf n (bytes_of p)
unfolding bytes_of
bytes_are zero [] long bits = record { long = refl; small = λ i. omega arith }
bytes_are (suc n) (a ∷ b ∷ c ∷ d ∷ e ∷ f ∷ g ∷ h ∷ rest) long bits =
    one_more n (128 * a + 64 * b + 32 * c + 16 * d + 8 * e + 4 * f + 2 * g + h) (bytes_of rest) (byte_small a b c d e f g h (bits 0) (bits 1) (bits 2) (bits 3) (bits 4) (bits 5) (bits 6) (bits 7))
    (bytes_are n rest (omega arith) (λ k. bits (suc (suc (suc (suc (suc (suc (suc (suc k))))))))))
bytes_are n p long bits = absurd (omega arith)

-- a block of the cipher is sixteen bytes
length-cipher : (key block : List ℕ) → length (cipher key block) ≡ 16
unfolding cipher add_round_key
length-cipher key block = refl

subkey_polynomial : (key : List ℕ) → IsPolynomial (hash_subkey key)
unfolding hash_subkey
subkey_polynomial key =
    record { long = length-coefficients (cipher key (replicate 16 0)) ∙ ap (λ (n : ℕ). 8 * n) (length-cipher key (replicate 16 0)); bits = coefficient_bits (cipher key (replicate 16 0)) }

hash_bytes : (key aad text : List ℕ) → AreBytesOf 16 (bytes_of (ghash (hash_subkey key) zero_polynomial (hashed aad text)))
hash_bytes key aad text =
    let is = ghash_polynomial (hash_subkey key) zero_polynomial (hashed aad text) (subkey_polynomial key) zero_is in
    bytes_are 16 (ghash (hash_subkey key) zero_polynomial (hashed aad text)) is.long is.bits

pub length-tag : (key iv aad text : List ℕ) → length (tag key iv aad text) ≡ 16
unfolding tag
length-tag key iv aad text =
    length-gctr key (before_first iv) (bytes_of (ghash (hash_subkey key) zero_polynomial (hashed aad text))) ∙ (hash_bytes key aad text).long

pub tag_bytes : (key iv aad text : List ℕ) → AreBytes key → AreBytes (tag key iv aad text)
unfolding tag
tag_bytes key iv aad text are =
    gctr_bytes key (before_first iv) (bytes_of (ghash (hash_subkey key) zero_polynomial (hashed aad text))) are (hash_bytes key aad text).small
