-- Words as polynomials: their sums, their products by x, and products by the multiples of a word.
use Rattle.std.proofs.Common.{◌≡◌, ℕ, ◌+◌, ◌*◌, ◌/◌, ◌%◌, ◌^◌, ◌<◌, Bool, suc, zero, List, [], ◌∷◌, cond, eqb, get_or, take, refl, ap, sym, inl, inr, ◌∙◌, arith, eq-eqb, ne_eqb, true, false}
use Rattle.std.specs.Int.{bit_at}
use Rattle.std.specs.Int.RustNames.{bit_and, bit_xor}
use Rattle.std.specs.Int.Bits.{xor_assoc, xor_zero_l, xor_zero_r}
use Rattle.std.proofs.lemmas.Bool.{cases_eq}
use Rattle.std.proofs.lemmas.Nat.{and_mask, shr-shr, xor_block, xor_comm, xor_lt, xor_shr}
use Rattle.std.proofs.lemmas.Nat.Bits.{and_pow, bit_at-lt, bit_at-suc, bit_at_above, bit_at_xor, shr_and_one}
use Rattle.gcm_seal.specs.Words.{bits_below, word_coefficients, word_product, word_times_x, word_times_x4}
use Rattle.snp_model.specs.Polynomials.{plus, product, reduction, times_x, zero_polynomial}

-- the xor of two words is the sum of the two polynomials
bits_below-xor : (k a b : ℕ) → bits_below k (bit_xor a b) ≡ plus (bits_below k a) (bits_below k b)
unfolding plus
bits_below-xor zero a b = refl
bits_below-xor (suc k) a b = cc (bit_at_xor a b k, bits_below-xor k a b)

pub word_coefficients-xor : (a b : ℕ) → word_coefficients (bit_xor a b) ≡ plus (word_coefficients a) (word_coefficients b)
unfolding word_coefficients
word_coefficients-xor a b = bits_below-xor 128 a b

pub word_coefficients-zero : word_coefficients 0 ≡ zero_polynomial
unfolding word_coefficients zero_polynomial
word_coefficients-zero = refl

word_coefficients-reduction : word_coefficients 0xe100_0000_0000_0000_0000_0000_0000_0000 ≡ reduction
unfolding word_coefficients reduction
word_coefficients-reduction = refl

-- half of a word has its bits one place further
bits_below-half : (k n : ℕ) → bits_below (suc k) (n / 2) ≡ bit_at n (suc k) ∷ take k (bits_below (suc k) n)
bits_below-half zero n = cc (bit_at-suc n 0)
bits_below-half (suc k) n = cc (bit_at-suc n (suc k), bits_below-half k n)

-- a word shifted right by one, for the coefficients
shifted : (n : ℕ) → n < 2 ^ 128 → word_coefficients (n / 2) ≡ 0 ∷ take 127 (word_coefficients n)
unfolding word_coefficients
shifted n small = bits_below-half 127 n ∙ ap (λ b. b ∷ take 127 (bits_below 128 n)) (bit_at_above n 128 128 small (omega arith))

-- the lowest bit of a word is the coefficient of x^127
last_coefficient : (n : ℕ) → get_or (word_coefficients n) 127 0 ≡ bit_and n 1
unfolding word_coefficients
last_coefficient n = omega (arith, and_pow n 0)

-- a word times x
word_coefficients-times_x : (n : ℕ) → n < 2 ^ 128 → word_coefficients (word_times_x n) ≡ times_x (word_coefficients n)
unfolding times_x word_times_x
word_coefficients-times_x n small = elim (cases_eq (bit_and n 1) 1) [
  | inl odd ↦
      (let test : eqb (get_or (word_coefficients n) 127 0) 1 ≡ true = eq-eqb _ _ (last_coefficient n ∙ odd) in
      let bit : eqb (bit_and n 1) 1 ≡ true = eq-eqb _ _ odd in
      rw (test, bit) (cc (word_coefficients-xor (n / 2) 0xe100_0000_0000_0000_0000_0000_0000_0000, shifted n small, word_coefficients-reduction)))
  | inr even ↦
      (let test : eqb (get_or (word_coefficients n) 127 0) 1 ≡ false = ne_eqb _ _ (λ (e : get_or (word_coefficients n) 127 0 ≡ 1). even (sym (last_coefficient n) ∙ e)) in
      let bit : eqb (bit_and n 1) 1 ≡ false = ne_eqb _ _ even in
      rw (test, bit) (ap word_coefficients (xor_zero_r (n / 2)) ∙ shifted n small))
]

constant-small : (b : Bool) → cond b 0xe100_0000_0000_0000_0000_0000_0000_0000 0 < 2 ^ 128
constant-small true = omega arith
constant-small false = omega arith

word_times_x-small : (n : ℕ) → n < 2 ^ 128 → word_times_x n < 2 ^ 128
unfolding word_times_x
word_times_x-small n small = xor_lt 128 (n / 2) (cond (eqb (bit_and n 1) 1) 0xe100_0000_0000_0000_0000_0000_0000_0000 0) (omega arith) (constant-small (eqb (bit_and n 1) 1))

-- the product on words is the product of the polynomials
word_term : (b : Bool) (n : ℕ) → word_coefficients (cond b n 0) ≡ cond b (word_coefficients n) zero_polynomial
word_term true n = refl
word_term false n = word_coefficients-zero

word_coefficients-product : (p : List ℕ) (n : ℕ) → n < 2 ^ 128 → word_coefficients (word_product p n) ≡ product p (word_coefficients n)
unfolding word_product product
word_coefficients-product [] n small = word_coefficients-zero
word_coefficients-product (c ∷ p) n small =
    let rest = word_product p (word_times_x n) in
    let next : word_coefficients rest ≡ product p (times_x (word_coefficients n)) = word_coefficients-product p (word_times_x n) (word_times_x-small n small) ∙ ap (product p) (word_coefficients-times_x n small) in
    word_coefficients-xor (cond (eqb c 1) n 0) rest ∙ (λ i. plus (word_term (eqb c 1) n i) (next i))

pub whole_product : (left right : ℕ) → right < 2 ^ 128 → word_coefficients (word_product (bits_below 128 left) right) ≡ product (word_coefficients left) (word_coefficients right)
unfolding word_coefficients
whole_product left right small = word_coefficients-product (bits_below 128 left) right small

-- a product of the sum of two words
xor_pairs : (a b c d : ℕ) → bit_xor (bit_xor a b) (bit_xor c d) ≡ bit_xor (bit_xor a c) (bit_xor b d)
xor_pairs a b c d =
    xor_assoc a b (bit_xor c d) ∙ ap (bit_xor a) (sym (xor_assoc b c d) ∙ ap (λ x. bit_xor x d) (xor_comm b c) ∙ xor_assoc c b d) ∙ sym (xor_assoc a c (bit_xor b d))

reduced_bit : ℕ → ℕ
reduced_bit b = cond (eqb b 1) 0xe100_0000_0000_0000_0000_0000_0000_0000 0

reduced_bit-sum : (x y : ℕ) → x < 2 → y < 2 → reduced_bit ((x + y) % 2) ≡ bit_xor (reduced_bit x) (reduced_bit y)
unfolding reduced_bit
reduced_bit-sum zero zero a b = refl
reduced_bit-sum zero (suc zero) a b = refl
reduced_bit-sum (suc zero) zero a b = refl
reduced_bit-sum (suc zero) (suc zero) a b = refl
reduced_bit-sum (suc (suc x)) y a b = absurd (omega arith)
reduced_bit-sum x (suc (suc y)) a b = absurd (omega arith)

lowest : (n : ℕ) → bit_and n 1 ≡ bit_at n 0
lowest n = omega (arith, and_pow n 0)

word_times_x-xor : (a b : ℕ) → word_times_x (bit_xor a b) ≡ bit_xor (word_times_x a) (word_times_x b)
unfolding word_times_x reduced_bit
word_times_x-xor a b =
    let bit : bit_and (bit_xor a b) 1 ≡ (bit_and a 1 + bit_and b 1) % 2 = lowest (bit_xor a b) ∙ bit_at_xor a b 0 ∙ (λ i. (sym (lowest a) i + sym (lowest b) i) % 2) in
    let small_a : bit_and a 1 < 2 = omega (arith, lowest a, bit_at-lt a 0) in
    let small_b : bit_and b 1 < 2 = omega (arith, lowest b, bit_at-lt b 0) in
    (λ i. bit_xor (xor_shr a b 1 i) (reduced_bit (bit i)))
    ∙ ap (bit_xor (bit_xor (a / 2) (b / 2))) (reduced_bit-sum (bit_and a 1) (bit_and b 1) small_a small_b)
    ∙ xor_pairs (a / 2) (b / 2) (reduced_bit (bit_and a 1)) (reduced_bit (bit_and b 1))

word_times_x4-xor : (a b : ℕ) → word_times_x4 (bit_xor a b) ≡ bit_xor (word_times_x4 a) (word_times_x4 b)
unfolding word_times_x4
word_times_x4-xor a b =
    ap (λ n. word_times_x (word_times_x (word_times_x n))) (word_times_x-xor a b)
    ∙ ap (λ n. word_times_x (word_times_x n)) (word_times_x-xor (word_times_x a) (word_times_x b))
    ∙ ap word_times_x (word_times_x-xor (word_times_x (word_times_x a)) (word_times_x (word_times_x b)))
    ∙ word_times_x-xor (word_times_x (word_times_x (word_times_x a))) (word_times_x (word_times_x (word_times_x b)))

-- an even word is shifted alone
even_times_x : (n : ℕ) → word_times_x (2 * n) ≡ n
unfolding word_times_x
even_times_x n =
    let bit : bit_and (2 * n) 1 ≡ 0 = lowest (2 * n) ∙ omega arith in
    let half : 2 * n / 2 ≡ n = omega arith in
    (λ i. bit_xor (half i) (cond (eqb (bit i) 1) 0xe100_0000_0000_0000_0000_0000_0000_0000 0)) ∙ xor_zero_r n

high_times_x4 : (n : ℕ) → word_times_x4 (16 * n) ≡ n
unfolding word_times_x4
high_times_x4 n =
    let all : 16 * n ≡ 2 * (2 * (2 * (2 * n))) = omega arith in
    ap (λ m. word_times_x (word_times_x (word_times_x (word_times_x m)))) all
    ∙ ap (λ m. word_times_x (word_times_x (word_times_x m))) (even_times_x (2 * (2 * (2 * n))))
    ∙ ap (λ m. word_times_x (word_times_x m)) (even_times_x (2 * (2 * n)))
    ∙ ap word_times_x (even_times_x (2 * n))
    ∙ even_times_x n

-- a word is its high bits and the lowest four
low_and_high : (n : ℕ) → n ≡ bit_xor (16 * (n / 16)) (n % 16)
low_and_high n =
    let small : n % 16 < 2 ^ 4 = omega arith in
    let block = xor_block 4 (n / 16) 0 0 (n % 16) (omega arith) small in
    let left : n / 16 * 16 + 0 ≡ 16 * (n / 16) = omega arith in
    let right : 0 * 16 + n % 16 ≡ n % 16 = omega arith in
    sym ((λ i. bit_xor (sym left i) (sym right i)) ∙ block ∙ (λ i. xor_zero_r (n / 16) i * 16 + xor_zero_l (n % 16) i) ∙ omega arith)

-- one term of the product
pub term_at_one : (n place other : ℕ) → bit_and (n / 2 ^ place) 1 ≡ 1 → other ≡ cond (eqb (bit_at n place) 1) other 0
term_at_one n place other one =
    let test : eqb (bit_at n place) 1 ≡ true = eq-eqb _ _ (sym (shr_and_one n place) ∙ one) in
    rw test refl

pub term_at_zero : (n place other : ℕ) → (bit_and (n / 2 ^ place) 1 ≡ 1 → ⊥) → 0 ≡ cond (eqb (bit_at n place) 1) other 0
term_at_zero n place other clear =
    let test : eqb (bit_at n place) 1 ≡ false = ne_eqb _ _ (λ (e : bit_at n place ≡ 1). clear (shr_and_one n place ∙ e)) in
    rw test refl

zero_times_x : word_times_x 0 ≡ 0
unfolding word_times_x
zero_times_x = refl

term_times_x : (b : Bool) (n : ℕ) → word_times_x (cond b n 0) ≡ cond b (word_times_x n) 0
term_times_x true n = refl
term_times_x false n = zero_times_x

-- a product by a word times x
word_product-times_x : (p : List ℕ) (n : ℕ) → word_product p (word_times_x n) ≡ word_times_x (word_product p n)
unfolding word_product
word_product-times_x [] n = sym zero_times_x
word_product-times_x (c ∷ p) n =
    (λ i. bit_xor (sym (term_times_x (eqb c 1) n) i) (word_product-times_x p (word_times_x n) i))
    ∙ sym (word_times_x-xor (cond (eqb c 1) n 0) (word_product p (word_times_x n)))

word_product-times_x4 : (p : List ℕ) (n : ℕ) → word_product p (word_times_x4 n) ≡ word_times_x4 (word_product p n)
unfolding word_times_x4
word_product-times_x4 p n =
    word_product-times_x p (word_times_x (word_times_x (word_times_x n)))
    ∙ ap word_times_x (word_product-times_x p (word_times_x (word_times_x n)))
    ∙ ap (λ m. word_times_x (word_times_x m)) (word_product-times_x p (word_times_x n))
    ∙ ap (λ m. word_times_x (word_times_x (word_times_x m))) (word_product-times_x p n)

-- four more coefficients
word_product-four : (a b c d : ℕ) (p : List ℕ) (n : ℕ) → word_product (a ∷ b ∷ c ∷ d ∷ p) n ≡ bit_xor (word_times_x4 (word_product p n)) (word_product (a ∷ b ∷ c ∷ d ∷ []) n)
unfolding word_product word_times_x4
word_product-four a b c d p n =
    let n2 = word_times_x n in
    let n3 = word_times_x n2 in
    let n4 = word_times_x n3 in
    let first = cond (eqb a 1) n 0 in
    let second = cond (eqb b 1) n2 0 in
    let third = cond (eqb c 1) n3 0 in
    let fourth = cond (eqb d 1) n4 0 in
    let rest = word_product p (word_times_x n4) in
    let four = bit_xor first (bit_xor second (bit_xor third (bit_xor fourth 0))) in
    let moved : bit_xor first (bit_xor second (bit_xor third (bit_xor fourth rest))) ≡ bit_xor four rest =
    sym (xor_assoc first (bit_xor second (bit_xor third (bit_xor fourth 0))) rest
    ∙ ap (bit_xor first) (xor_assoc second (bit_xor third (bit_xor fourth 0)) rest
    ∙ ap (bit_xor second) (xor_assoc third (bit_xor fourth 0) rest
    ∙ ap (bit_xor third) (ap (λ f. bit_xor f rest) (xor_zero_r fourth))))) in
    moved ∙ xor_comm four rest ∙ ap (λ r. bit_xor r four) (word_product-times_x4 p n)

four_bits : (n m k : ℕ) → n / 2 ^ k % 16 ≡ m → bits_below 4 m ≡ bits_below 4 (n / 2 ^ k)
four_bits n m k is =
    let h = n / 2 ^ k in
    let b3 : m / 8 % 2 ≡ h / 8 % 2 = omega arith in
    let b2 : m / 4 % 2 ≡ h / 4 % 2 = omega arith in
    let b1 : m / 2 % 2 ≡ h / 2 % 2 = omega arith in
    let b0 : m / 1 % 2 ≡ h / 1 % 2 = omega arith in
    λ i. b3 i ∷ b2 i ∷ b1 i ∷ b0 i ∷ []

-- one step of the loop over the digits of a word
pub digits_step : (left key i digit before entry after : ℕ) → digit ≡ bit_and (left / 2 ^ (4 * i)) 15 → before ≡ word_product (bits_below (4 * i) left) key → entry ≡ word_product (bits_below 4 digit) key → after ≡ bit_xor (word_times_x4 before) entry → after ≡ word_product (bits_below (4 * (i + 1)) left) key
digits_step left key i digit before entry after is_digit is_before is_entry is_after =
    let more : 4 * (i + 1) ≡ suc (suc (suc (suc (4 * i)))) = omega arith in
    let m0 = 4 * i in
    let m1 = suc m0 in
    let m2 = suc m1 in
    let m3 = suc m2 in
    let h = left / 2 ^ m0 in
    let p1 : m0 + 1 ≡ m1 = omega arith in
    let p2 : m0 + 2 ≡ m2 = omega arith in
    let p3 : m0 + 3 ≡ m3 = omega arith in
    let p0 : m0 + 0 ≡ m0 = omega arith in
    let b0 : bit_at h 0 ≡ bit_at left m0 = ap (λ x. x % 2) (shr-shr left m0 0) ∙ ap (bit_at left) p0 in
    let b1 : bit_at h 1 ≡ bit_at left m1 = ap (λ x. x % 2) (shr-shr left m0 1) ∙ ap (bit_at left) p1 in
    let b2 : bit_at h 2 ≡ bit_at left m2 = ap (λ x. x % 2) (shr-shr left m0 2) ∙ ap (bit_at left) p2 in
    let b3 : bit_at h 3 ≡ bit_at left m3 = ap (λ x. x % 2) (shr-shr left m0 3) ∙ ap (bit_at left) p3 in
    let digit_bits : bits_below 4 digit ≡ bits_below 4 h = four_bits left digit m0 (sym (is_digit ∙ and_mask h 4)) in
    let same : bits_below 4 digit ≡ bit_at left m3 ∷ bit_at left m2 ∷ bit_at left m1 ∷ bit_at left m0 ∷ [] = digit_bits ∙ (λ j. b3 j ∷ b2 j ∷ b1 j ∷ b0 j ∷ []) in
    rw more (is_after ∙ (λ j. bit_xor (word_times_x4 (is_before j)) ((is_entry ∙ ap (λ p. word_product p key) same) j))
    ∙ sym (word_product-four (bit_at left m3) (bit_at left m2) (bit_at left m1) (bit_at left m0) (bits_below m0 left) key))

-- the table of what x^4 makes of the lowest four bits
abbrev lowest_times_x4 : List ℕ
lowest_times_x4 =
    0 ∷ 37384537381450758925419573570384691200 ∷ 74769074762901517850839147140769382400 ∷ 48350668346676314876875981817697533952 ∷ 149538149525803035701678294281538764800 ∷ 144387391042136486694176041922952429568 ∷ 96701336693352629753751963635395067904 ∷ 112818226142244734712710624241294245888 ∷ 299076299051606071403356588563077529600 ∷ 336460836433056830328776162133462220800 ∷ 288774782084272973388352083845904859136 ∷ 262356375668047770414388918522833010688 ∷ 193402673386705259507503927270790135808 ∷ 188251914903038710500001674912203800576 ∷ 225636452284489469425421248482588491776 ∷ 241753341733381574384379909088487669760 ∷ []

lowest_entry : (k : ℕ) → k < 16 → get_or lowest_times_x4 k 0 ≡ word_times_x4 k
unfolding word_times_x4 word_times_x
lowest_entry zero small = refl
lowest_entry (suc zero) small = refl
lowest_entry (suc (suc zero)) small = refl
lowest_entry (suc (suc (suc zero))) small = refl
lowest_entry (suc (suc (suc (suc zero)))) small = refl
lowest_entry (suc (suc (suc (suc (suc zero))))) small = refl
lowest_entry (suc (suc (suc (suc (suc (suc zero)))))) small = refl
lowest_entry (suc (suc (suc (suc (suc (suc (suc zero))))))) small = refl
lowest_entry (suc (suc (suc (suc (suc (suc (suc (suc zero)))))))) small = refl
lowest_entry (suc (suc (suc (suc (suc (suc (suc (suc (suc zero))))))))) small = refl
lowest_entry (suc (suc (suc (suc (suc (suc (suc (suc (suc (suc zero)))))))))) small = refl
lowest_entry (suc (suc (suc (suc (suc (suc (suc (suc (suc (suc (suc zero))))))))))) small = refl
lowest_entry (suc (suc (suc (suc (suc (suc (suc (suc (suc (suc (suc (suc zero)))))))))))) small = refl
lowest_entry (suc (suc (suc (suc (suc (suc (suc (suc (suc (suc (suc (suc (suc zero))))))))))))) small = refl
lowest_entry (suc (suc (suc (suc (suc (suc (suc (suc (suc (suc (suc (suc (suc (suc zero)))))))))))))) small = refl
lowest_entry (suc (suc (suc (suc (suc (suc (suc (suc (suc (suc (suc (suc (suc (suc (suc zero))))))))))))))) small = refl
lowest_entry (suc (suc (suc (suc (suc (suc (suc (suc (suc (suc (suc (suc (suc (suc (suc (suc n)))))))))))))))) small = absurd (omega arith)

-- a word times x^4 by the table
pub times_x4_is : (n entry : ℕ) → entry ≡ get_or lowest_times_x4 (bit_and n 15) 0 → bit_xor (n / 16) entry ≡ word_times_x4 n
times_x4_is n entry is =
    let low : bit_and n 15 ≡ n % 16 = and_mask n 4 in
    let small : n % 16 < 16 = omega arith in
    let looked_up : entry ≡ word_times_x4 (n % 16) = is ∙ ap (λ k. get_or lowest_times_x4 k 0) low ∙ lowest_entry (n % 16) small in
    (λ i. bit_xor (sym (high_times_x4 (n / 16)) i) (looked_up i)) ∙ sym (word_times_x4-xor (16 * (n / 16)) (n % 16)) ∙ ap word_times_x4 (sym (low_and_high n))
