-- Digits in base 16.
use Rattle.std.proofs.Common.{◌≡◌, ◌≢◌, ℕ, zero, suc, ◌+◌, ◌-◌, ◌*◌, ◌/◌, ◌%◌, ◌^◌, ◌<◌, ◌≤◌, Bool, ◌&&◌, T, eqb, false, List, [], ◌∷◌, ◌++◌, length, get_or, take, refl, ap, sym, ◌∙◌, inl, inr, arith, eq-zero-or-pos, eqb→eq, append_assoc, pow-suc, true}
use lib.Ieee.Fits.{and_l, and_r}
use Rattle.std.proofs.lemmas.Bool.Decides.{nat_tests}
use Rattle.std.specs.Fmt.{digits, digits_onto, digit_glyph}
use Rattle.snp_model.specs.EventText.{hex_bytes}
use Rattle.script_text.specs.declared.base16.TheConstants.{PAIRS}

-- the last k digits of n at most, and then these
unfoldable onto : ℕ → ℕ → List ℕ → List ℕ
onto k n acc = digits_onto k 16 false n acc

onto_all : (n : ℕ) → onto 64 n [] ≡ digits 16 false n
unfolding onto digits
onto_all n = refl

onto_more : (k n : ℕ) (acc : List ℕ) → n / 16 ≢ 0 → onto (suc k) n acc ≡ onto k (n / 16) (digit_glyph false (n % 16) ∷ acc)
unfolding onto
onto_more k n acc some = grind (arith, nat_tests)

onto_last : (k n : ℕ) (acc : List ℕ) → n / 16 ≡ 0 → onto (suc k) n acc ≡ digit_glyph false (n % 16) ∷ acc
unfolding onto
onto_last k n acc none = grind (arith, nat_tests)

onto_append : (k n : ℕ) (acc : List ℕ) → onto k n acc ≡ onto k n [] ++ acc
unfolding onto
onto_append zero n acc = refl
onto_append (suc k) n acc =
    elim (eq-zero-or-pos (n / 16)) [
      | inl z ↦ onto_last k n acc z ∙ ap (λ (l : List ℕ). l ++ acc) (sym (onto_last k n [] z))
      | inr p ↦
          let some : n / 16 ≢ 0 = λ e. omega arith in
          let last : List ℕ = digit_glyph false (n % 16) ∷ [] in
          onto_more k n acc some ∙ onto_append k (n / 16) (digit_glyph false (n % 16) ∷ acc)
          ∙ sym (append_assoc (onto k (n / 16) []) last acc)
          ∙ ap (λ (l : List ℕ). l ++ acc) (sym (onto_more k n [] some ∙ onto_append k (n / 16) last))
    ]

-- the limit of digits does not matter once it is large enough
onto_enough : (j k n : ℕ) (acc : List ℕ) → n < 16 ^ suc j → n < 16 ^ suc k → onto (suc j) n acc ≡ onto (suc k) n acc
onto_enough zero k n acc p q = let z : n / 16 ≡ 0 = omega arith in onto_last zero n acc z ∙ sym (onto_last k n acc z)
onto_enough (suc j) zero n acc p q = let z : n / 16 ≡ 0 = omega arith in onto_last (suc j) n acc z ∙ sym (onto_last zero n acc z)
onto_enough (suc j) (suc k) n acc p q =
    elim (eq-zero-or-pos (n / 16)) [
      | inl z ↦ onto_last (suc j) n acc z ∙ sym (onto_last (suc k) n acc z)
      | inr s ↦
          let some : n / 16 ≢ 0 = λ e. omega arith in
          let e1 = pow-suc 16 (suc j) in
          let e2 = pow-suc 16 (suc k) in
          onto_more (suc j) n acc some ∙ onto_enough j k (n / 16) (digit_glyph false (n % 16) ∷ acc) (omega arith) (omega arith) ∙ sym (onto_more (suc k) n acc some)
    ]

pub digits_step : (n : ℕ) → 16 ≤ n → n < 2 ^ 64 → digits 16 false n ≡ digits 16 false (n / 16) ++ (digit_glyph false (n % 16) ∷ [])
digits_step n h small =
    let some : n / 16 ≢ 0 = λ e. omega arith in
    let last : List ℕ = digit_glyph false (n % 16) ∷ [] in
    sym (onto_all n) ∙ onto_more 63 n [] some ∙ onto_enough 62 63 (n / 16) last (omega arith) (omega arith)
    ∙ onto_append 64 (n / 16) last ∙ ap (λ (l : List ℕ). l ++ last) (onto_all (n / 16))

abbrev pub pair : ℕ → List ℕ
pair p = digit_glyph false (p / 16) ∷ digit_glyph false (p % 16) ∷ []

-- two digits at a time, and four
pub digits_pair : (n : ℕ) → 256 ≤ n → n < 2 ^ 64 → digits 16 false n ≡ digits 16 false (n / 256) ++ pair (n % 256)
digits_pair n lo hi =
    let a : n / 16 / 16 ≡ n / 256 = omega arith in
    let b : n / 16 % 16 ≡ n % 256 / 16 = omega arith in
    let c : n % 16 ≡ n % 256 % 16 = omega arith in
    rw (digits_step n (omega arith) hi, digits_step (n / 16) (omega arith) (omega arith), append_assoc, a, b, ← c)

pub digits_four : (n : ℕ) → 65536 ≤ n → n < 2 ^ 64 → digits 16 false n ≡ digits 16 false (n / 65536) ++ (pair (n % 65536 / 256) ++ pair (n % 65536 % 256))
digits_four n lo hi =
    let a : n / 256 / 256 ≡ n / 65536 = omega arith in
    let b : n / 256 % 256 ≡ n % 65536 / 256 = omega arith in
    let c : n % 65536 % 256 ≡ n % 256 = omega arith in
    rw (digits_pair n (omega arith) hi, digits_pair (n / 256) (omega arith) (omega arith), append_assoc, a, b, c)

-- the table
abbrev are_pairs : ℕ → Bool
are_pairs zero = true
are_pairs (suc p) = (eqb (get_or PAIRS (2 * p) 0) (digit_glyph false (p / 16)) && eqb (get_or PAIRS (2 * p + 1) 0) (digit_glyph false (p % 16))) && are_pairs p

below : (n p : ℕ) → T (are_pairs n) → p < n → (get_or PAIRS (2 * p) 0 ≡ digit_glyph false (p / 16)) × (get_or PAIRS (2 * p + 1) 0 ≡ digit_glyph false (p % 16))
below zero p t h = absurd (omega arith)
below (suc n) p t h =
    elim (eq-zero-or-pos (n - p)) [
      | inl z ↦ let e : p ≡ n = omega arith in let a = and_l _ (are_pairs n) t in rw e (eqb→eq _ _ (and_l _ _ a), eqb→eq _ _ (and_r _ _ a))
      | inr g ↦ below n p (and_r _ (are_pairs n) t) (omega arith)
    ]

pub PAIRS_at : (p : ℕ) → p < 256 → (get_or PAIRS (2 * p) 0 ≡ digit_glyph false (p / 16)) × (get_or PAIRS (2 * p + 1) 0 ≡ digit_glyph false (p % 16))
PAIRS_at p h = below 256 p tt h

-- one more byte
pub hex_bytes_more : (bytes : List ℕ) (i : ℕ) → i < length bytes → hex_bytes (take (i + 1) bytes) ≡ hex_bytes (take i bytes) ++ pair (get_or bytes i 0)
unfolding hex_bytes
hex_bytes_more [] i h = absurd (omega arith)
hex_bytes_more (b ∷ bytes) zero h = refl
hex_bytes_more (b ∷ bytes) (suc i) h =
    let e : suc i + 1 ≡ suc (i + 1) = omega arith in
    rw e (ap (λ (ds : List ℕ). digit_glyph false (b / 16) ∷ digit_glyph false (b % 16) ∷ ds) (hex_bytes_more bytes i (omega arith)))

pub hex_bytes_none : hex_bytes [] ≡ []
unfolding hex_bytes
hex_bytes_none = refl

-- one more byte of a buffer's text
pub bytes_more : (front text bytes : List ℕ) (i : ℕ) → i < length bytes → text ≡ front ++ hex_bytes (take i bytes) → text ++ pair (get_or bytes i 0) ≡ front ++ hex_bytes (take (i + 1) bytes)
bytes_more front text bytes i h e =
    ap (λ (t : List ℕ). t ++ pair (get_or bytes i 0)) e
    ∙ append_assoc front (hex_bytes (take i bytes)) (pair (get_or bytes i 0))
    ∙ ap (λ (t : List ℕ). front ++ t) (sym (hex_bytes_more bytes i h))
