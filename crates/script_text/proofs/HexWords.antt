-- Numbers and bytes that are written in base 16: their digits, which are words, and what these say.
use Rattle.std.proofs.Common.{◌≡◌, ℕ, zero, suc, ◌+◌, ◌*◌, ◌/◌, ◌%◌, ◌^◌, ◌<◌, ◌≤◌, Bool, true, false, cond, List, [], ◌∷◌, ◌++◌, length, get_or, refl, sym, ◌∙◌, ap, subst, inl, inr, arith, eq-zero-or-pos, length-append, pow-suc}
use Rattle.std.specs.Prelude.{nat_lt, map}
use Rattle.std.specs.List.{list_all, range_with_len}
use Rattle.std.specs.Fmt.{digits, digit_glyph}
use Rattle.std.proofs.lemmas.Bool.Decides.{nat_tests}
use Rattle.std.proofs.lemmas.Fmt.{hex_one_digit}
use Rattle.std.proofs.lemmas.List.Folds.{list_all-append}
use Rattle.snp_model.specs.EventText.{hex, hex_bytes}
use Rattle.snp_model.specs.Lines.{digit_value, is_hex_digit, value_after}
use Rattle.snp_model.specs.Metadata.{AreBytes}
use Rattle.snp_model.specs.ScenarioLines.{key_byte}
use Rattle.script_text.proofs.HexDigits.{digits_step}
use Rattle.script_text.proofs.SpellingLaws.{IsWord, all_pass, is_graphic}

-- one digit
pub glyph : (d : ℕ) → d < 16 → (digit_value (digit_glyph false d) ≡ d) × (is_hex_digit (digit_glyph false d) ≡ true) × (0 < d → 48 < digit_glyph false d)
glyph d h = by (nat_lt d 10) refl
  where
    by : (t : Bool) → nat_lt d 10 ≡ t → (digit_value (cond t (48 + d) (87 + d)) ≡ d) × (is_hex_digit (cond t (48 + d) (87 + d)) ≡ true) × (0 < d → 48 < cond t (48 + d) (87 + d))
    by true e = let small : d < 10 = grind (arith, nat_tests, e) in (grind (arith, nat_tests, small), grind (arith, nat_tests, small), λ some. omega arith)
    by false e = let large : 10 ≤ d = grind (arith, nat_tests, e) in (grind (arith, nat_tests, large, h), grind (arith, nat_tests, large, h), λ some. omega arith)

-- one digit more
value_more : (base n c : ℕ) (ds : List ℕ) → value_after base n (ds ++ c ∷ []) ≡ value_after base n ds * base + digit_value c
value_more base n c [] = refl
value_more base n c (d ∷ ds) = value_more base (n * base + digit_value d) c ds

first_same : (ds es : List ℕ) → 0 < length ds → get_or (ds ++ es) 0 0 ≡ get_or ds 0 0
first_same [] es some = absurd (omega arith)
first_same (d ∷ ds) es some = refl

-- the fewest digits of n
pub record IsHexOf (most n : ℕ) (ds : List ℕ) : Type 0 where
  pub all : list_all is_hex_digit ds ≡ true
  pub value : value_after 16 0 ds ≡ n
  pub some : 0 < length ds
  pub short : length ds ≤ most
  pub one : n < 16 → length ds ≡ 1
  pub first : 0 < n → 48 < get_or ds 0 0

one_digit : (k n : ℕ) → n < 16 → IsHexOf (suc k) n (digits 16 false n)
one_digit k n h =
    let g = glyph n h in
    let all : list_all is_hex_digit (digit_glyph false n ∷ []) ≡ true = rw g.1 refl in
    subst (IsHexOf (suc k) n) (sym (hex_one_digit false n h))
    (record { all = all; value = omega (arith, g.0); some = omega arith; short = omega arith; one = λ _. refl; first = g.2 })

more_digits : (k n : ℕ) (ds : List ℕ) → 16 ≤ n → IsHexOf k (n / 16) ds → IsHexOf (suc k) n (ds ++ digit_glyph false (n % 16) ∷ [])
more_digits k n ds large is =
    let last : ℕ = digit_glyph false (n % 16) in
    let g = glyph (n % 16) (omega arith) in
    let end : list_all is_hex_digit (last ∷ []) ≡ true = rw g.1 refl in
    record {
      all = list_all-append is_hex_digit ds (last ∷ []) ∙ rw (is.all, end) refl;
      value = omega (arith, value_more 16 0 last ds, is.value, g.0);
      some = omega (arith, length-append ds (last ∷ []));
      short = omega (arith, length-append ds (last ∷ []), is.short);
      one = λ small. absurd (omega arith);
      first = λ some. rw (first_same ds (last ∷ []) is.some) (is.first (omega arith));
    }

-- the digits that are written
pub hex_digits : (k n : ℕ) → n < 16 ^ suc k → n < 2 ^ 64 → IsHexOf (suc k) n (digits 16 false n)
hex_digits zero n few small = one_digit zero n (omega arith)
hex_digits (suc k) n few small =
    elim (eq-zero-or-pos (n / 16)) [
      | inl none ↦ one_digit (suc k) n (omega arith)
      | inr some ↦
          let large : 16 ≤ n = omega arith in
          subst (IsHexOf (suc (suc k)) n) (sym (digits_step n large small))
          (more_digits (suc k) n (digits 16 false (n / 16)) large (hex_digits k (n / 16) (omega (arith, pow-suc 16 (suc k))) (omega arith)))
    ]

-- hex digits are bytes of words
hex_graphic : (ds : List ℕ) → list_all is_hex_digit ds ≡ true → IsWord ds
hex_graphic ds all = all_pass is_hex_digit is_graphic (λ d is. grind (arith, nat_tests, is)) ds all

pub hex_all : (n : ℕ) → n < 2 ^ 64 → list_all is_hex_digit (digits 16 false n) ≡ true
hex_all n h = (hex_digits 15 n (omega arith) h).all

pub hex_spelled : (n : ℕ) → n < 2 ^ 64 → IsWord (hex n)
unfolding hex
hex_spelled n h = hex_graphic (digits 16 false n) (hex_digits 15 n (omega arith) h).all

-- the bytes behind the first
rest_bytes : (b : ℕ) (bytes : List ℕ) → AreBytes (b ∷ bytes) → AreBytes bytes
rest_bytes b bytes are = λ i. are (suc i)

-- the bytes of digits behind two others
shifted : (a b : ℕ) (w : List ℕ) (k n : ℕ) → map (key_byte (a ∷ b ∷ w)) (range_with_len (suc k) n) ≡ map (key_byte w) (range_with_len k n)
shifted a b w k zero = refl
shifted a b w k (suc n) =
    let here : key_byte (a ∷ b ∷ w) (suc k) ≡ key_byte w k = byte_at a b w k in
    let next : suc k + 1 ≡ suc (k + 1) = omega arith in
    rw (here, next) (ap (λ (bytes : List ℕ). key_byte w k ∷ bytes) (shifted a b w (k + 1) n))
  where
    behind_two : (a b : ℕ) (w : List ℕ) (j i : ℕ) → i ≡ suc (suc j) → get_or (a ∷ b ∷ w) i 0 ≡ get_or w j 0
    behind_two a b w j i is = rw is refl

    byte_at : (a b : ℕ) (w : List ℕ) (k : ℕ) → key_byte (a ∷ b ∷ w) (suc k) ≡ key_byte w k
    byte_at a b w k = rw (behind_two a b w (2 * k) (2 * suc k) (omega arith), behind_two a b w (2 * k + 1) (2 * suc k + 1) (omega arith)) refl

-- the bytes of the digits that are written
pub bytes_again : (bytes : List ℕ) → AreBytes bytes → map (key_byte (hex_bytes bytes)) (range_with_len 0 (length bytes)) ≡ bytes
unfolding hex_bytes
bytes_again [] are = refl
bytes_again (b ∷ bytes) are =
    let small : b < 256 = are 0 in
    let high = glyph (b / 16) (omega arith) in
    let low = glyph (b % 16) (omega arith) in
    let first : 16 * digit_value (digit_glyph false (b / 16)) + digit_value (digit_glyph false (b % 16)) ≡ b = rw (high.0, low.0) (omega arith) in
    rw first (ap (λ (rest : List ℕ). b ∷ rest) (shifted (digit_glyph false (b / 16)) (digit_glyph false (b % 16)) (hex_bytes bytes) 0 (length bytes) ∙ bytes_again bytes (rest_bytes b bytes are)))

-- they are hex digits, two for each byte
pub bytes_hex : (bytes : List ℕ) → AreBytes bytes → list_all is_hex_digit (hex_bytes bytes) ≡ true
unfolding hex_bytes
bytes_hex [] are = refl
bytes_hex (b ∷ bytes) are =
    let small : b < 256 = are 0 in
    let high = glyph (b / 16) (omega arith) in
    let low = glyph (b % 16) (omega arith) in
    rw (high.1, low.1) (bytes_hex bytes (rest_bytes b bytes are))

pub length-hex_bytes : (bytes : List ℕ) → length (hex_bytes bytes) ≡ 2 * length bytes
unfolding hex_bytes
length-hex_bytes [] = refl
length-hex_bytes (b ∷ bytes) = omega (arith, length-hex_bytes bytes)

pub bytes_spelled : (bytes : List ℕ) → AreBytes bytes → IsWord (hex_bytes bytes)
bytes_spelled bytes are = hex_graphic (hex_bytes bytes) (bytes_hex bytes are)
