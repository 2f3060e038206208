-- Numbers that are written in base 16 are read again.
use Rattle.std.proofs.Common.{◌≡◌, ℕ, ◌^◌, ◌<◌, true, false, List, ◌∷◌, length, get_or, refl, inl, inr, arith, eq-zero-or-pos}
use Rattle.std.specs.Prelude.{Ok, nat_lt}
use Rattle.std.specs.Fmt.{digits}
use Rattle.std.proofs.lemmas.Bool.Decides.{nat_tests}
use Rattle.snp_model.specs.EventText.{hex}
use Rattle.snp_model.specs.Lines.{hex_of, is_hex, is_prefixed, number, number_of}
use Rattle.script_text.proofs.HexWords.{IsHexOf, hex_digits}
use Rattle.report_text.specs.EventLines.{hex_word, is_fewest}

fewest : (n : ℕ) (ds : List ℕ) → IsHexOf 16 n ds → is_fewest (48 ∷ 120 ∷ ds) ≡ true
fewest n ds is =
    elim (eq-zero-or-pos n) [
      | inl none ↦ let one : length ds ≡ 1 = is.one (omega arith) in grind (arith, nat_tests, one)
      | inr some ↦ let first : 48 < get_or ds 0 0 = is.first some in let long = is.some in grind (arith, nat_tests, first, long)
    ]

prefixed : (ds : List ℕ) → is_prefixed (48 ∷ 120 ∷ ds) ≡ true
prefixed ds = grind (arith, nat_tests)

pub hex_again : (n : ℕ) → n < 2 ^ 64 → hex_word (hex n) ≡ Ok n
unfolding hex_word number number_of hex_of hex
hex_again n h =
    let ds : List ℕ = digits 16 false n in
    let is : IsHexOf 16 n ds = hex_digits 15 n (omega arith) h in
    let all = is.all in
    let some = is.some in
    let short = is.short in
    let f : is_fewest (48 ∷ 120 ∷ ds) ≡ true = fewest n ds is in
    let p : is_prefixed (48 ∷ 120 ∷ ds) ≡ true = prefixed ds in
    let x : is_hex ds ≡ true = grind (arith, nat_tests, all, some, short) in
    let small : nat_lt n (2 ^ 64) ≡ true = grind (arith, nat_tests, h) in
    rw (f, p, x, is.value, small) refl
