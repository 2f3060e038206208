-- The number that digits spell.
use Rattle.std.proofs.Common.{◌≡◌, ℕ, ◌+◌, ◌*◌, ◌<◌, ◌≤◌, Bool, true, false, cond, List, [], ◌∷◌, length, drop, get_or, None, refl, sym, ◌∙◌, arith}
use Rattle.std.proofs.lemmas.List.{at_drop_more}
use Rattle.std.proofs.lemmas.Bool.Decides.{nat_tests}
use Rattle.std.proofs.Math.Nat.{le-mul_of_pos_right}
use Rattle.std.specs.List.{list_all}
use Rattle.snp_model.specs.Lines.{value_after, digit_value, in_word}
use Rattle.script_text.specs.Digits.{digit_test, spelled}

-- more digits make no smaller number
value_after-le : (base n : ℕ) (digits : List ℕ) → 0 < base → n ≤ value_after base n digits
value_after-le base n [] some = omega arith
value_after-le base n (d ∷ ds) some =
    let here : n ≤ n * base + digit_value d = omega (arith, le-mul_of_pos_right {m = base} n some) in
    let more : n * base + digit_value d ≤ value_after base (n * base + digit_value d) ds = value_after-le base (n * base + digit_value d) ds some in
    omega (arith, here, more)

not_in_word : (m k : ℕ) → None ≡ in_word m → m ≤ k → None ≡ in_word k
not_in_word m k e le = grind (arith, nat_tests)

none_by : (b : Bool) (n : ℕ) → None ≡ in_word n → None ≡ cond b (in_word n) None
none_by true n h = h
none_by false n h = refl

-- nor do they mend a number that is too great
pub too_great : (base value : ℕ) (digits : List ℕ) (i : ℕ) → 0 < base → i < length digits → value_after base value (drop i digits) ≡ value_after base 0 digits → None ≡ in_word (value * base + digit_value (get_or digits i 0)) → None ≡ spelled base digits
too_great base value digits i some inside so_far h =
    let next : ℕ = value * base + digit_value (get_or digits i 0) in
    let step : value_after base value (drop i digits) ≡ value_after base value (get_or digits i 0 ∷ drop (i + 1) digits) = at_drop_more (value_after base value) digits i 0 inside in
    let more : next ≤ value_after base next (drop (i + 1) digits) = value_after-le base next (drop (i + 1) digits) some in
    let same : value_after base next (drop (i + 1) digits) ≡ value_after base 0 digits = sym step ∙ so_far in
    none_by (list_all (digit_test base) digits) _ (not_in_word next _ h (rw (← same) more))
