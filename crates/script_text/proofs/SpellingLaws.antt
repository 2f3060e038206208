-- Words that are written are read again: numbers, and the words of a line.
use Rattle.std.proofs.Common.{◌≡◌, ℕ, zero, suc, ◌+◌, ◌-◌, ◌*◌, ◌^◌, ◌<◌, ◌≤◌, Bool, true, false, cond, List, [], ◌∷◌, ◌++◌, length, get_or, refl, sym, ◌∙◌, ap, append_assoc, append-nil, arith}
use Rattle.std.specs.Prelude.{Ok, Err, decimal, nat_le, nat_lt, ◌==◌, ◌&&◌}
use Rattle.std.specs.List.{AllByRecursion, list_all}
use Rattle.std.proofs.lemmas.Bool.{and_parts}
use Rattle.std.proofs.lemmas.Bool.Decides.{nat_tests}
use Rattle.std.proofs.lemmas.Fmt.{decimal_digit, digits_decimal, digits_value-decimal, decimal_nonempty, first_decimal}
use Rattle.std.proofs.lemmas.List.Folds.{list_all-append}
use Rattle.std.proofs.lemmas.List.Splits.{slice_split_at, slice_split_none}
use Rattle.std.proofs.lemmas.Str.Parse.{IsDigitsTest, FoldsDigits, IsNumeralModel, numerals_by_fold}
use Rattle.snp_model.specs.Lines as lines
use Rattle.snp_model.specs.Lines.{words_of, is_plain, is_decimal, is_decimal_digit, is_prefixed, is_printable, digit_value, value_after, decimal_of, number_of, number, below}
use Rattle.snp_model.specs.Spelling.{behind, joined, numbers}
use Rattle.snp_model.proofs.LineLaws.{bind_ok, guard_ok, number_ok}
use Rattle.script_text.proofs.PartsLaws.{HasNo, all_apart}

-- the tests and the value of digits are those of std
tells : IsDigitsTest (λ ds. list_all is_decimal_digit ds ≡ true)
tells = record { empty = refl; parts = both; more = more }
  where
    both : (c : ℕ) (cs : List ℕ) → list_all is_decimal_digit (c ∷ cs) ≡ true → ((48 ≤ c) × (c ≤ 57)) × (list_all is_decimal_digit cs ≡ true)
    both c cs e = ((grind (arith, nat_tests, e), grind (arith, nat_tests, e)), grind (arith, nat_tests, e))

    more : (c : ℕ) (cs : List ℕ) → (48 ≤ c) × (c ≤ 57) → list_all is_decimal_digit cs ≡ true → list_all is_decimal_digit (c ∷ cs) ≡ true
    more c cs k e = let low = k.0 in let high = k.1 in grind (arith, nat_tests, low, high, e)

folds : FoldsDigits (value_after 10)
folds = record { empty = λ n. refl; more = λ n c cs k. ap (λ (d : ℕ). value_after 10 (n * 10 + d) cs) (digit c k.1) }
  where
    digit : (c : ℕ) → c ≤ 57 → digit_value c ≡ c - 48
    digit c most = grind (arith, nat_tests, most)

own : IsNumeralModel (λ ds. list_all is_decimal_digit ds ≡ true) (value_after 10 0)
own = numerals_by_fold (λ ds. list_all is_decimal_digit ds ≡ true) tells (value_after 10) folds

pub digits_only : (n : ℕ) → n < 2 ^ 64 → list_all is_decimal_digit (decimal n) ≡ true
digits_only n h = digits_decimal own n h

-- digits have no prefix
no_prefix : (ds : List ℕ) → list_all is_decimal_digit ds ≡ true → is_prefixed ds ≡ false
no_prefix [] all = refl
no_prefix (a ∷ []) all = refl
no_prefix (a ∷ b ∷ ds) all = grind (arith, nat_tests, all)

-- nor a leading zero
no_zero : (ds : List ℕ) → list_all is_decimal_digit ds ≡ true → 0 < length ds → 48 < get_or ds 0 0 → is_decimal ds ≡ true
no_zero [] all some first = absurd (omega arith)
no_zero (a ∷ ds) all some first = grind (arith, nat_tests, all, first)

canonical : (n : ℕ) → n < 2 ^ 64 → is_decimal (decimal n) ≡ true
canonical zero h = ap is_decimal (decimal_digit 0 (omega arith))
canonical (suc n) h = no_zero (decimal (suc n)) (digits_only (suc n) h) (decimal_nonempty (suc n) h) (first_decimal (suc n) (omega arith) h)

-- a number
pub number_decimal : (n : ℕ) → n < 2 ^ 64 → number (decimal n) ≡ Ok n
unfolding number number_of decimal_of
number_decimal n h =
    let small : nat_lt n (2 ^ 64) ≡ true = grind (arith, nat_tests, h) in
    rw (no_prefix (decimal n) (digits_only n h), canonical n h, digits_value-decimal own n h, small) refl

-- the same, where only base 10 is read
pub decimal_again : (n : ℕ) → n < 2 ^ 64 → lines.decimal (decimal n) ≡ Ok n
unfolding lines.decimal decimal_of
decimal_again n h =
    let small : nat_lt n (2 ^ 64) ≡ true = grind (arith, nat_tests, h) in
    rw (canonical n h, digits_value-decimal own n h, small) refl

-- a number within bounds is a number
pub below_number : (end : ℕ) (w : List ℕ) (n : ℕ) → below end w ≡ Ok n → (number w ≡ Ok n) × (nat_lt n end ≡ true)
unfolding below
below_number end w n h =
    let step = bind_ok (number w) (λ (k : ℕ). cond (nat_lt k end) (Ok k) (Err _)) n h in
    let one = guard_ok (nat_lt step.0 end) step.0 n _ step.2 in
    (step.1 ∙ ap (λ (k : ℕ). Ok k) one.1, ap (λ (k : ℕ). nat_lt k end) (sym one.1) ∙ one.0)

pub below_small : (end : ℕ) (w : List ℕ) (n : ℕ) → below end w ≡ Ok n → n < 2 ^ 64
below_small end w n h = number_ok w n (below_number end w n h).0

-- bytes of a word: printable, and no space
abbrev pub is_graphic : ℕ → Bool
is_graphic b = nat_le 0x21 b && nat_le b 0x7e

abbrev pub IsWord : List ℕ → Type 0
IsWord w = list_all is_graphic w ≡ true

-- what passes a test passes a weaker one
pub all_pass : (strong weak : ℕ → Bool) → ((b : ℕ) → strong b ≡ true → weak b ≡ true) → (bytes : List ℕ) → list_all strong bytes ≡ true → list_all weak bytes ≡ true
all_pass strong weak weaker [] all = refl
all_pass strong weak weaker (b ∷ bytes) all =
    let are = and_parts (strong b) (list_all strong bytes) all in
    rw (weaker b are.0) (all_pass strong weak weaker bytes are.1)

pub decimal_word : (n : ℕ) → n < 2 ^ 64 → IsWord (decimal n)
decimal_word n h = all_pass is_decimal_digit is_graphic (λ d is. grind (arith, nat_tests, is)) (decimal n) (digits_only n h)

no_spaces : (w : List ℕ) → IsWord w → HasNo 32 w
no_spaces w is = all_apart is_graphic 32 (λ b graphic. grind (arith, nat_tests, graphic)) w is

-- the words of a line are those that it was made of
pub words_again : (w : List ℕ) (ws : List (List ℕ)) → IsWord w → AllByRecursion IsWord ws → words_of (w ++ behind ws) ≡ w ∷ ws
words_again w [] is are = ap words_of (append-nil w) ∙ slice_split_none (λ b. b == 32) w (no_spaces w is)
words_again w (v ∷ vs) is are =
    slice_split_at (λ b. b == 32) w 32 (v ++ behind vs) (no_spaces w is) refl ∙ ap (λ (others : List (List ℕ)). w ∷ others) (words_again v vs are.0 are.1)

word_printable : (w : List ℕ) → IsWord w → list_all is_printable w ≡ true
word_printable w is = all_pass is_graphic is_printable (λ b graphic. grind (arith, nat_tests, graphic)) w is

pub line_printable : (w : List ℕ) (ws : List (List ℕ)) → IsWord w → AllByRecursion IsWord ws → list_all is_printable (w ++ behind ws) ≡ true
line_printable w [] is are = ap (list_all is_printable) (append-nil w) ∙ word_printable w is
line_printable w (v ∷ vs) is are = list_all-append is_printable w (32 ∷ (v ++ behind vs)) ∙ rw (word_printable w is) (line_printable v vs are.0 are.1)

-- so it is plain, if they are few
pub line_plain : (w : List ℕ) (ws : List (List ℕ)) → IsWord w → AllByRecursion IsWord ws → nat_le (length (w ∷ ws)) 17 ≡ true → is_plain (joined (w ∷ ws)) ≡ true
line_plain w ws is are few = rw (line_printable w ws is are, words_again w ws is are) few

-- words behind others are one list of words
behind_more : (ws vs : List (List ℕ)) → behind ws ++ behind vs ≡ behind (ws ++ vs)
behind_more [] vs = refl
behind_more (w ∷ ws) vs = ap (λ (bytes : List ℕ). 32 ∷ bytes) (append_assoc w (behind ws) (behind vs) ∙ ap (λ (bytes : List ℕ). w ++ bytes) (behind_more ws vs))

pub joined_more : (w : List ℕ) (ws vs : List (List ℕ)) → joined (w ∷ ws) ++ behind vs ≡ joined (w ∷ (ws ++ vs))
joined_more w ws vs = append_assoc w (behind ws) (behind vs) ∙ ap (λ (bytes : List ℕ). w ++ bytes) (behind_more ws vs)

-- three numbers are three words
pub behind_three : (ps : List ℕ) → length ps ≡ 3
    → behind (numbers ps) ≡ 32 ∷ (decimal (get_or ps 0 0) ++ 32 ∷ (decimal (get_or ps 1 0) ++ 32 ∷ decimal (get_or ps 2 0)))
behind_three [] three = absurd (omega arith)
behind_three (a ∷ []) three = absurd (omega arith)
behind_three (a ∷ b ∷ []) three = absurd (omega arith)
behind_three (a ∷ b ∷ c ∷ []) three = ap (λ (last : List ℕ). 32 ∷ (decimal a ++ 32 ∷ (decimal b ++ 32 ∷ last))) (append-nil (decimal c))
behind_three (a ∷ b ∷ c ∷ d ∷ ps) three = absurd (omega arith)
