-- Two numbers with a separator between them are read again, and single numbers below an end.
use Rattle.std.proofs.Common.{◌≡◌, ℕ, ◌^◌, ◌<◌, true, false, List, ◌∷◌, refl, ◌∙◌, arith}
use Rattle.std.specs.Prelude.{Option, Some, None, Ok, bytes_eq, codes, decimal, nat_lt, ◌==◌, IfSome}
use Rattle.std.specs.Fmt.{digits}
use Rattle.std.proofs.lemmas.Bool.Decides.{nat_tests}
use Rattle.std.proofs.lemmas.List.Elements.{All-cons}
use Rattle.std.proofs.lemmas.List.Folds.{list_all-append}
use Rattle.snp_model.specs.EventText.{hex, read_text}
use Rattle.snp_model.specs.Lines.{is_decimal_digit, is_hex_digit}
use Rattle.script_text.proofs.HexWords.{hex_all, hex_spelled}
use Rattle.script_text.proofs.PartsLaws.{HasNo, all_apart, cut_again}
use Rattle.script_text.proofs.SpellingLaws.{IsWord, is_graphic, decimal_again, decimal_word, digits_only}
use Rattle.report_text.specs.EventLines.{attempt_word, decimal_below, frame_word, gpn_word, read_word}
use Rattle.report_text.proofs.EventWords.{around}
use Rattle.report_text.proofs.HexLaws.{hex_again}

-- digits have no dot and no colon
no_dot : (n : ℕ) → n < 2 ^ 64 → HasNo 46 (decimal n)
no_dot n h = all_apart is_decimal_digit 46 (λ b is. grind (arith, nat_tests, is)) (decimal n) (digits_only n h)

no_colon : (n : ℕ) → n < 2 ^ 64 → HasNo 58 (decimal n)
no_colon n h = all_apart is_decimal_digit 58 (λ b is. grind (arith, nat_tests, is)) (decimal n) (digits_only n h)

hex_no_colon : (n : ℕ) → n < 2 ^ 64 → HasNo 58 (hex n)
unfolding hex
hex_no_colon n h =
    let P : ℕ → Type 0 = λ b. (b == 58) ≡ false in
    let ds : List ℕ = digits 16 false n in
    All-cons P 48 (120 ∷ ds) refl (All-cons P 120 ds refl (all_apart is_hex_digit 58 (λ b is. grind (arith, nat_tests, is)) ds (hex_all n h)))

pub decimal_below_again : (end n : ℕ) → n < end → n < 2 ^ 64 → decimal_below end (decimal n) ≡ Ok n
unfolding decimal_below
decimal_below_again end n below small = let b : nat_lt n end ≡ true = grind (arith, nat_tests, below) in rw (decimal_again n small, b) refl

pub attempt_again : (item attempt : ℕ) → item < 2 ^ 32 → attempt < 2 ^ 32 → attempt_word (around 46 (decimal item) (decimal attempt)) ≡ Ok (item, attempt)
unfolding attempt_word
attempt_again item attempt i a =
    rw (cut_again 46 (decimal item) (decimal attempt) (no_dot item (omega arith)), decimal_below_again (2 ^ 32) item i (omega arith), decimal_below_again (2 ^ 32) attempt a (omega arith)) refl

pub frame_again : (frame index : ℕ) → frame < 2 ^ 32 → index < 2 ^ 16 → frame_word (around 58 (decimal frame) (decimal index)) ≡ Ok (frame, index)
unfolding frame_word
frame_again frame index f i =
    rw (cut_again 58 (decimal frame) (decimal index) (no_colon frame (omega arith)), decimal_below_again (2 ^ 32) frame f (omega arith), decimal_below_again (2 ^ 16) index i (omega arith)) refl

pub gpn_again : (gpn index : ℕ) → gpn < 2 ^ 64 → index < 2 ^ 16 → gpn_word (around 58 (hex gpn) (decimal index)) ≡ Ok (gpn, index)
unfolding gpn_word
gpn_again gpn index g i =
    rw (cut_again 58 (hex gpn) (decimal index) (hex_no_colon gpn g), hex_again gpn g, decimal_below_again (2 ^ 16) index i (omega arith)) refl

-- they are words
between : (c : ℕ) (before after : List ℕ) → is_graphic c ≡ true → IsWord before → IsWord after → IsWord (around c before after)
between c before after is b a = list_all-append is_graphic before (c ∷ after) ∙ rw (b, is) a

pub around_spelled : (c n m : ℕ) → is_graphic c ≡ true → n < 2 ^ 64 → m < 2 ^ 64 → IsWord (around c (decimal n) (decimal m))
around_spelled c n m is a b = between c (decimal n) (decimal m) is (decimal_word n a) (decimal_word m b)

pub hex_around_spelled : (c n m : ℕ) → is_graphic c ≡ true → n < 2 ^ 64 → m < 2 ^ 64 → IsWord (around c (hex n) (decimal m))
hex_around_spelled c n m is a b = between c (hex n) (decimal m) is (hex_spelled n a) (decimal_word m b)

-- a word that was read, or a dash
hex_is_no_dash : (n : ℕ) → bytes_eq (hex n) (codes "-") ≡ false
unfolding hex
hex_is_no_dash n = refl

pub read_again : (value : Option ℕ) → IfSome value (λ v. v < 2 ^ 64) → read_word (read_text value) ≡ Ok value
unfolding read_word read_text
read_again None is = refl
read_again (Some value) is = rw (hex_is_no_dash value, hex_again value is) refl

pub read_spelled : (value : Option ℕ) → IfSome value (λ v. v < 2 ^ 64) → IsWord (read_text value)
unfolding read_text
read_spelled None is = refl
read_spelled (Some value) is = hex_spelled value is
