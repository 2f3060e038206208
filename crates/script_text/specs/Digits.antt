-- The number that digits spell.
use Rattle.std.specs.Prelude.{ℕ, ◌==◌, Bool, if◌then◌else◌, List, Option, None}
use Rattle.std.specs.List.{list_all}
use Rattle.snp_model.specs.Lines.{is_decimal_digit, is_hex_digit, in_word, value_after}

-- whether a byte is a digit in base 10 or 16
abbrev pub digit_test : ℕ → ℕ → Bool
digit_test base = if base == 16 then is_hex_digit else is_decimal_digit

-- the number below 2^64 that bytes spell in base 10 or 16, where each is a digit
abbrev pub spelled : ℕ → List ℕ → Option ℕ
spelled base digits = if list_all (digit_test base) digits then in_word (value_after base 0 digits) else None
