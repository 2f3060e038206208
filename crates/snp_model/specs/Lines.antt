-- The words of a line, and the numbers among them. The texts are this project's own.
use Rattle.std.specs.Prelude.{ℕ, ◌+◌, ◌-◌, ◌*◌, ◌%◌, ◌^◌, ◌==◌, nat_lt, nat_le, Bool, true, false, not, ◌&&◌, ◌||◌, if◌then◌else◌, List, [], ◌∷◌, length, take, drop, position, slice_index, slice_index_or, Option, Some, None, Result, Ok, Err, bytes_eq}
use Rattle.std.specs.List.{list_all, slice_split}
use Rattle.std.specs.Option.{option_map}
use Rattle.snp_model.specs.declared.reading.Reason.{Reason}
use Rattle.snp_model.specs.declared.reading.Reason.TheVariants.{Form, Number, Range, Align}

-- the next step, if this one gave a value
infixl 10 ◌>>=◌
abbrev pub ◌>>=◌ : {A B E : Type 0} → Result A E → (A → Result B E) → Result B E
Ok x >>= f = f x
Err e >>= f = Err e

-- the same, where the value isn't wanted
infixl 10 ◌>>◌
abbrev pub ◌>>◌ : {A B E : Type 0} → Result A E → Result B E → Result B E
Ok x >> next = next
Err e >> next = Err e

-- a test with the reason that it fails with
abbrev pub require : Bool → Reason → Result (Unit {0}) Reason
require true reason = Ok tt
require false reason = Err reason

-- the parts of bytes between single separators; there is at least one
abbrev pub parts_at : ℕ → List ℕ → List (List ℕ)
parts_at separator bytes = slice_split (λ b. b == separator) bytes

-- the bytes before the first separator and those behind it
abbrev pub cut_at : ℕ → List ℕ → Option (List ℕ × List ℕ)
cut_at separator bytes = option_map (λ at. (take at bytes, drop (at + 1) bytes)) (position (λ b. b == separator) bytes)

-- the words of a line, which stand between single spaces; a word may be empty
abbrev pub words_of : List ℕ → List (List ℕ)
words_of line = parts_at 32 line

-- the word at a place, counted from 0
abbrev pub word : List (List ℕ) → ℕ → List ℕ
word ws k = slice_index_or ws k []

-- no row has more words than `order` and 16 runs
abbrev pub most_words : ℕ
most_words = 17

-- whether a byte may stand in a line
abbrev pub is_printable : ℕ → Bool
is_printable b = nat_le 0x20 b && nat_le b 0x7e

-- whether the bytes of a line may stand in it, and its words are few enough for some row
abbrev pub is_plain : List ℕ → Bool
is_plain line = list_all is_printable line && nat_le (length (words_of line)) most_words

-- whether the first word and the count of words are those of a row
abbrev pub is_row : List (List ℕ) → List ℕ → ℕ → Bool
is_row ws name count = (length ws == count) && bytes_eq (word ws 0) name

-- whether a byte is a digit: `0` to `9`, and `a` to `f` in hex
abbrev pub is_decimal_digit : ℕ → Bool
is_decimal_digit b = nat_le 48 b && nat_le b 57

abbrev pub is_hex_digit : ℕ → Bool
is_hex_digit b = is_decimal_digit b || (nat_le 97 b && nat_le b 102)

-- the value of a digit
abbrev pub digit_value : ℕ → ℕ
digit_value b = if nat_le b 57 then b - 48 else b - 87

-- the number that digits spell after those of n
abbrev pub value_after : ℕ → ℕ → List ℕ → ℕ
value_after base n [] = n
value_after base n (digit ∷ digits) = value_after base (n * base + digit_value digit) digits

-- a number is below 2^64
abbrev pub in_word : ℕ → Option ℕ
in_word n = if nat_lt n (2 ^ 64) then Some n else None

-- whether digits have no leading zero but in 0 itself
abbrev pub is_decimal : List ℕ → Bool
is_decimal digits = nat_lt 0 (length digits) && list_all is_decimal_digit digits && ((length digits == 1) || not (slice_index digits 0 == 48))

-- the number of decimal digits
unfoldable pub decimal_of : List ℕ → Option ℕ
decimal_of digits = if is_decimal digits then in_word (value_after 10 0 digits) else None

-- whether there are 1 to 16 hex digits
abbrev pub is_hex : List ℕ → Bool
is_hex digits = nat_lt 0 (length digits) && nat_le (length digits) 16 && list_all is_hex_digit digits

-- the number of hex digits, leading zeros allowed
unfoldable pub hex_of : List ℕ → Option ℕ
hex_of digits = if is_hex digits then in_word (value_after 16 0 digits) else None

-- whether a word begins with `0x`
abbrev pub is_prefixed : List ℕ → Bool
is_prefixed w = nat_le 2 (length w) && (slice_index w 0 == 48) && (slice_index w 1 == 120)

-- the number that a word spells
unfoldable pub number_of : List ℕ → Option ℕ
number_of w = if is_prefixed w then hex_of (drop 2 w) else decimal_of w

-- the value, or the reason
abbrev pub or_reason : {A : Type 0} → Option A → Reason → Result A Reason
or_reason (Some x) reason = Ok x
or_reason None reason = Err reason

-- a word that is always the same
unfoldable pub fixed : List ℕ → List ℕ → Result (Unit {0}) Reason
fixed w name = require (bytes_eq w name) Form

-- a number
unfoldable pub number : List ℕ → Result ℕ Reason
number w = or_reason (number_of w) Number

-- a number from low to high
unfoldable pub ranged : ℕ → ℕ → List ℕ → Result ℕ Reason
ranged low high w = do
  n ← number w
  if nat_le low n && nat_le n high then Ok n else Err Range

-- a number below an end
unfoldable pub below : ℕ → List ℕ → Result ℕ Reason
below end w = do
  n ← number w
  if nat_lt n end then Ok n else Err Range

-- a number that is a multiple of a unit
unfoldable pub multiple : ℕ → ℕ → Result ℕ Reason
multiple unit n = if n % unit == 0 then Ok n else Err Align

-- a decimal number
unfoldable pub decimal : List ℕ → Result ℕ Reason
decimal w = or_reason (decimal_of w) Number
