-- What the words of the code stand for: a word of 128 bits for a polynomial, whose coefficient of x^0 is the highest bit, and a count for its counter block.
use Rattle.std.specs.Prelude.{ℕ, suc, zero, ◌/◌, List, [], ◌∷◌, ◌++◌, if◌then◌else◌, ◌==◌, bit_and, bit_xor}
use Rattle.std.specs.Int.{bit_at, w32, to_be_bytes}

-- the k lowest bits of a word, the highest of them first
abbrev pub bits_below : ℕ → ℕ → List ℕ
bits_below zero n = []
bits_below (suc k) n = bit_at n k ∷ bits_below k n

-- the 128 coefficients of a word
unfoldable pub word_coefficients : ℕ → List ℕ
word_coefficients n = bits_below 128 n

-- a word times x: 1 + x + x^2 + x^7 is added where x^127 becomes x^128
unfoldable pub word_times_x : ℕ → ℕ
word_times_x n = bit_xor (n / 2) (if bit_and n 1 == 1 then 0xe100_0000_0000_0000_0000_0000_0000_0000 else 0)

-- a word times x^4
unfoldable pub word_times_x4 : ℕ → ℕ
word_times_x4 n = word_times_x (word_times_x (word_times_x (word_times_x n)))

-- the product of coefficients and a word
unfoldable pub word_product : List ℕ → ℕ → ℕ
word_product [] n = 0
word_product (c ∷ p) n = bit_xor (if c == 1 then n else 0) (word_product p (word_times_x n))

-- the counter block of a 96-bit IV and a count of 32 bits
unfoldable pub counter_block : List ℕ → ℕ → List ℕ
counter_block iv count = iv ++ to_be_bytes w32 count
