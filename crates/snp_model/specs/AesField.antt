-- The bytes of AES as elements of the finite field GF(2^8) (FIPS 197, section 4), and the S-box (section 5.1.1).
-- A byte is a number below 256, whose bit i is the coefficient of x^i.
use Rattle.std.specs.Prelude.{ℕ, zero, suc, ◌+◌, ◌-◌, ◌*◌, ◌/◌, ◌%◌, ◌^◌, bit_xor, nat_lt, ◌==◌, if◌then◌else◌}

infixl 70 ◌⊕◌
infixl 75 ◌•◌
-- the sum of two elements (4.1)
abbrev pub ◌⊕◌ : ℕ → ℕ → ℕ
a ⊕ b = bit_xor a b

-- the product by x, modulo x^8 + x^4 + x^3 + x + 1 (4.2, xTimes)
abbrev pub xtimes : ℕ → ℕ
xtimes b = if nat_lt b 128 then 2 * b else (2 * b - 256) ⊕ 0x1b

-- the sum of b·x^i over those of the n lowest bits i of c that are 1 (4.2)
unfoldable pub times_low_bits : ℕ → ℕ → ℕ → ℕ
times_low_bits zero b c = 0
times_low_bits (suc n) b c = (if c % 2 == 1 then b else 0) ⊕ times_low_bits n (xtimes b) (c / 2)

-- the product of two elements (4.2)
unfoldable pub ◌•◌ : ℕ → ℕ → ℕ
b • c = times_low_bits 8 b c

-- b^2 · b^4 · b^8 · …, of n factors
unfoldable pub times_squares : ℕ → ℕ → ℕ
times_squares zero b = 1
times_squares (suc n) b = let square = b • b in square • times_squares n square

-- the multiplicative inverse b^254 of b, and 0 for 0 (4.4)
unfoldable pub inverse : ℕ → ℕ
inverse b = times_squares 7 b

-- bit i of b
abbrev pub bit : ℕ → ℕ → ℕ
bit b i = b / 2 ^ i % 2

-- bit i of the affine transformation of b (5.1.1, with the constant 01100011)
abbrev pub affine_bit : ℕ → ℕ → ℕ
affine_bit b i = bit b i ⊕ bit b ((i + 4) % 8) ⊕ bit b ((i + 5) % 8) ⊕ bit b ((i + 6) % 8) ⊕ bit b ((i + 7) % 8) ⊕ bit 0x63 i

-- the affine transformation of a byte (5.1.1)
abbrev pub affine : ℕ → ℕ
affine b = affine_bit b 0 + 2 * affine_bit b 1 + 4 * affine_bit b 2 + 8 * affine_bit b 3
    + 16 * affine_bit b 4 + 32 * affine_bit b 5 + 64 * affine_bit b 6 + 128 * affine_bit b 7

-- the S-box: the inverse, and then the affine transformation (5.1.1)
unfoldable pub s_box : ℕ → ℕ
s_box b = affine (inverse b)
