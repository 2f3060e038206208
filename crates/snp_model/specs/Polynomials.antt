-- Polynomials over the field of two elements modulo x^128 + x^7 + x^2 + x + 1, and the bytes that stand for them (NIST SP 800-38D, section 6.3).
-- A polynomial is the list of its 128 coefficients, each 0 or 1, that of x^0 first. The leftmost bit of a block's first byte is the coefficient of x^0.
use Rattle.std.specs.Prelude.{ℕ, ◌+◌, ◌*◌, ◌%◌, List, [], ◌∷◌, ◌++◌, if◌then◌else◌, ◌==◌, slice_index, take, replicate}
use Rattle.std.specs.Int.{bit_at}
use Rattle.std.specs.List.{flat_map}

-- the eight coefficients that a byte stands for, its leftmost bit first
abbrev pub byte_coefficients : ℕ → List ℕ
byte_coefficients b =
    bit_at b 7 ∷ bit_at b 6 ∷ bit_at b 5 ∷ bit_at b 4 ∷ bit_at b 3 ∷ bit_at b 2 ∷ bit_at b 1 ∷ bit_at b 0 ∷ []

-- the coefficients that bytes stand for
unfoldable pub coefficients : List ℕ → List ℕ
coefficients bytes = flat_map byte_coefficients bytes

-- the bytes that stand for coefficients
unfoldable pub bytes_of : List ℕ → List ℕ
bytes_of (a ∷ b ∷ c ∷ d ∷ e ∷ f ∷ g ∷ h ∷ rest) =
    (128 * a + 64 * b + 32 * c + 16 * d + 8 * e + 4 * f + 2 * g + h) ∷ bytes_of rest
bytes_of _ = []

-- the sum of two polynomials: coefficient by coefficient, modulo 2
unfoldable pub plus : List ℕ → List ℕ → List ℕ
plus [] q = q
plus (a ∷ p) [] = a ∷ p
plus (a ∷ p) (b ∷ q) = (a + b) % 2 ∷ plus p q

-- the zero polynomial
unfoldable pub zero_polynomial : List ℕ
zero_polynomial = replicate 128 0

-- what x^128 is: 1 + x + x^2 + x^7
unfoldable pub reduction : List ℕ
reduction = (1 ∷ 1 ∷ 1 ∷ 0 ∷ 0 ∷ 0 ∷ 0 ∷ 1 ∷ []) ++ replicate 120 0

-- a polynomial times x: each coefficient moves up one place, and that of x^127 goes to x^128
unfoldable pub times_x : List ℕ → List ℕ
times_x p = if slice_index p 127 == 1 then plus (0 ∷ take 127 p) reduction else (0 ∷ take 127 p)

-- the product: the sum of x^i times q for each i at which p has a coefficient 1
unfoldable pub product : List ℕ → List ℕ → List ℕ
product [] q = zero_polynomial
product (c ∷ p) q = plus (if c == 1 then q else zero_polynomial) (product p (times_x q))
