use Rattle.std.proofs.Common.{◌≡◌, ℕ, ◌*◌, ◌/◌, ◌%◌, ◌^◌, [], ◌∷◌, ◌∙◌, arith}
use Rattle.std.specs.Int.{to_le_bytes, w64}
use Rattle.launch_digest.proofs.digest.address_bytes.Goals as goal

-- the bits past the 64th are in none of the eight bytes
low_bits : (n : ℕ) → to_le_bytes w64 (n % 2 ^ 64) ≡ to_le_bytes w64 n
low_bits n =
    let b0 : n % 2 ^ 64 % 256 ≡ n % 256 = omega arith in
    let b1 : n % 2 ^ 64 / 256 ^ 1 % 256 ≡ n / 256 ^ 1 % 256 = omega arith in
    let b2 : n % 2 ^ 64 / 256 ^ 2 % 256 ≡ n / 256 ^ 2 % 256 = omega arith in
    let b3 : n % 2 ^ 64 / 256 ^ 3 % 256 ≡ n / 256 ^ 3 % 256 = omega arith in
    let b4 : n % 2 ^ 64 / 256 ^ 4 % 256 ≡ n / 256 ^ 4 % 256 = omega arith in
    let b5 : n % 2 ^ 64 / 256 ^ 5 % 256 ≡ n / 256 ^ 5 % 256 = omega arith in
    let b6 : n % 2 ^ 64 / 256 ^ 6 % 256 ≡ n / 256 ^ 6 % 256 = omega arith in
    let b7 : n % 2 ^ 64 / 256 ^ 7 % 256 ≡ n / 256 ^ 7 % 256 = omega arith in
    λ i. b0 i ∷ b1 i ∷ b2 i ∷ b3 i ∷ b4 i ∷ b5 i ∷ b6 i ∷ b7 i ∷ []

pub returns : goal.returns
returns c = c.to_le_bytes.ensures ∙ low_bits (c.args.gpn * 4096)
