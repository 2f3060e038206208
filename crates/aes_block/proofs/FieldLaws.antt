-- The inverse of each byte, computed.
use Rattle.std.proofs.Common.{◌≡◌, ℕ, ◌-◌, ◌+◌, ◌<◌, List, replicate, get_or, sym, ap, ◌∙◌, arith, refl}
use Rattle.std.proofs.lemmas.List.{get_or-replicate}
use Rattle.snp_model.specs.AesField.{◌•◌, times_low_bits, times_squares, inverse}
use Rattle.aes_block.proofs.Entries.{values, value_at}

products : values (λ b. b • inverse b) 1 255 ≡ replicate 255 1
unfolding values ◌•◌ times_low_bits times_squares inverse
products = refl

pub times-inverse : (b : ℕ) → 0 < b → b < 256 → b • inverse b ≡ 1
times-inverse b some below =
    let at : 1 + (b - 1) ≡ b = omega arith in
    ap (λ n. n • inverse n) (sym at)
    ∙ sym (value_at (λ n. n • inverse n) 1 255 (b - 1) 0 (omega arith))
    ∙ ap (λ (xs : List ℕ). get_or xs (b - 1) 0) products
    ∙ get_or-replicate 255 (b - 1) 1 0 (omega arith)

pub inverse-zero : inverse 0 ≡ 0
unfolding ◌•◌ times_low_bits times_squares inverse
inverse-zero = refl
