use Rattle.std.proofs.Common.{◌≡◌, ◌<◌, ◌*◌, ◌/◌, ◌^◌, ◌∙◌, ap, arith, get_or, refl}
use Rattle.std.specs.Int.RustNames.{bit_and, bit_xor}
use Rattle.std.proofs.lemmas.Nat.{and_le_r}
use Rattle.snp_model.specs.Polynomials.{product}
use Rattle.gcm_seal.specs.Words.{word_coefficients, word_product, bits_below}
use Rattle.gcm_seal.proofs.Words.{digits_step, whole_product}
use Rattle.gcm_seal.proofs.hash_key.HashKey.times.Goals as goal

pub loop-i-init : goal.loop-i-init
unfolding word_product
loop-i-init c = refl

pub loop-i-preserved : goal.loop-i-preserved
loop-i-preserved c =
    let digit = bit_and (c.args.word / 2 ^ (4 * c.loop-i.i)) 15 in
    let small : digit < 16 = omega (arith, and_le_r (c.args.word / 2 ^ (4 * c.loop-i.i)) 15) in
    digits_step c.args.word c.self.inside.word c.loop-i.i digit c.loop-i.product _ _ refl c.loop-i.invariant (c.self.invariant.1 digit small) (ap (λ p. bit_xor p (get_or c.self.inside.multiples digit 0)) c.times_x4.ensures)

pub returns : goal.returns
returns c =
    let all : 4 * c.loop-i.i ≡ 128 = omega arith in
    ap word_coefficients (c.loop-i.invariant ∙ ap (λ n. word_product (bits_below n c.args.word) c.self.inside.word) all)
    ∙ whole_product c.args.word c.self.inside.word c.self.invariant.0
    ∙ ap (λ k. product (word_coefficients c.args.word) (word_coefficients k)) c.self.view_is
