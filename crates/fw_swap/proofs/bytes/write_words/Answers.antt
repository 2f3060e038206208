use Rattle.std.proofs.Common.{◌≡◌, ◌∙◌, ◌+◌, ◌-◌, ◌*◌, ℕ, sym, ap, take, rules, refl, arith, length-set}
use Rattle.snp_model.specs.Metadata.{first_words}
use Rattle.snp_model.proofs.PageBytesLaws.{first_words_all, words_more}
use Rattle.fw_swap.proofs.bytes.write_words.Goals as goal

pub loop-i-init : goal.loop-i-init
unfolding first_words
loop-i-init c = record { room = search rules; written = refl }

pub loop-i-preserved : goal.loop-i-preserved
loop-i-preserved c = record {
  room = length-set c.loop-i.words c.loop-i.i c.word_from.result ∙ c.loop-i.invariant.room;
  written = words_more c.loop-i.words c.args.bytes.now c.loop-i.i (8 * c.loop-i.i + 8 - 8 * c.loop-i.i) c.word_from.result (omega arith) c.loop-i.invariant.written c.word_from.ensures (omega (arith, c.loop-i.invariant.room));
}

pub returns : goal.returns
returns c =
    let all : c.loop-i.i ≡ 512 = omega arith in
    let written : take 512 c.loop-i.words ≡ first_words 512 c.args.bytes.now =
    ap (λ (i : ℕ). take i c.loop-i.words) (sym all) ∙ c.loop-i.invariant.written ∙ ap (λ (i : ℕ). first_words i c.args.bytes.now) all in
    first_words_all c.loop-i.words c.args.bytes.now 512 (search rules) c.loop-i.invariant.room written
