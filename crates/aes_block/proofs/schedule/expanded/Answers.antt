use Rattle.std.proofs.Common.{◌≡◌, ◌∙◌, sym, ap, refl, arith}
use Rattle.std.proofs.lemmas.List.{length-set, take_all}
use Rattle.snp_model.specs.Aes.{first_words, key_expansion}
use Rattle.aes_block.specs.Columns.{words_of}
use Rattle.aes_block.proofs.ScheduleLaws.{key_word_written, next_word_written}
use Rattle.aes_block.proofs.schedule.expanded.Goals as goal

pub key-init : goal.key-init
unfolding first_words
key-init c = (refl, refl)

pub key-preserved : goal.key-preserved
key-preserved c = (
  length-set c.key.words c.key.i c.word_of.result ∙ c.key.invariant.0,
  key_word_written _ _ _ _ (omega arith) (omega (arith, c.key.invariant.0)) c.key.invariant.1 c.word_of.ensures,
)

pub rest-preserved : goal.rest-preserved
rest-preserved c = (
  length-set c.rest.words c.rest.i _ ∙ c.rest.invariant.0,
  next_word_written _ _ _ _ (omega arith) (omega (arith, c.rest.invariant.0)) c.rest.invariant.1 c.key_mask.ensures,
)

pub returns : goal.returns
unfolding key_expansion
returns c =
    let end : c.rest.i ≡ 60 = omega arith in
    ap words_of (sym (take_all c.rest.i c.rest.words (omega (arith, c.rest.invariant.0))))
    ∙ c.rest.invariant.1 ∙ ap (first_words c.args.key.now) end
