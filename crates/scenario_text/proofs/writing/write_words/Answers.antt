use Rattle.std.proofs.Common.{arith}
use Rattle.std.proofs.lemmas.Result.{err_from_is_err_and}
use Rattle.snp_model.proofs.Adding.{left_after, left_done, prefix_after}
use Rattle.scenario_text.proofs.WrittenLines.{word_at, no_words}
use Rattle.scenario_text.proofs.writing.write_words.Goals as goal

pub returns-in_err-write_all-clause-text : goal.returns-in_err-write_all-clause-text
returns-in_err-write_all-clause-text g c =
    let p = err_from_is_err_and c.from_residual.result c.from_residual.ensures.1 in
    rw p.1 (prefix_after _ _ _ _ _ _ _ c.words.invariant.left c.in_err-write_all.ensures.text (word_at c.args.words.now c.words.word-index _ _ c.words-test.true c.put_word-end.ensures.text))

pub words-preserved : goal.words-preserved
words-preserved g c = record {
  later = omega arith;
  left = left_after _ _ _ _ _ _ _ c.words.invariant.left c.in_ok-write_all.ensures.text (word_at c.args.words.now c.words.word-index _ _ c.words-test.true c.put_word-end.ensures.text);
}

pub returns-clause-text : goal.returns-clause-text
returns-clause-text g c = left_done _ _ _ _ (no_words c.words.word-index c.args.words.now (omega arith)) c.words.invariant.left
