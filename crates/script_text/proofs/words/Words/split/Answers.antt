use Rattle.std.proofs.Common.{ℕ, List, ◌+◌, ◌∷◌, [], length, take, sym, ap, ◌∙◌, arith, length-set, length-drop, take_all}
use Rattle.std.specs.List.{list_all}
use Rattle.snp_model.specs.Lines.{parts_at, is_printable}
use Rattle.script_text.proofs.WordsLaws.{one_word, one_printable, first_word, rest_printable, unprintable, one_more, last_one, count_words, count_more, plain, not_plain_byte, not_plain_count}
use Rattle.script_text.proofs.words.Words.split.Goals.{then-rest-end-ne32-via-then-rest-end-ne32, then-rest-end-ne32-via-else-rest-end-ne32+then-count-eq17}
use Rattle.script_text.proofs.words.Words.split.Goals as goal

pub returns-then-end-rest-clause-plain : goal.returns-then-end-rest-clause-plain
returns-then-end-rest-clause-plain c =
    let rest = c.words.rest.now in
    let end = c.word_length-end.result in
    let here = c.word_length-end.ensures.length in
    let count = count_words c.words.self-inside.words c.words.count (parts_at 32 rest) _ (omega arith) c.words.invariant.words in
    plain c.args.line.now (sym c.words.invariant.printable ∙ one_printable rest end here (omega arith)) (omega (arith, count, ap length (one_word rest end here (omega arith))))

pub returns-then-end-rest-clause-words : goal.returns-then-end-rest-clause-words
returns-then-end-rest-clause-words c =
    let rest = c.words.rest.now in
    let end = c.word_length-end.result in
    let last = one_word rest end c.word_length-end.ensures.length (omega arith) ∙ ap (λ (word : List ℕ). word ∷ []) (sym (take_all end rest (omega arith))) in
    last_one c.words.self-inside.words c.words.count _ (parts_at 32 rest) _ (omega arith) last c.words.invariant.words

pub returns-then-rest-end-ne32-clause-plain : goal.returns-then-rest-end-ne32-clause-plain
returns-then-rest-end-ne32-clause-plain c =
    let line = c.args.line.now in
    let rest = c.words.rest.now in
    let end = c.word_length-end.result in
    let here = c.word_length-end.ensures.length in
    elim c.then-rest-end-ne32.branch [
      | then-rest-end-ne32-via-then-rest-end-ne32 w ↦ not_plain_byte line (sym c.words.invariant.printable ∙ unprintable rest end here (omega arith) w.if-rest-end-ne32.true)
      | then-rest-end-ne32-via-else-rest-end-ne32+then-count-eq17 w ↦
          let count = count_words c.words.self-inside.words c.words.count (parts_at 32 rest) _ (omega arith) c.words.invariant.words in
          let more = count_more rest end here (omega arith) w.if-rest-end-ne32.false in
          not_plain_count line (omega (arith, count, more))
    ]

pub words-preserved : goal.words-preserved
words-preserved c =
    let rest = c.words.rest.now in
    let end = c.word_length-end.result in
    let here = c.word_length-end.ensures.length in
    let first = first_word rest end here (omega arith) c.if-rest-end-ne32.false in
    record {
      few = omega arith;
      all = length-set _ _ _ ∙ c.words.invariant.all;
      count = c.words.invariant.count;
      shorter = omega (arith, ap length c.behind-rest.ensures, length-drop (end + 1) rest);
      words = one_more c.words.self-inside.words c.words.count _ (parts_at 32 rest) _ _ (omega arith) (first ∙ ap (λ (r : List ℕ). take end rest ∷ parts_at 32 r) (sym c.behind-rest.ensures)) c.words.invariant.words;
      printable = ap (list_all is_printable) c.behind-rest.ensures ∙ rest_printable rest end here (omega arith) c.if-rest-end-ne32.false ∙ c.words.invariant.printable;
    }
