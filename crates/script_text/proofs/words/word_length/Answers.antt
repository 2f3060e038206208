use Rattle.std.proofs.Common.{sym, ◌∙◌, arith}
use Rattle.std.proofs.lemmas.List.Sums.{position_or_len_is}
use Rattle.script_text.specs.Pieces.{ends_word}
use Rattle.script_text.proofs.words.word_length.Goals as goal

pub returns-then-ends_word-clause-length : goal.returns-then-ends_word-clause-length
returns-then-ends_word-clause-length c =
    sym (position_or_len_is ends_word c.args.line.now c.loop-at.at 0 (omega arith) c.loop-at.invariant (λ inside. sym c.ends_word.ensures ∙ c.if-ends_word.true))

pub returns-clause-length : goal.returns-clause-length
returns-clause-length c =
    sym (position_or_len_is ends_word c.args.line.now _ 0 (omega arith) (λ k below. c.loop-at.invariant k (omega arith)) (λ inside. absurd (omega arith)))
