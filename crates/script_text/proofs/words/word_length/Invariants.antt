use Rattle.std.proofs.Common.{◌≡◌, ℕ, ◌<◌, false, get_or}
use Rattle.script_text.specs.Pieces.{ends_word}
use Rattle.script_text.proofs.words.word_length.Given as goal

abbrev pub invariant-loop-at : goal.invariant-loop-at
invariant-loop-at l = (k : ℕ) → k < l.at → ends_word (get_or l.line k 0) ≡ false
