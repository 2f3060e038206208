use Rattle.std.proofs.Common.{◌≡◌, ◌<◌, drop, length}
use Rattle.std.specs.List.{AllByRecursion}
use Rattle.snp_model.specs.Opening.{words_from}
use Rattle.snp_model.specs.State.{zero_words}
use Rattle.guest_memory.proofs.OpeningLaws.{content_from}
use Rattle.guest_memory.proofs.opening.opening_words.Given as goal

abbrev pub invariant-words : goal.invariant-words
invariant-words l = record {
  length_is : length l.content ≡ 512;
  content : content_from l.content (drop l.word-index l.words) l.frame ≡ words_from (λ _. zero_words) l.words l.frame;
  rest : AllByRecursion (λ word. word.index < 512) (drop l.word-index l.words);
}
