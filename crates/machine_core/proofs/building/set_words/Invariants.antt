-- the words so far are set
use Rattle.std.proofs.Common.{◌≡◌, ◌*◌, drop, length}
use Rattle.std.specs.List.{AllByRecursion}
use Rattle.snp_model.specs.Opening.{words_from}
use Rattle.snp_model.specs.Sound.{IsWord}
use Rattle.machine_core.specs.Bays.{facts_of, locks_of, own_bays, own_contexts, own_stock, words_of}
use Rattle.machine_core.proofs.building.set_words.Given as goal

abbrev pub invariant-words : goal.invariant-words
invariant-words l = record {
  words : words_from (words_of (own_bays l.parts.bays.items)) (drop l.word-index l.words) ≡ words_from (words_of (own_bays l.initial.parts.bays.items)) l.words;
  facts : facts_of (own_bays l.parts.bays.items) ≡ facts_of (own_bays l.initial.parts.bays.items);
  locks : locks_of (own_stock l.parts.bays.items l.parts.contexts.items) ≡ locks_of (own_stock l.initial.parts.bays.items l.initial.parts.contexts.items);
  regions : length l.parts.bays.items ≡ length l.initial.parts.bays.items;
  contexts : own_contexts l.parts.contexts.items ≡ own_contexts l.initial.parts.contexts.items;
  guests : length l.parts.contexts.items ≡ length l.initial.parts.contexts.items;
  rest : AllByRecursion (IsWord (512 * length l.parts.bays.items)) (drop l.word-index l.words);
}
