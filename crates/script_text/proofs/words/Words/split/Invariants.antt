use Rattle.std.proofs.Common.{◌≡◌, ◌<◌, ◌≤◌, ◌++◌, take, length}
use Rattle.std.specs.List.{list_all}
use Rattle.snp_model.specs.Lines.{parts_at, is_printable}
use Rattle.script_text.specs.Pieces.{texts}
use Rattle.script_text.proofs.words.Words.split.Given as goal

abbrev pub invariant-words : goal.invariant-words
invariant-words l = record {
  few : l.count ≤ 16;
  all : length l.self-inside.words ≡ 17;
  count : (0 < l.self-inside.count) × (l.self-inside.count ≤ 17);
  shorter : length l.rest ≤ length l.line;
  words : texts (take l.count l.self-inside.words) ++ parts_at 32 l.rest ≡ parts_at 32 l.line;
  printable : list_all is_printable l.rest ≡ list_all is_printable l.line;
}

abbrev pub decreases-words : goal.decreases-words
decreases-words l = length l.rest
