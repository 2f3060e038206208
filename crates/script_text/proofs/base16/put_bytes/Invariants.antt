use Rattle.std.proofs.Common.{◌≡◌, ◌+◌, ◌*◌, ◌++◌, take}
use Rattle.snp_model.specs.EventText.{hex_bytes}
use Rattle.script_text.proofs.base16.put_bytes.Given as goal

abbrev pub invariant-loop-byte : goal.invariant-loop-byte
invariant-loop-byte l = record {
  place : l.end ≡ l.at + 2 * l.byte-index;
  text : take l.end l.out ≡ take l.at l.initial.out ++ hex_bytes (take l.byte-index l.bytes);
}
