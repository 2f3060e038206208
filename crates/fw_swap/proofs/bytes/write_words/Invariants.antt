use Rattle.std.proofs.Common.{◌≡◌, length, take}
use Rattle.snp_model.specs.Metadata.{first_words}
use Rattle.fw_swap.proofs.bytes.write_words.Given as goal

abbrev pub invariant-loop-i : goal.invariant-loop-i
invariant-loop-i l = record {
  room : length l.words ≡ 512;
  written : take l.i l.words ≡ first_words l.i l.bytes;
}
