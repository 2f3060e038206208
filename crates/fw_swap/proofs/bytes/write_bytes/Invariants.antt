use Rattle.std.proofs.Common.{◌≡◌, ◌*◌, length, take}
use Rattle.snp_model.specs.Measurement.{page_bytes}
use Rattle.fw_swap.proofs.bytes.write_bytes.Given as goal

abbrev pub invariant-loop-i : goal.invariant-loop-i
invariant-loop-i l = record {
  room : length l.bytes ≡ 4096;
  written : take (8 * l.i) l.bytes ≡ page_bytes (take l.i l.words);
}
