-- the frames so far are written
use Rattle.std.proofs.Common.{◌≡◌, ℕ, ◌<◌, length, get_or}
use Rattle.snp_model.specs.Facts.{free_entry}
use Rattle.snp_model.specs.Entries.{facts_within}
use Rattle.rmp_table.proofs.table.spread.Given as goal

abbrev pub invariant-slots : goal.invariant-slots
invariant-slots l = record {
  count : length l.entries.items ≡ 512;
  written : (k : ℕ) → k < l.slot → get_or l.entries.items k free_entry ≡ facts_within l.head k;
}
