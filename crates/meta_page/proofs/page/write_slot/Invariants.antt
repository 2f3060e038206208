use Rattle.std.proofs.Common.{◌≡◌}
use Rattle.snp_model.specs.RegionWords.{IsRegion, page_at, page_set}
use Rattle.meta_page.proofs.SlotLaws.{partly}
use Rattle.meta_page.proofs.page.write_slot.Given as goal

abbrev pub invariant-loop-i : goal.invariant-loop-i
invariant-loop-i l = record {
  whole : IsRegion l.initial.memory;
  written : l.memory ≡ page_set l.initial.memory l.page (partly (page_at l.initial.memory l.page) l.number l.words l.i);
}
