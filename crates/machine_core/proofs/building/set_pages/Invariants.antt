-- the pages so far are set
use Rattle.std.proofs.Common.{◌≡◌, ◌*◌, drop, length}
use Rattle.std.specs.List.{AllByRecursion}
use Rattle.snp_model.specs.Opening.{facts_from}
use Rattle.snp_model.specs.Sound.{FramesDiffer, IsPage, Pairwise}
use Rattle.machine_core.specs.Bays.{facts_of, locks_of, own_bays, own_contexts, own_stock, words_of}
use Rattle.machine_core.proofs.BuildingLaws.{IsSmallPage}
use Rattle.machine_core.proofs.building.set_pages.Given as goal

abbrev pub invariant-pages : goal.invariant-pages
invariant-pages l = record {
  facts : facts_from l.guests (facts_of (own_bays l.parts.bays.items)) (drop l.page-index l.pages) ≡ facts_from l.guests (facts_of (own_bays l.initial.parts.bays.items)) l.pages;
  words : words_of (own_bays l.parts.bays.items) ≡ words_of (own_bays l.initial.parts.bays.items);
  locks : locks_of (own_stock l.parts.bays.items l.parts.contexts.items) ≡ locks_of (own_stock l.initial.parts.bays.items l.initial.parts.contexts.items);
  regions : length l.parts.bays.items ≡ length l.initial.parts.bays.items;
  contexts : own_contexts l.parts.contexts.items ≡ own_contexts l.initial.parts.contexts.items;
  guests : length l.parts.contexts.items ≡ length l.initial.parts.contexts.items;
  small : AllByRecursion (IsSmallPage (facts_of (own_bays l.parts.bays.items))) (drop l.page-index l.pages);
  apart : Pairwise FramesDiffer (drop l.page-index l.pages);
  rest : AllByRecursion (IsPage (512 * length l.parts.bays.items) (length l.guests)) (drop l.page-index l.pages);
}
