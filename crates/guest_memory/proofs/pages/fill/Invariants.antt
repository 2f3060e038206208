use Rattle.std.proofs.Common.{◌≡◌, ◌-◌, replicate}
use Rattle.snp_model.specs.GuestMemory.{unknown_places, with_pages}
use Rattle.guest_memory.specs.Pages.{memory_of, HasRoom}
use Rattle.guest_memory.proofs.pages.fill.Given as goal

abbrev pub invariant-loop-i : goal.invariant-loop-i
invariant-loop-i l = record {
  fresh : l.fresh.items ≡ replicate (l.count - l.i) unknown_places;
  room : HasRoom l.pages.entries l.gpn l.count;
  filled : memory_of l.pages.entries ≡ with_pages l.gpn l.i unknown_places (memory_of l.initial.pages.entries);
}
