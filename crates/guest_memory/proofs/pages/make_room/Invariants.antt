use Rattle.std.proofs.Common.{◌≡◌}
use Rattle.guest_memory.specs.Pages.{memory_of, HasRoom}
use Rattle.guest_memory.proofs.pages.make_room.Given as goal

abbrev pub invariant-loop-i : goal.invariant-loop-i
invariant-loop-i l = record {
  same : memory_of l.pages.entries ≡ memory_of l.initial.pages.entries;
  room : HasRoom l.pages.entries l.gpn l.i;
}
