use Rattle.std.proofs.Common.{◌≡◌}
use Rattle.snp_model.specs.GuestMemory.{without_pages}
use Rattle.guest_memory.specs.Pages.{memory_of}
use Rattle.guest_memory.proofs.pages.let_go.Given as goal

abbrev pub invariant-loop-i : goal.invariant-loop-i
invariant-loop-i l = memory_of l.pages.entries ≡ without_pages l.gpn l.i (memory_of l.initial.pages.entries)
