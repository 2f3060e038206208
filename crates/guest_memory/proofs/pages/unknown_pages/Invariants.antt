use Rattle.std.proofs.Common.{◌≡◌, replicate}
use Rattle.snp_model.specs.GuestMemory.{unknown_places}
use Rattle.guest_memory.proofs.pages.unknown_pages.Given as goal

abbrev pub invariant-loop : goal.invariant-loop
invariant-loop l = l.pages.items ≡ replicate l.counter unknown_places
