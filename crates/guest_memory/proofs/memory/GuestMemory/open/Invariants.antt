use Rattle.std.proofs.Common.{◌≡◌}
use Rattle.snp_model.specs.GuestMemory.{with_frames}
use Rattle.snp_model.specs.Opening.{words_from}
use Rattle.snp_model.specs.State.{zero_words}
use Rattle.guest_memory.proofs.memory.GuestMemory.open.Given as goal

abbrev pub invariant-loop-i : goal.invariant-loop-i
invariant-loop-i l = l.self ≡ with_frames (words_from (λ _. zero_words) l.words) l.page.frame l.page.gpn l.i l.initial.self
