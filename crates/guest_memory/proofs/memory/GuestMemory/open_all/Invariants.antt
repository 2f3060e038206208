use Rattle.std.proofs.Common.{◌≡◌, drop}
use Rattle.std.specs.List.{AllByRecursion}
use Rattle.snp_model.specs.GuestMemory.{with_lines}
use Rattle.snp_model.specs.Opening.{words_from}
use Rattle.snp_model.specs.State.{zero_words}
use Rattle.guest_memory.specs.Pages.{IsPlaced}
use Rattle.guest_memory.proofs.memory.GuestMemory.open_all.Given as goal

abbrev pub invariant-pages : goal.invariant-pages
invariant-pages l = record {
  opened : with_lines l.guest (words_from (λ _. zero_words) l.words) (drop l.page-index l.pages) l.self ≡ with_lines l.guest (words_from (λ _. zero_words) l.words) l.pages l.initial.self;
  rest : AllByRecursion IsPlaced (drop l.page-index l.pages);
}
