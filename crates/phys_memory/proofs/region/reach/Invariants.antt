use Rattle.std.proofs.Common.{◌≡◌, ◌+◌, ◌-◌, length, vec_capacity}
use Rattle.phys_memory.specs.Pages.{all_pages, ArePages}
use Rattle.phys_memory.proofs.region.reach.Given as goal

abbrev pub invariant-pages : goal.invariant-pages
invariant-pages l = record {
  same : all_pages l.pages.items ≡ all_pages l.initial.pages.items;
  pages : ArePages l.pages.items (vec_capacity l.pages);
}

abbrev pub decreases-pages : goal.decreases-pages
decreases-pages l = l.page + 1 - length l.pages.items
