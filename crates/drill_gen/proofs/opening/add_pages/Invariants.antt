-- the pages so far
use Rattle.std.proofs.Common.{◌≡◌, ◌++◌, map}
use Rattle.std.specs.List.{range_with_len}
use Rattle.snp_model.specs.Generated.{page_spec}
use Rattle.drill_gen.proofs.opening.add_pages.Given as goal

abbrev pub invariant-pages : goal.invariant-pages
invariant-pages l = l.pages ≡ l.initial.pages ++ map (page_spec l.guest) (range_with_len 0 l.gpn)
