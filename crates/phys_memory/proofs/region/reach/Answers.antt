use Rattle.std.proofs.Common.{◌≡◌, ◌<◌, ℕ, List, [], ◌∷◌, ◌++◌, length, replicate, refl, sym, ap, ◌∙◌, subst, arith}
use Rattle.phys_memory.specs.Pages.{all_pages, ArePages}
use Rattle.phys_memory.proofs.PageLaws.{page_more, more_are}
use Rattle.phys_memory.proofs.region.reach.Goals as goal

pub pages-preserved : goal.pages-preserved
pages-preserved c =
    let short : length c.pages.pages.items < 512 = omega (arith, c.requires.below) in
    let P : List (List ℕ) → Type 0 = λ ps. ArePages ps c.pages.pages.cap in
    let Q : ℕ → Type 0 = λ n. ArePages c.push_reserved.new.self.items n in
    record {
      same = ap all_pages c.push_reserved.ensures.items ∙ page_more c.pages.pages.items (replicate 512 0) refl short ∙ c.pages.invariant.same;
      pages = subst Q (sym c.push_reserved.ensures.capacity) (subst P (sym c.push_reserved.ensures.items) (more_are c.pages.pages.items _ (replicate 512 0) c.pages.invariant.pages short refl));
    }
