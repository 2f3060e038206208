use Rattle.std.proofs.Common.{[], ◌∷◌, ◌++◌, ap, ◌∙◌}
use Rattle.snp_model.specs.declared.scenario.PageSpec.{PageSpec}
use Rattle.snp_model.specs.Generated.{page_spec}
use Rattle.drill_gen.proofs.GeneratedLaws.{more_from}
use Rattle.drill_gen.proofs.opening.add_pages.Goals as goal

pub pages-preserved : goal.pages-preserved
pages-preserved c =
    more_from (page_spec c.args.guest) c.args.pages.now c.pages.pages c.push.new.self c.pages.gpn c.pages.invariant
    (c.in_ok-push.ensures.ok ∙ ap (λ (page : PageSpec). c.pages.pages ++ page ∷ []) c.page_spec.ensures)
