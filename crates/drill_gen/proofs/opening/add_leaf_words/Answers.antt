use Rattle.std.proofs.Common.{[], ◌∷◌, ◌++◌, ap, ◌∙◌}
use Rattle.snp_model.specs.declared.scenario.WordSpec.{WordSpec}
use Rattle.snp_model.specs.Generated.{leaf_word}
use Rattle.drill_gen.proofs.GeneratedLaws.{more_from}
use Rattle.drill_gen.proofs.opening.add_leaf_words.Goals as goal

pub leaves-preserved : goal.leaves-preserved
leaves-preserved c =
    more_from (leaf_word c.args.guest) c.args.words.now c.leaves.words c.push.new.self c.leaves.gpn c.leaves.invariant
    (c.in_ok-push.ensures.ok ∙ ap (λ (word : WordSpec). c.leaves.words ++ word ∷ []) c.leaf_word.ensures)
