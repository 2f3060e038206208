use Rattle.std.proofs.Common.{◌∙◌, arith}
use Rattle.std.proofs.lemmas.Grind.{common_steps}
use Rattle.machine_core.proofs.BaysLaws.{table_word_there}
use Rattle.machine_core.proofs.reads.table_word.Goals as goal

pub returns-then-entry : goal.returns-then-entry
returns-then-entry g c =
    grind (arith, common_steps) ∙ table_word_there (g.P.Parts.stock c.args.parts.now).bays c.args.frame c.args.index c.bay-bay.result.now c.bay-bay.ensures

pub returns-else-entry : goal.returns-else-entry
returns-else-entry g c =
    grind (arith, common_steps) ∙ table_word_there (g.P.Parts.stock c.args.parts.now).bays c.args.frame c.args.index c.bay-bay.result.now c.bay-bay.ensures
