use Rattle.std.proofs.Common.{◌∙◌, arith}
use Rattle.std.proofs.lemmas.Grind.{common_steps}
use Rattle.machine_core.proofs.BaysLaws.{table_load_there}
use Rattle.machine_core.proofs.reads.guest_table_word.Goals as goal

pub returns-in-Pass : goal.returns-in-Pass
returns-in-Pass g c =
    grind (arith, common_steps) ∙ table_load_there (g.P.Parts.stock c.args.parts.now).bays c.args.frame c.args.at.now c.bay-bay.result.now c.bay-bay.ensures

pub returns-in-Fault : goal.returns-in-Fault
returns-in-Fault g c =
    grind (arith, common_steps) ∙ table_load_there (g.P.Parts.stock c.args.parts.now).bays c.args.frame c.args.at.now c.bay-bay.result.now c.bay-bay.ensures
