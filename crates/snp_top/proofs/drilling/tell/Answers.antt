use Rattle.std.proofs.Common.{◌∙◌}
use Rattle.snp_model.specs.Outside.{Adds, AddsPrefix}
use Rattle.snp_top.proofs.DrillLaws.{drill_told}
use Rattle.snp_top.proofs.drilling.tell.Goals as goal

pub returns-in-Ok-clause-answer : goal.returns-in-Ok-clause-answer
returns-in-Ok-clause-answer g c = drill_told c.args.number c.args.played.now _ (Adds _ _) c.requires.drilled (c.put_tally-end.ensures.lines ∙ c.tally_of.ensures) c.in-Ok.ensures.text

pub returns-in-Err-clause-answer : goal.returns-in-Err-clause-answer
returns-in-Err-clause-answer g c = (drill_told c.args.number c.args.played.now _ (AddsPrefix _ _) c.requires.drilled (c.put_tally-end.ensures.lines ∙ c.tally_of.ensures) c.in-Err.ensures.text, c.in-Err.ensures.cause)
