use Rattle.machine_core.proofs.PageCommitLaws.{own_entry, own_words}
use Rattle.machine_core.proofs.compute.copy_out.Goals as goal

pub returns-clause-entry : goal.returns-clause-entry
returns-clause-entry g c = own_entry (g.P.Parts.stock c.args.parts.now).bays c.bay-bay.result.now c.args.frame _ c.bay-bay.ensures c.effective.ensures

pub returns-clause-words : goal.returns-clause-words
returns-clause-words g c = own_words (g.P.Parts.stock c.args.parts.now).bays c.bay-bay.result.now c.args.frame _ c.bay-bay.ensures c.page_copy_out.ensures
