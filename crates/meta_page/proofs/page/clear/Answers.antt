use Rattle.snp_model.specs.Metadata.{cleared}
use Rattle.meta_page.proofs.SlotLaws.{entry_cleared, others_cleared}
use Rattle.meta_page.proofs.page.clear.Goals as goal

pub returns-clause-not_in_use : goal.returns-clause-not_in_use
unfolding cleared
returns-clause-not_in_use c =
    entry_cleared c.args.memory.now _ c.args.page c.args.number c.whole.ensures c.requires.page_below c.requires.number_below c.write_slot.ensures

pub returns-clause-others : goal.returns-clause-others
unfolding cleared
returns-clause-others c = λ other apart.
    others_cleared c.args.memory.now _ c.args.page c.args.number other c.whole.ensures c.requires.page_below c.requires.number_below apart c.write_slot.ensures
