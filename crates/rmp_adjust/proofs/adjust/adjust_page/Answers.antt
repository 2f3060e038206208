use Rattle.std.proofs.Common.{ap, ◌∙◌}
use Rattle.snp_model.specs.Validation.{adjusted_facts}
use Rattle.snp_model.proofs.EntriesLaws.{page_changed}
use Rattle.rmp_adjust.proofs.AdjustLaws.{adjusted_of_page}
use Rattle.rmp_adjust.proofs.adjust.adjust_page.Goals as goal

pub returns-clause-facts : goal.returns-clause-facts
returns-clause-facts c =
    let change = adjusted_facts c.args.vmpl c.args.target c.args.mask c.args.vmsa in
    c.write_page.ensures.written
    ∙ page_changed c.args.rmp.now c.args.slot change _ c.whole.ensures c.requires.slot_below (adjusted_of_page c.args.vmpl c.args.target c.args.mask c.args.vmsa)
    (c.adjusted-entry.ensures.adjusted ∙ ap change c.page_entry-entry.ensures.entry) (c.adjusted-entry.ensures.size ∙ c.page_entry-entry.ensures.size)
