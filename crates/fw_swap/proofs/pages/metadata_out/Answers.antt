use Rattle.std.proofs.Common.{◌∙◌, ap, arith}
use Rattle.snp_model.specs.declared.entry.RmpEntry.{RmpEntry}
use Rattle.snp_model.specs.Entries.{region_pages}
use Rattle.snp_model.specs.FirmwareCommits.{at_frame, metadata_out_facts}
use Rattle.snp_model.specs.State.{zero_words}
use Rattle.snp_model.proofs.RegionPagesLaws.{page_put}
use Rattle.fw_swap.proofs.pages.metadata_out.Goals as goal

pub returns-clause-pages : goal.returns-clause-pages
unfolding metadata_out_facts zero_words
returns-clause-pages c =
    let old = region_pages c.args.memory.now c.args.rmp.now in
    page_put c.args.memory.now _ c.args.rmp.now c.write_entry.new.self c.args.slot _ _ (omega (arith, c.whole.ensures.pages_count)) (ap (λ (entry : RmpEntry). entry.size) c.effective.ensures ∙ c.requires.small) c.page_fill.ensures c.write_entry.ensures.written
    ∙ ap (λ (entry : RmpEntry). at_frame c.args.slot (record { facts = metadata_out_facts entry; words = zero_words }) old) c.effective.ensures
