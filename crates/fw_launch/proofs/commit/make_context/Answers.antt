use Rattle.std.proofs.Common.{◌∙◌, ap, arith}
use Rattle.snp_model.specs.declared.entry.RmpEntry.{RmpEntry}
use Rattle.snp_model.specs.Entries.{region_pages}
use Rattle.snp_model.specs.FirmwareCommits.{at_frame, context_facts}
use Rattle.snp_model.specs.RegionWords.{page_at}
use Rattle.snp_model.proofs.RegionPagesLaws.{entry_put}
use Rattle.fw_launch.proofs.commit.make_context.Goals as goal

pub returns-clause-pages : goal.returns-clause-pages
unfolding context_facts
returns-clause-pages c =
    let old = region_pages c.args.memory.now c.args.rmp.now in
    entry_put c.args.memory.now c.args.rmp.now c.write_entry.new.self c.args.slot _ (omega (arith, c.whole.ensures.pages_count)) (ap (λ (entry : RmpEntry). entry.size) c.effective.ensures ∙ c.requires.small) c.write_entry.ensures.written
    ∙ ap (λ (entry : RmpEntry). at_frame c.args.slot (record { facts = context_facts entry; words = page_at c.args.memory.now c.args.slot }) old) c.effective.ensures
