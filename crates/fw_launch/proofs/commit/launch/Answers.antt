use Rattle.std.proofs.Common.{◌∙◌, ap, arith}
use Rattle.snp_model.specs.declared.entry.RmpEntry.{RmpEntry}
use Rattle.snp_model.specs.Entries.{facts_at, region_pages}
use Rattle.snp_model.specs.FirmwareCommits.{at_frame}
use Rattle.snp_model.specs.RegionWords.{page_at}
use Rattle.snp_model.specs.State.{Page}
use Rattle.snp_model.proofs.RegionPagesLaws.{entry_put, page_put}
use Rattle.fw_launch.proofs.LaunchLaws.{launched_entry, words_kept, words_zeroed}
use Rattle.fw_launch.proofs.commit.launch.Goals as goal

pub returns-then-page_type-eq-ZERO-clause-pages : goal.returns-then-page_type-eq-ZERO-clause-pages
returns-then-page_type-eq-ZERO-clause-pages c =
    page_put c.args.memory.now _ c.args.rmp.now c.write_entry.new.self c.args.slot _ _ (omega (arith, c.whole.ensures.pages_count)) (ap (λ (entry : RmpEntry). entry.size) c.effective.ensures ∙ c.requires.small) c.page_fill.ensures c.write_entry.ensures.written
    ∙ ap (λ (page : Page). at_frame c.args.slot page (region_pages c.args.memory.now c.args.rmp.now))
    (λ i. record {
      facts = launched_entry c.effective.result (facts_at c.args.rmp.now c.args.slot) c.args.perms.now c.effective.ensures c.told-perms i;
      words = words_zeroed c.args.page_type (page_at c.args.memory.now c.args.slot) c.if-page_type-eq-ZERO.true i;
    })

pub returns-else-page_type-eq-ZERO-clause-pages : goal.returns-else-page_type-eq-ZERO-clause-pages
returns-else-page_type-eq-ZERO-clause-pages c =
    entry_put c.args.memory.now c.args.rmp.now c.write_entry.new.self c.args.slot _ (omega (arith, c.whole.ensures.pages_count)) (ap (λ (entry : RmpEntry). entry.size) c.effective.ensures ∙ c.requires.small) c.write_entry.ensures.written
    ∙ ap (λ (page : Page). at_frame c.args.slot page (region_pages c.args.memory.now c.args.rmp.now))
    (λ i. record {
      facts = launched_entry c.effective.result (facts_at c.args.rmp.now c.args.slot) c.args.perms.now c.effective.ensures c.told-perms i;
      words = words_kept c.args.page_type (page_at c.args.memory.now c.args.slot) c.if-page_type-eq-ZERO.false i;
    })
