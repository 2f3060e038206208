use Rattle.std.proofs.Common.{◌∙◌, sym, refl}
use Rattle.snp_model.specs.Entries.{facts_at}
use Rattle.snp_model.specs.FirmwareCommits.{reclaim_facts, released}
use Rattle.snp_model.specs.State.{zero_words}
use Rattle.snp_model.proofs.RegionPagesLaws.{entry_over_frames, page_over}
use Rattle.fw_reclaim.proofs.ReclaimLaws.{by_size, head_aligned, reclaimed_frame}
use Rattle.fw_reclaim.proofs.reclaim.release.Goals as goal

pub returns-clause-pages : goal.returns-clause-pages
returns-clause-pages c =
    page_over c.args.memory.now c.empty.new.memory c.args.rmp.now c.write_page.new.self c.args.slot reclaim_facts (λ words. zero_words) released
    (c.write_page.ensures.written
    ∙ entry_over_frames c.args.rmp.now c.args.slot _ reclaim_facts c.requires.size
    (λ k in_page. reclaimed_frame c.args.rmp.now c.args.slot k c.args.entry.now c.whole.ensures c.requires.slot_below in_page c.requires.entry c.requires.size (head_aligned c.args.rmp.now c.args.slot c.args.entry.now c.whole.ensures c.requires.slot_below c.requires.entry c.requires.size)))
    (by_size c.args.memory.now c.empty.new.memory c.args.slot _ (facts_at c.args.rmp.now c.args.slot).size (sym c.requires.size) c.empty.ensures)
    (λ k in_page. refl)
