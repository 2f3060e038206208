use Rattle.std.proofs.Common.{◌∙◌, ap, arith}
use Rattle.snp_model.specs.declared.entry.RmpEntry.{RmpEntry}
use Rattle.snp_model.specs.Entries.{region_pages}
use Rattle.snp_model.specs.FirmwareCommits.{at_frame, taken_facts}
use Rattle.snp_model.specs.State.{zero_words}
use Rattle.snp_model.proofs.RegionPagesLaws.{page_put}
use Rattle.fw_move.proofs.moving.take.Goals as goal

pub returns-clause-pages : goal.returns-clause-pages
unfolding taken_facts zero_words
returns-clause-pages c =
    let old = region_pages c.args.memory.now c.args.rmp.now in
    page_put c.args.memory.now _ c.args.rmp.now c.write_entry.new.self c.args.slot _ _ (omega arith) (ap (λ (moved : RmpEntry). moved.size) c.effective-moved.ensures ∙ c.requires.small) c.page_fill.ensures c.write_entry.ensures.written
    ∙ ap (λ (moved : RmpEntry). at_frame c.args.slot (record { facts = taken_facts moved; words = zero_words }) old) c.effective-moved.ensures
