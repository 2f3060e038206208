use Rattle.std.proofs.Common.{arith}
use Rattle.snp_model.proofs.RegionPagesLaws.{page_put}
use Rattle.fw_move.proofs.moving.place.Goals as goal

pub returns-clause-pages : goal.returns-clause-pages
returns-clause-pages c =
    page_put c.args.memory.now _ c.args.rmp.now c.write_entry.new.self c.args.slot c.args.moved c.args.words.now (omega (arith, c.whole.ensures.pages_count)) c.requires.moved_small c.page_copy_in.ensures c.write_entry.ensures.written
