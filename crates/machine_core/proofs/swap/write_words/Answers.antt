use Rattle.std.proofs.Common.{◌%◌, arith, refl}
use Rattle.snp_model.specs.FirmwareCommits.{with_words}
use Rattle.snp_model.specs.State.{Page}
use Rattle.machine_core.proofs.PageCommitLaws.{frame_changed, holders_same}
use Rattle.machine_core.proofs.SwapLaws.{words_in}
use Rattle.machine_core.proofs.swap.write_words.Goals as goal

pub returns-clause-pages : goal.returns-clause-pages
returns-clause-pages g c =
    frame_changed _ _ c.args.frame c.bay_mut-bay.result.now (record { memory = c.page_copy_in.new.self; rmp = c.bay_mut-bay.result.now.rmp }) (λ (page : Page). with_words c.args.words.now page)
    (record { there = c.bay_mut-bay.ensures.value; stock_is = g.met.P.Parts.bay_written _ _ _ c.requires.has })
    (words_in c.bay_mut-bay.result.now c.page_copy_in.new.self (c.args.frame % 512) c.args.words.now (omega (arith, c.whole.ensures.pages_count)) c.page_copy_in.ensures)

pub returns-clause-locks : goal.returns-clause-locks
returns-clause-locks g c =
    holders_same _ _ _ c.bay_mut-bay.result.now (record { memory = c.page_copy_in.new.self; rmp = c.bay_mut-bay.result.now.rmp })
    (record { there = c.bay_mut-bay.ensures.value; stock_is = g.met.P.Parts.bay_written _ _ _ c.requires.has }) refl
