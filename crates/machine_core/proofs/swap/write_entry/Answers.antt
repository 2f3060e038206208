use Rattle.std.proofs.Common.{◌%◌, Option, arith, refl, sym, ap, ◌∙◌}
use Rattle.snp_model.specs.declared.firmware.MetaEntry.{MetaEntry}
use Rattle.snp_model.specs.FirmwareCommits.{at_frame, with_words}
use Rattle.snp_model.specs.Metadata.{cleared, with_entry}
use Rattle.snp_model.specs.RegionWords.{page_at}
use Rattle.snp_model.specs.Sealing.{entry_set}
use Rattle.snp_model.specs.State.{Page}
use Rattle.machine_core.specs.Bays.{pages_of}
use Rattle.machine_core.proofs.PageCommitLaws.{frame_changed, holders_same}
use Rattle.machine_core.proofs.SwapLaws.{words_in}
use Rattle.machine_core.proofs.swap.write_entry.Goals as goal

pub returns-in-Some-clause-pages : goal.returns-in-Some-clause-pages
returns-in-Some-clause-pages g c =
    let before = pages_of (g.P.Parts.stock c.args.parts.now).bays in
    frame_changed _ _ c.args.frame c.bay_mut-bay.result.now (record { memory = c.set.new.memory; rmp = c.bay_mut-bay.result.now.rmp }) (λ (page : Page). with_words (with_entry page.words c.args.number c.in-Some.entry) page)
    (record { there = c.bay_mut-bay.ensures.value; stock_is = g.met.P.Parts.bay_written _ _ _ c.requires.has })
    (words_in c.bay_mut-bay.result.now c.set.new.memory (c.args.frame % 512) (with_entry (page_at c.bay_mut-bay.result.now.memory (c.args.frame % 512)) c.args.number c.in-Some.entry) (omega (arith, c.whole.ensures.pages_count)) c.set.ensures.memory)
    ∙ ap (λ (entry : Option MetaEntry). at_frame c.args.frame (with_words (entry_set (before c.args.frame).words c.args.number entry) (before c.args.frame)) before) (sym c.in-Some.is)

pub returns-in-None-clause-pages : goal.returns-in-None-clause-pages
returns-in-None-clause-pages g c =
    let before = pages_of (g.P.Parts.stock c.args.parts.now).bays in
    frame_changed _ _ c.args.frame c.bay_mut-bay.result.now (record { memory = c.clear.new.memory; rmp = c.bay_mut-bay.result.now.rmp }) (λ (page : Page). with_words (cleared page.words c.args.number) page)
    (record { there = c.bay_mut-bay.ensures.value; stock_is = g.met.P.Parts.bay_written _ _ _ c.requires.has })
    (words_in c.bay_mut-bay.result.now c.clear.new.memory (c.args.frame % 512) (cleared (page_at c.bay_mut-bay.result.now.memory (c.args.frame % 512)) c.args.number) (omega (arith, c.whole.ensures.pages_count)) c.clear.ensures.memory)
    ∙ ap (λ (entry : Option MetaEntry). at_frame c.args.frame (with_words (entry_set (before c.args.frame).words c.args.number entry) (before c.args.frame)) before) (sym c.in-None.is)

pub returns-in-Some-clause-locks : goal.returns-in-Some-clause-locks
returns-in-Some-clause-locks g c =
    holders_same _ _ _ c.bay_mut-bay.result.now (record { memory = c.set.new.memory; rmp = c.bay_mut-bay.result.now.rmp })
    (record { there = c.bay_mut-bay.ensures.value; stock_is = g.met.P.Parts.bay_written _ _ _ c.requires.has }) refl

pub returns-in-None-clause-locks : goal.returns-in-None-clause-locks
returns-in-None-clause-locks g c =
    holders_same _ _ _ c.bay_mut-bay.result.now (record { memory = c.clear.new.memory; rmp = c.bay_mut-bay.result.now.rmp })
    (record { there = c.bay_mut-bay.ensures.value; stock_is = g.met.P.Parts.bay_written _ _ _ c.requires.has }) refl
