use Rattle.std.proofs.Common.{refl, sym, ap, ◌∙◌}
use Rattle.snp_model.specs.FirmwareCommits.{at_frame, metadata_in, restored}
use Rattle.snp_model.specs.Sealing.{brought_back}
use Rattle.snp_model.specs.State.{Page}
use Rattle.machine_core.specs.declared.sealing.What.{What}
use Rattle.machine_core.specs.Bays.{pages_of}
use Rattle.machine_core.specs.Seals.{what_by}
use Rattle.machine_core.proofs.PageCommitLaws.{frame_changed, holders_same, own_locked, own_small}
use Rattle.machine_core.proofs.SwapLaws.{kind_gpn, restored_gpn}
use Rattle.machine_core.proofs.swap.bring_back.Goals as goal

pub restore-requires-clause-locked : goal.restore-requires-clause-locked
restore-requires-clause-locked g c = own_locked (g.P.Parts.stock c.args.parts.now).bays c.bay_mut-bay.result.now c.args.frame c.bay_mut-bay.ensures.value c.requires.locked

pub restore-requires-clause-small : goal.restore-requires-clause-small
restore-requires-clause-small g c = own_small (g.P.Parts.stock c.args.parts.now).bays c.bay_mut-bay.result.now c.args.frame c.bay_mut-bay.ensures.value c.requires.small

pub metadata_in-requires-clause-locked : goal.metadata_in-requires-clause-locked
metadata_in-requires-clause-locked g c = own_locked (g.P.Parts.stock c.args.parts.now).bays c.bay_mut-bay.result.now c.args.frame c.bay_mut-bay.ensures.value c.requires.locked

pub metadata_in-requires-clause-small : goal.metadata_in-requires-clause-small
metadata_in-requires-clause-small g c = own_small (g.P.Parts.stock c.args.parts.now).bays c.bay_mut-bay.result.now c.args.frame c.bay_mut-bay.ensures.value c.requires.small

pub returns-in-GuestPage-clause-pages : goal.returns-in-GuestPage-clause-pages
returns-in-GuestPage-clause-pages g c =
    let before = pages_of (g.P.Parts.stock c.args.parts.now).bays in
    frame_changed _ _ c.args.frame c.bay_mut-bay.result.now (record { memory = c.restore.new.memory; rmp = c.restore.new.rmp }) (λ (page : Page). restored c.args.entry.now c.args.words.now page)
    (record { there = c.bay_mut-bay.ensures.value; stock_is = g.met.P.Parts.bay_written _ _ _ c.requires.has }) c.restore.ensures.pages
    ∙ ap (λ (what : What). at_frame c.args.frame (brought_back (what_by what) c.args.entry.now c.args.words.now (before c.args.frame)) before) (sym c.in-GuestPage.is)

pub returns-in-MetadataPage-clause-pages : goal.returns-in-MetadataPage-clause-pages
returns-in-MetadataPage-clause-pages g c =
    let before = pages_of (g.P.Parts.stock c.args.parts.now).bays in
    frame_changed _ _ c.args.frame c.bay_mut-bay.result.now (record { memory = c.metadata_in.new.memory; rmp = c.metadata_in.new.rmp }) (λ (page : Page). metadata_in c.args.words.now page)
    (record { there = c.bay_mut-bay.ensures.value; stock_is = g.met.P.Parts.bay_written _ _ _ c.requires.has }) c.metadata_in.ensures.pages
    ∙ ap (λ (what : What). at_frame c.args.frame (brought_back (what_by what) c.args.entry.now c.args.words.now (before c.args.frame)) before) (sym c.in-MetadataPage.is)

pub returns-in-GuestPage-clause-gpn : goal.returns-in-GuestPage-clause-gpn
returns-in-GuestPage-clause-gpn g c =
    let before = pages_of (g.P.Parts.stock c.args.parts.now).bays in
    kind_gpn c.args.what _ c.args.entry.now.gpn _ c.in-GuestPage.is
    (restored_gpn c.args.frame c.args.entry.now c.args.words.now before _
    (frame_changed _ _ c.args.frame c.bay_mut-bay.result.now (record { memory = c.restore.new.memory; rmp = c.restore.new.rmp }) (λ (page : Page). restored c.args.entry.now c.args.words.now page)
    (record { there = c.bay_mut-bay.ensures.value; stock_is = g.met.P.Parts.bay_written _ _ _ c.requires.has }) c.restore.ensures.pages))

pub returns-in-MetadataPage-clause-gpn : goal.returns-in-MetadataPage-clause-gpn
returns-in-MetadataPage-clause-gpn g c = kind_gpn c.args.what _ 0 _ c.in-MetadataPage.is refl

pub returns-in-GuestPage-clause-locks : goal.returns-in-GuestPage-clause-locks
returns-in-GuestPage-clause-locks g c =
    holders_same _ _ _ c.bay_mut-bay.result.now (record { memory = c.restore.new.memory; rmp = c.restore.new.rmp })
    (record { there = c.bay_mut-bay.ensures.value; stock_is = g.met.P.Parts.bay_written _ _ _ c.requires.has }) c.restore.ensures.locks

pub returns-in-MetadataPage-clause-locks : goal.returns-in-MetadataPage-clause-locks
returns-in-MetadataPage-clause-locks g c =
    holders_same _ _ _ c.bay_mut-bay.result.now (record { memory = c.metadata_in.new.memory; rmp = c.metadata_in.new.rmp })
    (record { there = c.bay_mut-bay.ensures.value; stock_is = g.met.P.Parts.bay_written _ _ _ c.requires.has }) c.metadata_in.ensures.locks
