use Rattle.std.proofs.Common.{refl, sym, ap, ◌∙◌}
use Rattle.snp_model.specs.declared.entry.RmpEntry.{RmpEntry}
use Rattle.snp_model.specs.FirmwareCommits.{at_frame, metadata_out, released}
use Rattle.snp_model.specs.Sealing.{given_up}
use Rattle.snp_model.specs.State.{Page}
use Rattle.machine_core.specs.declared.sealing.What.{What}
use Rattle.machine_core.specs.Bays.{pages_of}
use Rattle.machine_core.specs.Seals.{what_by}
use Rattle.machine_core.proofs.PageCommitLaws.{frame_changed, holders_same, own_entry, own_locked, own_small}
use Rattle.machine_core.proofs.SwapLaws.{kind_gpn}
use Rattle.machine_core.proofs.swap.give_up.Goals as goal

pub release-requires-clause-locked : goal.release-requires-clause-locked
release-requires-clause-locked g c = own_locked (g.P.Parts.stock c.args.parts.now).bays c.bay_mut-bay.result.now c.args.frame c.bay_mut-bay.ensures.value c.requires.locked

pub release-requires-clause-small : goal.release-requires-clause-small
release-requires-clause-small g c = own_small (g.P.Parts.stock c.args.parts.now).bays c.bay_mut-bay.result.now c.args.frame c.bay_mut-bay.ensures.value c.requires.small

pub metadata_out-requires-clause-locked : goal.metadata_out-requires-clause-locked
metadata_out-requires-clause-locked g c = own_locked (g.P.Parts.stock c.args.parts.now).bays c.bay_mut-bay.result.now c.args.frame c.bay_mut-bay.ensures.value c.requires.locked

pub metadata_out-requires-clause-small : goal.metadata_out-requires-clause-small
metadata_out-requires-clause-small g c = own_small (g.P.Parts.stock c.args.parts.now).bays c.bay_mut-bay.result.now c.args.frame c.bay_mut-bay.ensures.value c.requires.small

pub returns-in-GuestPage-clause-pages : goal.returns-in-GuestPage-clause-pages
returns-in-GuestPage-clause-pages g c =
    let before = pages_of (g.P.Parts.stock c.args.parts.now).bays in
    frame_changed _ _ c.args.frame c.bay_mut-bay.result.now (record { memory = c.release.new.memory; rmp = c.release.new.rmp }) (λ (page : Page). released page)
    (record { there = c.bay_mut-bay.ensures.value; stock_is = g.met.P.Parts.bay_written _ _ _ c.requires.has }) c.release.ensures.pages
    ∙ ap (λ (what : What). at_frame c.args.frame (given_up (what_by what) (before c.args.frame)) before) (sym c.in-GuestPage.is)

pub returns-in-MetadataPage-clause-pages : goal.returns-in-MetadataPage-clause-pages
returns-in-MetadataPage-clause-pages g c =
    let before = pages_of (g.P.Parts.stock c.args.parts.now).bays in
    frame_changed _ _ c.args.frame c.bay_mut-bay.result.now (record { memory = c.metadata_out.new.memory; rmp = c.metadata_out.new.rmp }) (λ (page : Page). metadata_out page)
    (record { there = c.bay_mut-bay.ensures.value; stock_is = g.met.P.Parts.bay_written _ _ _ c.requires.has }) c.metadata_out.ensures.pages
    ∙ ap (λ (what : What). at_frame c.args.frame (given_up (what_by what) (before c.args.frame)) before) (sym c.in-MetadataPage.is)

pub returns-in-GuestPage-clause-gpn : goal.returns-in-GuestPage-clause-gpn
returns-in-GuestPage-clause-gpn g c =
    kind_gpn c.args.what _ c.effective-gpn.result.gpn _ c.in-GuestPage.is
    (ap (λ (entry : RmpEntry). entry.gpn) (own_entry (g.P.Parts.stock c.args.parts.now).bays c.bay_mut-bay.result.now c.args.frame c.effective-gpn.result c.bay_mut-bay.ensures.value c.effective-gpn.ensures))

pub returns-in-MetadataPage-clause-gpn : goal.returns-in-MetadataPage-clause-gpn
returns-in-MetadataPage-clause-gpn g c = kind_gpn c.args.what _ 0 _ c.in-MetadataPage.is refl

pub returns-in-GuestPage-clause-locks : goal.returns-in-GuestPage-clause-locks
returns-in-GuestPage-clause-locks g c =
    holders_same _ _ _ c.bay_mut-bay.result.now (record { memory = c.release.new.memory; rmp = c.release.new.rmp })
    (record { there = c.bay_mut-bay.ensures.value; stock_is = g.met.P.Parts.bay_written _ _ _ c.requires.has }) c.release.ensures.locks

pub returns-in-MetadataPage-clause-locks : goal.returns-in-MetadataPage-clause-locks
returns-in-MetadataPage-clause-locks g c =
    holders_same _ _ _ c.bay_mut-bay.result.now (record { memory = c.metadata_out.new.memory; rmp = c.metadata_out.new.rmp })
    (record { there = c.bay_mut-bay.ensures.value; stock_is = g.met.P.Parts.bay_written _ _ _ c.requires.has }) c.metadata_out.ensures.locks
