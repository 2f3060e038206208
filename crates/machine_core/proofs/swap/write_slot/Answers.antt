use Rattle.std.proofs.Common.{sym, ap, ◌∙◌}
use Rattle.snp_model.specs.Sealing.{with_slot_entry}
use Rattle.machine_core.specs.declared.sealing.Slot.{Slot}
use Rattle.machine_core.specs.Bays.{pages_of}
use Rattle.machine_core.specs.Seals.{slot_by}
use Rattle.machine_core.proofs.SwapLaws.{entry_has}
use Rattle.machine_core.proofs.swap.write_slot.Goals as goal

pub write_entry-requires-clause-has : goal.write_entry-requires-clause-has
write_entry-requires-clause-has g c = (entry_has c.args.slot.now c.in-OfEntry.metadata c.in-OfEntry.number (g.P.Parts.stock c.args.parts.now) c.in-OfEntry.is c.requires.has).has

pub write_entry-requires-clause-number_below : goal.write_entry-requires-clause-number_below
write_entry-requires-clause-number_below g c = (entry_has c.args.slot.now c.in-OfEntry.metadata c.in-OfEntry.number (g.P.Parts.stock c.args.parts.now) c.in-OfEntry.is c.requires.has).number_below

pub returns-in-OfEntry-clause-pages : goal.returns-in-OfEntry-clause-pages
unfolding with_slot_entry
returns-in-OfEntry-clause-pages g c =
    c.write_entry.ensures.pages ∙ ap (λ (slot : Slot). with_slot_entry (slot_by slot) c.args.entry.now (pages_of (g.P.Parts.stock c.args.parts.now).bays)) (sym c.in-OfEntry.is)

pub returns-in-OfRoot-clause-pages : goal.returns-in-OfRoot-clause-pages
unfolding with_slot_entry
returns-in-OfRoot-clause-pages g c =
    ap (λ (slot : Slot). with_slot_entry (slot_by slot) c.args.entry.now (pages_of (g.P.Parts.stock c.args.parts.now).bays)) (sym c.in-OfRoot.is)
