use Rattle.std.proofs.Common.{ap}
use Rattle.snp_model.specs.HeldContexts.{HeldContext}
use Rattle.machine_core.proofs.ComputeLaws.{entry_there, root_there}
use Rattle.machine_core.proofs.compute.slot_entry.Goals as goal

pub returns-in-OfEntry : goal.returns-in-OfEntry
returns-in-OfEntry g c =
    entry_there (g.P.Parts.stock c.args.parts.now).bays c.bay-bay.result.now c.args.context.now.context c.args.slot.now c.in-OfEntry.metadata c.in-OfEntry.number c.entry.result c.in-OfEntry.is c.bay-bay.ensures c.entry.ensures.entry

pub returns-in-OfRoot : goal.returns-in-OfRoot
returns-in-OfRoot g c = root_there (g.P.Parts.stock c.args.parts.now).bays c.args.context.now.context c.args.slot.now _ c.in-OfRoot.is (ap (λ (h : HeldContext). h.context.root) c.context.view_is)
