use Rattle.std.proofs.Common.{sym}
use Rattle.machine_core.proofs.ComputeLaws.{in_computes, out_computes}
use Rattle.machine_core.specs.Seals.{computed_by, made_by}
use Rattle.machine_core.proofs.compute.make.Goals as goal

pub returns-in-Out : goal.returns-in-Out
returns-in-Out g c =
    λ guests.
    sym (out_computes guests c.args.sealing.now (g.P.Parts.stock c.args.parts.now) c.context-context.result.now c.copy_out-entry.result c.copy_out-entry.new.words (made_by c.seal.result c.seal.new.words) c.in-Out.is c.context-context.ensures
    c.copy_out-entry.ensures.entry c.copy_out-entry.ensures.words c.seal.ensures)

pub returns-in-In : goal.returns-in-In
returns-in-In g c =
    λ guests.
    in_computes guests c.args.sealing.now (g.P.Parts.stock c.args.parts.now) c.context-context.result.now c.copy_out-entry.new.words c.slot_entry-kept.result (computed_by c.unseal.result c.unseal.new.words) c.in-In.is c.context-context.ensures
    c.copy_out-entry.ensures.words c.slot_entry-kept.ensures c.unseal.ensures
