use Rattle.snp_model.specs.declared.entry.RmpEntry.{RmpEntry}
use Rattle.snp_model.specs.Accesses.{guest_verdict}
use Rattle.machine_core.proofs.BaysLaws.{accessed, accessed_locks}
use Rattle.machine_core.proofs.changes.guest_access.Goals as goal

pub returns-clause-moves : goal.returns-clause-moves
returns-clause-moves g c =
    accessed _ _ c.args.frame c.args.at.now.slot c.args.at.now.index c.bay_mut-bay.result.now c.access.new.memory c.args.op.now (λ (facts : RmpEntry). guest_verdict facts c.args.at.now c.args.op.now) c.access.result
    (record { there = c.bay_mut-bay.ensures.value; slot_is = c.requires.slot; outcome_is = c.access.ensures.outcome; memory_is = c.access.ensures.memory; stock_is = g.met.P.Parts.bay_written _ _ _ c.requires.has })

pub returns-clause-locks : goal.returns-clause-locks
returns-clause-locks g c =
    accessed_locks _ _ c.args.frame c.args.at.now.slot c.args.at.now.index c.bay_mut-bay.result.now c.access.new.memory c.args.op.now (λ (facts : RmpEntry). guest_verdict facts c.args.at.now c.args.op.now) c.access.result
    (record { there = c.bay_mut-bay.ensures.value; slot_is = c.requires.slot; outcome_is = c.access.ensures.outcome; memory_is = c.access.ensures.memory; stock_is = g.met.P.Parts.bay_written _ _ _ c.requires.has })
