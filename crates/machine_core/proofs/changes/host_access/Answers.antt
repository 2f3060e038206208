use Rattle.std.proofs.Common.{refl, ◌%◌}
use Rattle.snp_model.specs.declared.entry.RmpEntry.{RmpEntry}
use Rattle.snp_model.specs.Verdicts.{host_verdict}
use Rattle.machine_core.proofs.BaysLaws.{accessed, accessed_locks}
use Rattle.machine_core.proofs.changes.host_access.Goals as goal

pub returns-clause-moves : goal.returns-clause-moves
returns-clause-moves g c =
    accessed _ _ c.args.frame (c.args.frame % 512) c.args.index c.bay_mut-bay.result.now c.host_access.new.memory c.args.op.now (λ (facts : RmpEntry). host_verdict facts c.args.op.now) c.host_access.result
    (record { there = c.bay_mut-bay.ensures.value; slot_is = refl; outcome_is = c.host_access.ensures.outcome; memory_is = c.host_access.ensures.memory; stock_is = g.met.P.Parts.bay_written _ _ _ c.requires.has })

pub returns-clause-locks : goal.returns-clause-locks
returns-clause-locks g c =
    accessed_locks _ _ c.args.frame (c.args.frame % 512) c.args.index c.bay_mut-bay.result.now c.host_access.new.memory c.args.op.now (λ (facts : RmpEntry). host_verdict facts c.args.op.now) c.host_access.result
    (record { there = c.bay_mut-bay.ensures.value; slot_is = refl; outcome_is = c.host_access.ensures.outcome; memory_is = c.host_access.ensures.memory; stock_is = g.met.P.Parts.bay_written _ _ _ c.requires.has })
