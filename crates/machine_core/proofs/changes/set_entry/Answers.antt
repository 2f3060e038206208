use Rattle.std.proofs.Common.{refl, sym, ap, ◌∙◌}
use Rattle.snp_model.specs.declared.entry.RmpEntry.{RmpEntry}
use Rattle.machine_core.proofs.BaysLaws.{facts_there, region_entry, written_facts, written_words, written_locks}
use Rattle.machine_core.proofs.changes.set_entry.Goals as goal

pub returns-clause-facts : goal.returns-clause-facts
returns-clause-facts g c =
    written_facts _ _ c.args.frame c.args.entry c.bay_mut-bay.result.now _
    (record { there = c.bay_mut-bay.ensures.value; first = λ large. (c.requires.large large).first; memory_is = refl; facts_are = c.write_entry.ensures.written; locks_are = c.write_entry.ensures.locks; stock_is = g.met.P.Parts.bay_written _ _ _ c.requires.has })

pub returns-clause-words : goal.returns-clause-words
returns-clause-words g c =
    written_words _ _ c.args.frame c.args.entry c.bay_mut-bay.result.now _
    (record { there = c.bay_mut-bay.ensures.value; first = λ large. (c.requires.large large).first; memory_is = refl; facts_are = c.write_entry.ensures.written; locks_are = c.write_entry.ensures.locks; stock_is = g.met.P.Parts.bay_written _ _ _ c.requires.has })

pub returns-clause-locks : goal.returns-clause-locks
returns-clause-locks g c =
    written_locks _ _ c.args.frame c.args.entry c.bay_mut-bay.result.now _
    (record { there = c.bay_mut-bay.ensures.value; first = λ large. (c.requires.large large).first; memory_is = refl; facts_are = c.write_entry.ensures.written; locks_are = c.write_entry.ensures.locks; stock_is = g.met.P.Parts.bay_written _ _ _ c.requires.has })

pub write_entry-requires-clause-small : goal.write_entry-requires-clause-small
write_entry-requires-clause-small g c =
    λ small. ap (λ (e : RmpEntry). e.size) (sym (facts_there _ c.args.frame c.bay_mut-bay.result.now c.bay_mut-bay.ensures.value)) ∙ c.requires.small small

pub write_entry-requires-clause-large : goal.write_entry-requires-clause-large
write_entry-requires-clause-large g c = λ large. region_entry _ c.args.frame c.bay_mut-bay.result.now c.args.entry c.bay_mut-bay.ensures.value (c.requires.large large)
