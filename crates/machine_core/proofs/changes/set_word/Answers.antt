use Rattle.machine_core.proofs.BaysLaws.{stored_words, stored_facts, stored_locks}
use Rattle.machine_core.proofs.changes.set_word.Goals as goal

pub returns-clause-words : goal.returns-clause-words
returns-clause-words g c =
    stored_words _ _ c.args.frame c.args.index c.args.value c.bay_mut-bay.result.now c.store.new.self
    (record { there = c.bay_mut-bay.ensures.value; memory_is = c.store.ensures.memory; stock_is = g.met.P.Parts.bay_written _ _ _ c.requires.has })

pub returns-clause-facts : goal.returns-clause-facts
returns-clause-facts g c =
    stored_facts _ _ c.args.frame c.args.index c.args.value c.bay_mut-bay.result.now c.store.new.self
    (record { there = c.bay_mut-bay.ensures.value; memory_is = c.store.ensures.memory; stock_is = g.met.P.Parts.bay_written _ _ _ c.requires.has })

pub returns-clause-locks : goal.returns-clause-locks
returns-clause-locks g c =
    stored_locks _ _ c.args.frame c.args.index c.args.value c.bay_mut-bay.result.now c.store.new.self
    (record { there = c.bay_mut-bay.ensures.value; memory_is = c.store.ensures.memory; stock_is = g.met.P.Parts.bay_written _ _ _ c.requires.has })
