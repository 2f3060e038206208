use Rattle.std.proofs.Common.{refl}
use Rattle.machine_core.proofs.PageCommitLaws.{region_released}
use Rattle.machine_core.proofs.UpdateLaws.{lock_pages}
use Rattle.machine_core.proofs.release.release.Goals as goal

pub returns-clause-pages : goal.returns-clause-pages
returns-clause-pages g c =
    lock_pages _ _ c.args.region c.bay_mut.result.now (record { memory = c.bay_mut.result.now.memory; rmp = c.unlock.new.self })
    (record { there = c.bay_mut.ensures.value; stock_is = g.met.P.Parts.bay_written _ _ _ c.requires.has }) refl c.unlock.ensures.facts

pub returns-clause-locks : goal.returns-clause-locks
returns-clause-locks g c =
    region_released _ _ c.args.region c.args.number c.bay_mut.result.now (record { memory = c.bay_mut.result.now.memory; rmp = c.unlock.new.self })
    (record { there = c.bay_mut.ensures.value; stock_is = g.met.P.Parts.bay_written _ _ _ c.requires.has }) c.unlock.ensures.released
