use Rattle.machine_core.proofs.UpdateLaws.{commit_locks, commit_pages, range_held, range_tested}
use Rattle.machine_core.proofs.update.commit_range.Goals as goal

pub update_commit-requires-clause-held : goal.update_commit-requires-clause-held
update_commit-requires-clause-held g c = range_held c.args.number c.args.update.now (g.P.Parts.stock c.args.parts.now) c.bay_mut-bay.result.now c.requires.tested c.bay_mut-bay.ensures.value c.requires.holds

pub update_commit-requires-clause-tested : goal.update_commit-requires-clause-tested
update_commit-requires-clause-tested g c = range_tested c.args.update.now (g.P.Parts.stock c.args.parts.now) c.bay_mut-bay.result.now c.requires.tested c.bay_mut-bay.ensures.value

pub returns-clause-pages : goal.returns-clause-pages
returns-clause-pages g c =
    commit_pages _ _ c.args.update.now c.bay_mut-bay.result.now (record { memory = c.update_commit.new.memory; rmp = c.update_commit.new.rmp }) c.requires.tested
    (record { there = c.bay_mut-bay.ensures.value; stock_is = g.met.P.Parts.bay_written _ _ _ c.requires.has }) c.update_commit.ensures.pages

pub returns-clause-locks : goal.returns-clause-locks
returns-clause-locks g c =
    commit_locks _ _ c.args.number c.args.update.now c.bay_mut-bay.result.now (record { memory = c.update_commit.new.memory; rmp = c.update_commit.new.rmp }) c.requires.tested c.requires.holds
    (record { there = c.bay_mut-bay.ensures.value; stock_is = g.met.P.Parts.bay_written _ _ _ c.requires.has }) c.update_commit.ensures.locks
