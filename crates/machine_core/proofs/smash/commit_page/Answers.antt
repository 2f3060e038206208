use Rattle.std.proofs.Common.{refl}
use Rattle.machine_core.proofs.SmashLaws.{commit_locks, commit_pages, commit_shown, page_held, page_tested}
use Rattle.machine_core.proofs.smash.commit_page.Goals as goal

pub smash_commit-requires-clause-held : goal.smash_commit-requires-clause-held
smash_commit-requires-clause-held g c = page_held c.args.number c.args.frame (g.P.Parts.stock c.args.parts.now) c.bay_mut-bay.result.now c.requires.tested c.bay_mut-bay.ensures.value c.requires.holds

pub smash_commit-requires-clause-tested : goal.smash_commit-requires-clause-tested
smash_commit-requires-clause-tested g c = page_tested c.args.frame (g.P.Parts.stock c.args.parts.now) c.bay_mut-bay.result.now c.requires.tested c.bay_mut-bay.ensures.value

pub returns-clause-shown : goal.returns-clause-shown
returns-clause-shown g c =
    commit_shown c.args.frame c.effective-gpn.result.gpn (g.P.Parts.stock c.args.parts.now) c.bay_mut-bay.result.now c.effective-gpn.result c.last.result c.requires.tested c.bay_mut-bay.ensures.value c.effective-gpn.ensures refl c.last.ensures

pub returns-clause-pages : goal.returns-clause-pages
returns-clause-pages g c =
    commit_pages _ _ c.args.frame c.bay_mut-bay.result.now (record { memory = c.bay_mut-bay.result.now.memory; rmp = c.smash_commit.new.rmp }) c.requires.tested
    (record { there = c.bay_mut-bay.ensures.value; stock_is = g.met.P.Parts.bay_written _ _ _ c.requires.has }) refl c.smash_commit.ensures.facts

pub returns-clause-locks : goal.returns-clause-locks
returns-clause-locks g c =
    commit_locks _ _ c.args.number c.args.frame c.bay_mut-bay.result.now (record { memory = c.bay_mut-bay.result.now.memory; rmp = c.smash_commit.new.rmp }) c.requires.tested c.requires.holds
    (record { there = c.bay_mut-bay.ensures.value; stock_is = g.met.P.Parts.bay_written _ _ _ c.requires.has }) c.smash_commit.ensures.locks
