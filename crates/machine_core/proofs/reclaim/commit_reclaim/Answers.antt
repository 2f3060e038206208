use Rattle.std.proofs.Common.{ap, is_some}
use Rattle.snp_model.specs.FirmwareCommits.{reclaimed_page}
use Rattle.machine_core.proofs.PageCommitLaws.{entry_shown, pages_unlocked, unlocked_after, whole_changed}
use Rattle.machine_core.proofs.PageLaws.{own_held, page_released}
use Rattle.machine_core.proofs.reclaim.commit_reclaim.Goals as goal

pub reclaim_commit-requires-clause-locked : goal.reclaim_commit-requires-clause-locked
reclaim_commit-requires-clause-locked g c = ap is_some (own_held c.args.number c.args.frame (g.P.Parts.stock c.args.parts.now) c.bay_mut-bay.result.now c.bay_mut-bay.ensures.value c.requires.holds)

pub returns-clause-shown : goal.returns-clause-shown
returns-clause-shown g c =
    entry_shown (g.P.Parts.stock c.args.parts.now).bays c.bay_mut-bay.result.now c.args.frame c.effective-entry.result c.last.result c.bay_mut-bay.ensures.value c.effective-entry.ensures c.last.ensures

pub returns-clause-pages : goal.returns-clause-pages
returns-clause-pages g c =
    whole_changed _ _ c.args.frame c.bay_mut-bay.result.now (record { memory = c.reclaim_commit.new.memory; rmp = c.unlock.new.self }) reclaimed_page
    (record { there = c.bay_mut-bay.ensures.value; stock_is = g.met.P.Parts.bay_written _ _ _ c.requires.has })
    (pages_unlocked c.reclaim_commit.new.memory c.reclaim_commit.new.rmp c.unlock.new.self _ c.unlock.ensures.facts c.reclaim_commit.ensures.pages)

pub returns-clause-locks : goal.returns-clause-locks
returns-clause-locks g c =
    page_released _ _ c.args.number c.args.frame c.bay_mut-bay.result.now (record { memory = c.reclaim_commit.new.memory; rmp = c.unlock.new.self }) c.requires.holds
    (record { there = c.bay_mut-bay.ensures.value; stock_is = g.met.P.Parts.bay_written _ _ _ c.requires.has })
    (unlocked_after c.args.number c.bay_mut-bay.result.now.rmp c.reclaim_commit.new.rmp c.unlock.new.self c.reclaim_commit.ensures.locks c.unlock.ensures.released)
