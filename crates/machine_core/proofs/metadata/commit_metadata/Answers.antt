use Rattle.std.proofs.Common.{ap, is_some}
use Rattle.snp_model.specs.FirmwareCommits.{metadata_page}
use Rattle.snp_model.specs.State.{Page}
use Rattle.machine_core.proofs.PageCommitLaws.{entry_shown, frame_changed, own_small, pages_unlocked, small_held, small_released, unlocked_after}
use Rattle.machine_core.proofs.metadata.commit_metadata.Goals as goal

pub md_commit-requires-clause-locked : goal.md_commit-requires-clause-locked
md_commit-requires-clause-locked g c =
    ap is_some (small_held c.args.number c.args.frame (g.P.Parts.stock c.args.parts.now) c.bay_mut-bay.result.now c.bay_mut-bay.ensures.value c.requires.tested c.requires.holds)

pub md_commit-requires-clause-small : goal.md_commit-requires-clause-small
md_commit-requires-clause-small g c = own_small (g.P.Parts.stock c.args.parts.now).bays c.bay_mut-bay.result.now c.args.frame c.bay_mut-bay.ensures.value c.requires.tested.small

pub returns-clause-shown : goal.returns-clause-shown
returns-clause-shown g c =
    entry_shown (g.P.Parts.stock c.args.parts.now).bays c.bay_mut-bay.result.now c.args.frame c.effective-entry.result c.last.result c.bay_mut-bay.ensures.value c.effective-entry.ensures c.last.ensures

pub returns-clause-pages : goal.returns-clause-pages
returns-clause-pages g c =
    frame_changed _ _ c.args.frame c.bay_mut-bay.result.now (record { memory = c.md_commit.new.memory; rmp = c.unlock.new.self }) (λ (page : Page). metadata_page page)
    (record { there = c.bay_mut-bay.ensures.value; stock_is = g.met.P.Parts.bay_written _ _ _ c.requires.has })
    (pages_unlocked c.md_commit.new.memory c.md_commit.new.rmp c.unlock.new.self _ c.unlock.ensures.facts c.md_commit.ensures.pages)

pub returns-clause-locks : goal.returns-clause-locks
returns-clause-locks g c =
    small_released _ _ c.args.number c.args.frame c.bay_mut-bay.result.now (record { memory = c.md_commit.new.memory; rmp = c.unlock.new.self }) c.requires.tested c.requires.holds
    (record { there = c.bay_mut-bay.ensures.value; stock_is = g.met.P.Parts.bay_written _ _ _ c.requires.has })
    (unlocked_after c.args.number c.bay_mut-bay.result.now.rmp c.md_commit.new.rmp c.unlock.new.self c.md_commit.ensures.locks c.unlock.ensures.released)
