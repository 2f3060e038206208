use Rattle.machine_core.proofs.LaunchedLaws.{committed_there, words_there}
use Rattle.machine_core.proofs.PageCommitLaws.{own_entry, own_small, small_held, small_released}
use Rattle.machine_core.proofs.launch.commit_page.Goals as goal

pub page_commit-requires-clause-held : goal.page_commit-requires-clause-held
page_commit-requires-clause-held g c =
    small_held c.args.number c.args.frame (g.P.Parts.stock c.args.parts.now) c.bay_mut-bay.result.now c.bay_mut-bay.ensures.value c.requires.tested c.requires.holds

pub page_commit-requires-clause-small : goal.page_commit-requires-clause-small
page_commit-requires-clause-small g c = own_small (g.P.Parts.stock c.args.parts.now).bays c.bay_mut-bay.result.now c.args.frame c.bay_mut-bay.ensures.value c.requires.tested.small

pub returns-clause-entry : goal.returns-clause-entry
returns-clause-entry g c = own_entry (g.P.Parts.stock c.args.parts.now).bays c.bay_mut-bay.result.now c.args.frame _ c.bay_mut-bay.ensures.value c.effective-entry.ensures

pub returns-clause-words : goal.returns-clause-words
returns-clause-words g c =
    words_there _ _ c.args.frame c.bay_mut-bay.result.now (record { memory = c.page_commit.new.memory; rmp = c.page_commit.new.rmp }) _
    (record { there = c.bay_mut-bay.ensures.value; stock_is = g.met.P.Parts.bay_written _ _ _ c.requires.has }) c.page_copy_out.ensures

pub returns-clause-pages : goal.returns-clause-pages
returns-clause-pages g c =
    committed_there c.args.command.now _ _ c.args.frame c.bay_mut-bay.result.now (record { memory = c.page_commit.new.memory; rmp = c.page_commit.new.rmp })
    (record { there = c.bay_mut-bay.ensures.value; stock_is = g.met.P.Parts.bay_written _ _ _ c.requires.has }) c.page_commit.ensures.pages

pub returns-clause-locks : goal.returns-clause-locks
returns-clause-locks g c =
    small_released _ _ c.args.number c.args.frame c.bay_mut-bay.result.now (record { memory = c.page_commit.new.memory; rmp = c.page_commit.new.rmp }) c.requires.tested c.requires.holds
    (record { there = c.bay_mut-bay.ensures.value; stock_is = g.met.P.Parts.bay_written _ _ _ c.requires.has }) c.page_commit.ensures.locks
