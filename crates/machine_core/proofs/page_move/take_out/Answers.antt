use Rattle.snp_model.specs.FirmwareCommits.{taken}
use Rattle.snp_model.specs.State.{Page}
use Rattle.machine_core.proofs.PageCommitLaws.{frame_changed, holders_same, own_entry, own_locked, own_small, own_words}
use Rattle.machine_core.proofs.page_move.take_out.Goals as goal

pub take-requires-clause-locked : goal.take-requires-clause-locked
take-requires-clause-locked g c = own_locked (g.P.Parts.stock c.args.parts.now).bays c.bay_mut-bay.result.now c.args.frame c.bay_mut-bay.ensures.value c.requires.locked

pub take-requires-clause-small : goal.take-requires-clause-small
take-requires-clause-small g c = own_small (g.P.Parts.stock c.args.parts.now).bays c.bay_mut-bay.result.now c.args.frame c.bay_mut-bay.ensures.value c.requires.small

pub returns-clause-entry : goal.returns-clause-entry
returns-clause-entry g c = own_entry (g.P.Parts.stock c.args.parts.now).bays c.bay_mut-bay.result.now c.args.frame _ c.bay_mut-bay.ensures.value c.take.ensures.entry

pub returns-clause-words : goal.returns-clause-words
returns-clause-words g c = own_words (g.P.Parts.stock c.args.parts.now).bays c.bay_mut-bay.result.now c.args.frame _ c.bay_mut-bay.ensures.value c.take.ensures.words

pub returns-clause-pages : goal.returns-clause-pages
returns-clause-pages g c =
    frame_changed _ _ c.args.frame c.bay_mut-bay.result.now (record { memory = c.take.new.memory; rmp = c.take.new.rmp }) (λ (page : Page). taken page)
    (record { there = c.bay_mut-bay.ensures.value; stock_is = g.met.P.Parts.bay_written _ _ _ c.requires.has }) c.take.ensures.pages

pub returns-clause-locks : goal.returns-clause-locks
returns-clause-locks g c =
    holders_same _ _ _ c.bay_mut-bay.result.now (record { memory = c.take.new.memory; rmp = c.take.new.rmp })
    (record { there = c.bay_mut-bay.ensures.value; stock_is = g.met.P.Parts.bay_written _ _ _ c.requires.has }) c.take.ensures.locks
