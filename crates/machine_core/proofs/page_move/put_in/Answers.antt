use Rattle.snp_model.specs.FirmwareCommits.{placed}
use Rattle.machine_core.proofs.PageCommitLaws.{frame_put, holders_same, own_locked, own_small}
use Rattle.machine_core.proofs.page_move.put_in.Goals as goal

pub place-requires-clause-locked : goal.place-requires-clause-locked
place-requires-clause-locked g c = own_locked (g.P.Parts.stock c.args.parts.now).bays c.bay_mut-bay.result.now c.args.frame c.bay_mut-bay.ensures.value c.requires.locked

pub place-requires-clause-small : goal.place-requires-clause-small
place-requires-clause-small g c = own_small (g.P.Parts.stock c.args.parts.now).bays c.bay_mut-bay.result.now c.args.frame c.bay_mut-bay.ensures.value c.requires.small

pub returns-clause-pages : goal.returns-clause-pages
returns-clause-pages g c =
    frame_put _ _ c.args.frame c.bay_mut-bay.result.now (record { memory = c.place.new.memory; rmp = c.place.new.rmp }) (placed c.args.moved.now c.args.words.now)
    (record { there = c.bay_mut-bay.ensures.value; stock_is = g.met.P.Parts.bay_written _ _ _ c.requires.has }) c.place.ensures.pages

pub returns-clause-locks : goal.returns-clause-locks
returns-clause-locks g c =
    holders_same _ _ _ c.bay_mut-bay.result.now (record { memory = c.place.new.memory; rmp = c.place.new.rmp })
    (record { there = c.bay_mut-bay.ensures.value; stock_is = g.met.P.Parts.bay_written _ _ _ c.requires.has }) c.place.ensures.locks
