use Rattle.std.proofs.Common.{refl}
use Rattle.machine_core.proofs.PageLaws.{adjusted, own_held, page_released}
use Rattle.machine_core.proofs.adjust.commit_page.Goals as goal

pub adjust_commit-requires-clause-held : goal.adjust_commit-requires-clause-held
adjust_commit-requires-clause-held g c = own_held c.args.number c.args.at.now.frame (g.P.Parts.stock c.args.parts.now) c.bay_mut-bay.result.now c.bay_mut-bay.ensures.value c.requires.holds

pub returns-clause-pages : goal.returns-clause-pages
returns-clause-pages g c =
    adjusted _ _ c.args.at.now.frame c.bay_mut-bay.result.now (record { memory = c.bay_mut-bay.result.now.memory; rmp = c.adjust_commit.new.rmp }) c.args.vmpl c.args.ask.now.target c.args.ask.now.mask c.args.ask.now.vmsa
    (record { there = c.bay_mut-bay.ensures.value; stock_is = g.met.P.Parts.bay_written _ _ _ c.requires.has }) refl c.adjust_commit.ensures.facts

pub returns-clause-locks : goal.returns-clause-locks
returns-clause-locks g c =
    page_released _ _ c.args.number c.args.at.now.frame c.bay_mut-bay.result.now (record { memory = c.bay_mut-bay.result.now.memory; rmp = c.adjust_commit.new.rmp }) c.requires.holds
    (record { there = c.bay_mut-bay.ensures.value; stock_is = g.met.P.Parts.bay_written _ _ _ c.requires.has }) c.adjust_commit.ensures.locks
