use Rattle.std.proofs.Common.{refl}
use Rattle.machine_core.proofs.PageLaws.{carry_shown, own_held, page_released, validated}
use Rattle.machine_core.proofs.validate.commit_page.Goals as goal

pub validate_commit-carry-requires-clause-held : goal.validate_commit-carry-requires-clause-held
validate_commit-carry-requires-clause-held g c = own_held c.args.number c.args.at.now.frame (g.P.Parts.stock c.args.parts.now) c.bay_mut-bay.result.now c.bay_mut-bay.ensures.value c.requires.holds

pub returns-clause-shown : goal.returns-clause-shown
returns-clause-shown g c =
    carry_shown (g.P.Parts.stock c.args.parts.now) c.args.at.now.frame c.args.at.now.gpn c.args.ask.now.size c.args.ask.now.validate c.validate_commit-carry.result c.bay_mut-bay.result.now c.last.result c.bay_mut-bay.ensures.value
    c.validate_commit-carry.ensures.carry c.last.ensures

pub returns-clause-pages : goal.returns-clause-pages
returns-clause-pages g c =
    validated _ _ c.args.at.now.frame c.bay_mut-bay.result.now (record { memory = c.bay_mut-bay.result.now.memory; rmp = c.validate_commit-carry.new.rmp }) c.args.ask.now.validate
    (record { there = c.bay_mut-bay.ensures.value; stock_is = g.met.P.Parts.bay_written _ _ _ c.requires.has }) refl c.validate_commit-carry.ensures.facts

pub returns-clause-locks : goal.returns-clause-locks
returns-clause-locks g c =
    page_released _ _ c.args.number c.args.at.now.frame c.bay_mut-bay.result.now (record { memory = c.bay_mut-bay.result.now.memory; rmp = c.validate_commit-carry.new.rmp }) c.requires.holds
    (record { there = c.bay_mut-bay.ensures.value; stock_is = g.met.P.Parts.bay_written _ _ _ c.requires.has }) c.validate_commit-carry.ensures.locks
