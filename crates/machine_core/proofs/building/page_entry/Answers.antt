use Rattle.machine_core.proofs.BuildingLaws.{page_facts_is}
use Rattle.machine_core.proofs.building.page_entry.Goals as goal

pub returns-clause-facts : goal.returns-clause-facts
returns-clause-facts c = page_facts_is c.args.guests.now c.args.page.now c.asid_of.result c.asid_of.ensures c.requires.perms
