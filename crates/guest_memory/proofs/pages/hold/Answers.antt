use Rattle.guest_memory.proofs.PagesLaws.{memory_set}
use Rattle.guest_memory.proofs.pages.hold.Goals as goal

pub returns-clause-ok : goal.returns-clause-ok
returns-clause-ok c = memory_set c.args.pages.now.entries c.args.gpn _ c.insert.new.self.entries c.in_ok-insert.ensures.updates.0
