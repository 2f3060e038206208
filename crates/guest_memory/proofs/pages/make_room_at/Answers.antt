use Rattle.std.proofs.Common.{◌∙◌, sym}
use Rattle.guest_memory.proofs.PagesLaws.{memory_room, no_page}
use Rattle.guest_memory.proofs.pages.make_room_at.Goals as goal

pub returns-in_ok-insert-clause-same : goal.returns-in_ok-insert-clause-same
returns-in_ok-insert-clause-same c =
    memory_room c.args.pages.now.entries c.args.gpn c.insert.new.self.entries c.in_ok-insert.ensures.updates.0 (no_page _ (sym c.contains_key.ensures ∙ c.if-not-contains_key.true))
