use Rattle.std.proofs.Common.{sym, ap, ◌∙◌}
use Rattle.snp_model.specs.Moves.{Move}
use Rattle.snp_model.specs.Step.{part_after}
use Rattle.machine_core.specs.Bays.{view_on}
use Rattle.machine_core.proofs.event.advance.Goals as goal

pub returns-clause-part : goal.returns-clause-part
returns-clause-part g c =
    let after = view_on (g.P.Parts.stock c.next_event.new.parts) c.args.guests.now in
    c.take_down.ensures.part after ∙ ap (λ (m : Move). part_after c.args.actor.now m m.outcome) (sym c.next_event.ensures.moves)
