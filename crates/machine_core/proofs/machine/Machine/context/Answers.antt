use Rattle.std.proofs.Common.{sym, ap, ◌∙◌}
use Rattle.machine_core.specs.Bays.{own_stock}
use Rattle.machine_core.specs.Machine.{MachineImage, state_of}
use Rattle.snp_model.specs.Locks.{context_holder_of}
use Rattle.machine_core.proofs.ContextsLaws.{context_there, holder_there}
use Rattle.machine_core.proofs.MachineLaws.{contexts_hold}
use Rattle.machine_core.proofs.machine.Machine.context.Goals as goal

pub returns-clause-context : goal.returns-clause-context
returns-clause-context c =
    let inside = c.self.inside in
    sym (context_there (own_stock inside.parts.bays.items inside.parts.contexts.items) inside.guests c.args.guest _ c.context.ensures)
    ∙ ap (λ (m : MachineImage). (state_of m).contents.contexts c.args.guest) c.self.view_is

pub returns-clause-holder : goal.returns-clause-holder
returns-clause-holder c =
    let inside = c.self.inside in
    sym (holder_there (own_stock inside.parts.bays.items inside.parts.contexts.items) c.args.guest _ c.context.ensures)
    ∙ (λ i. contexts_hold inside.parts.bays.items inside.parts.contexts.items inside.guests inside.actors.items c.self.invariant i c.args.guest)
    ∙ ap (λ (m : MachineImage). context_holder_of (state_of m) c.args.guest) c.self.view_is
