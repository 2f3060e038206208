use Rattle.std.proofs.Common.{ap}
use Rattle.snp_model.specs.HeldContexts.{HeldContext}
use Rattle.machine_core.proofs.ContextsLaws.{context_released, contexts_same}
use Rattle.machine_core.proofs.held_context.release_context.Goals as goal

pub returns-clause-contexts : goal.returns-clause-contexts
returns-clause-contexts g c =
    λ guests.
    contexts_same _ _ c.args.guest c.context_mut-context.result.now _ guests (record { there = c.context_mut-context.ensures.value; stock_is = g.met.P.Parts.context_written _ _ _ c.requires.has }) (ap (λ (h : HeldContext). h.context) c.unlock.ensures)

pub returns-clause-locks : goal.returns-clause-locks
returns-clause-locks g c =
    context_released _ _ c.args.number c.args.guest c.context_mut-context.result.now _ (record { there = c.context_mut-context.ensures.value; stock_is = g.met.P.Parts.context_written _ _ _ c.requires.has }) (ap (λ (h : HeldContext). h.holder) c.unlock.ensures) c.requires.holds
