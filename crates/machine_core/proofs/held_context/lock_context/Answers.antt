use Rattle.std.proofs.Common.{refl, sym, ap, ◌∙◌}
use Rattle.std.proofs.lemmas.Bool.{true≢false}
use Rattle.snp_model.specs.HeldContexts.{HeldContext}
use Rattle.machine_core.proofs.ContextsLaws.{context_locked, contexts_same, holder_there, shown_passed, shown_refused, shown_undeclared}
use Rattle.machine_core.proofs.held_context.lock_context.Goals as goal

pub context_lock-requires : goal.context_lock-requires
context_lock-requires g c = record { not_held = λ held. c.requires.none c.args.guest (holder_there (g.P.Parts.stock c.args.parts.now) c.args.guest _ c.context_mut-context.ensures.value ∙ held) }

pub returns-then-not-is_declared-clause-shown : goal.returns-then-not-is_declared-clause-shown
returns-then-not-is_declared-clause-shown g c =
    c.context_refused.ensures ∙ shown_undeclared c.args.guests.now c.args.command.now c.args.guest (g.P.Parts.stock c.args.parts.now) (λ none. true≢false (sym (c.is_declared.ensures.1 none) ∙ c.if-not-is_declared.true))

pub returns-in-Ok-clause-shown : goal.returns-in-Ok-clause-shown
returns-in-Ok-clause-shown g c =
    c.locked_context.ensures
    ∙ shown_passed c.args.guests.now c.args.command.now c.args.guest (g.P.Parts.stock c.args.parts.now) _ _ c.context_mut-context.ensures.value (c.is_declared.ensures.0 c.if-not-is_declared.false) c.in-Ok.is c.context_lock.ensures.answer

pub returns-in-Err-clause-shown : goal.returns-in-Err-clause-shown
returns-in-Err-clause-shown g c =
    c.context_refused-in-Err.ensures
    ∙ shown_refused c.args.guests.now c.args.command.now c.args.guest (g.P.Parts.stock c.args.parts.now) _ _ c.in-Err.refusal c.context_mut-context.ensures.value (c.is_declared.ensures.0 c.if-not-is_declared.false) c.in-Err.is c.context_lock.ensures.answer

pub returns-in-Ok-clause-contexts : goal.returns-in-Ok-clause-contexts
returns-in-Ok-clause-contexts g c =
    contexts_same _ _ c.args.guest c.context_mut-context.result.now _ c.args.guests.now (record { there = c.context_mut-context.ensures.value; stock_is = g.met.P.Parts.context_written _ _ _ (c.requires.has (c.is_declared.ensures.0 c.if-not-is_declared.false)) })
    (ap (λ (h : HeldContext). h.context) (c.context_lock.ensures.locked (rw c.in-Ok.is refl)))

pub returns-in-Ok-clause-locks : goal.returns-in-Ok-clause-locks
returns-in-Ok-clause-locks g c = rw c.locked_context.ensures (
    context_locked _ _ c.args.number c.args.guest c.context_mut-context.result.now _ (record { there = c.context_mut-context.ensures.value; stock_is = g.met.P.Parts.context_written _ _ _ (c.requires.has (c.is_declared.ensures.0 c.if-not-is_declared.false)) })
    (ap (λ (h : HeldContext). h.holder) (c.context_lock.ensures.locked (rw c.in-Ok.is refl))) c.requires.none)
