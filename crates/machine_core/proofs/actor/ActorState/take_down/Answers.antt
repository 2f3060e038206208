use Rattle.std.proofs.Common.{Option, ap, sym, ◌∙◌}
use Rattle.snp_model.specs.declared.event.Outcome.{Outcome}
use Rattle.snp_model.specs.Step.{part_after}
use Rattle.machine_core.specs.Moves.{context_left, locks_left, move_by, standing_by, standing_with, with_made}
use Rattle.machine_core.proofs.ActorLaws.{made_context, made_locks}
use Rattle.machine_core.proofs.actor.ActorState.take_down.Goals as goal

pub returns-in-Some-clause-part : goal.returns-in-Some-clause-part
returns-in-Some-clause-part c = λ after.
    let move = move_by c.args.shown.now after (standing_with c.args.page.now c.args.shown.now c.args.self.now.standing) in
    c.end.ensures.part move ∙ ap (part_after c.args.self.now move) (sym c.in-Some.is)

pub returns-in-Some-clause-locks : goal.returns-in-Some-clause-locks
returns-in-Some-clause-locks c =
    c.end.ensures.locks ∙ ap (λ (o : Option Outcome). locks_left o (standing_by c.args.shown.now c.args.self.now.standing).locks) (sym c.in-Some.is)

pub returns-in-Some-clause-context : goal.returns-in-Some-clause-context
returns-in-Some-clause-context c =
    c.end.ensures.context ∙ ap (λ (o : Option Outcome). context_left o (standing_by c.args.shown.now c.args.self.now.standing).context_lock) (sym c.in-Some.is)

pub returns-in-None-clause-locks : goal.returns-in-None-clause-locks
returns-in-None-clause-locks c =
    (λ i. (c.take.ensures i).standing.locks)
    ∙ (λ i. (with_made c.args.page.now c.args.shown.now.lock (c.keep.ensures i).standing).locks)
    ∙ made_locks c.args.page.now c.args.shown.now.lock c.args.self.now.standing
    ∙ ap (λ (o : Option Outcome). locks_left o (standing_by c.args.shown.now c.args.self.now.standing).locks) (sym c.in-None.is)

pub returns-in-None-clause-context : goal.returns-in-None-clause-context
returns-in-None-clause-context c =
    (λ i. (c.take.ensures i).standing.context_lock)
    ∙ (λ i. (with_made c.args.page.now c.args.shown.now.lock (c.keep.ensures i).standing).context_lock)
    ∙ made_context c.args.page.now c.args.shown.now.lock c.args.self.now.standing
    ∙ ap (λ (o : Option Outcome). context_left o (standing_by c.args.shown.now c.args.self.now.standing).context_lock) (sym c.in-None.is)
