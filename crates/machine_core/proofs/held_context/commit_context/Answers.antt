use Rattle.std.proofs.Common.{sym, ap, subst, ◌∙◌}
use Rattle.fw_launch.specs.Commits.{HasPassed}
use Rattle.snp_model.specs.FirmwareCommits.{at_guest, context_after}
use Rattle.snp_model.specs.State.{Context}
use Rattle.machine_core.specs.Bays.{contexts_of}
use Rattle.machine_core.proofs.ContextsLaws.{context_released, context_there, contexts_put, holder_there}
use Rattle.machine_core.proofs.held_context.commit_context.Goals as goal

pub context_commit-requires-clause-held : goal.context_commit-requires-clause-held
context_commit-requires-clause-held g c = sym (holder_there (g.P.Parts.stock c.args.parts.now) c.args.guest _ c.context_mut-context.ensures.value) ∙ c.requires.holds.has

pub context_commit-requires-clause-tested : goal.context_commit-requires-clause-tested
context_commit-requires-clause-tested g c =
    let guests = c.requires.tested.0 in
    subst (HasPassed c.args.command.now) (context_there (g.P.Parts.stock c.args.parts.now) guests c.args.guest _ c.context_mut-context.ensures.value) c.requires.tested.1

pub returns-clause-contexts : goal.returns-clause-contexts
returns-clause-contexts g c =
    λ guests.
    let before = contexts_of (g.P.Parts.stock c.args.parts.now).contexts guests in
    contexts_put _ _ c.args.guest c.context_mut-context.result.now _ guests (record { there = c.context_mut-context.ensures.value; stock_is = g.met.P.Parts.context_written _ _ _ c.requires.has })
    ∙ ap (λ (context : Context). at_guest c.args.guest context before) (c.context_commit.ensures.context ∙ ap (context_after c.args.command.now c.args.gpn c.args.words.now) (sym (context_there (g.P.Parts.stock c.args.parts.now) guests c.args.guest _ c.context_mut-context.ensures.value)))

pub returns-clause-locks : goal.returns-clause-locks
returns-clause-locks g c =
    context_released _ _ c.args.number c.args.guest c.context_mut-context.result.now _ (record { there = c.context_mut-context.ensures.value; stock_is = g.met.P.Parts.context_written _ _ _ c.requires.has }) c.context_commit.ensures.lock c.requires.holds
