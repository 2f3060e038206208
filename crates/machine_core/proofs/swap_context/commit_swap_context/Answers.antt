use Rattle.std.proofs.Common.{sym, ap, subst, ◌∙◌}
use Rattle.fw_launch.specs.Commits.{HasPassed}
use Rattle.snp_model.specs.HeldContexts.{HeldContext}
use Rattle.machine_core.proofs.ContextsLaws.{context_released, context_there, contexts_put, holder_there}
use Rattle.machine_core.proofs.SwapContextLaws.{contexts_sealed}
use Rattle.machine_core.proofs.swap_context.commit_swap_context.Goals as goal

pub context_commit-requires-clause-held : goal.context_commit-requires-clause-held
context_commit-requires-clause-held g c = sym (holder_there (g.P.Parts.stock c.args.parts.now) c.args.guest _ c.context_mut-context.ensures.value) ∙ c.requires.holds.has

pub context_commit-requires-clause-tested : goal.context_commit-requires-clause-tested
context_commit-requires-clause-tested g c =
    let guests = c.requires.tested.0 in
    subst (HasPassed c.args.command.now) (context_there (g.P.Parts.stock c.args.parts.now) guests c.args.guest _ c.context_mut-context.ensures.value) c.requires.tested.1

pub returns-clause-contexts : goal.returns-clause-contexts
returns-clause-contexts g c =
    λ guests pages.
    contexts_put _ _ c.args.guest c.context_mut-context.result.now _ guests (record { there = c.context_mut-context.ensures.value; stock_is = g.met.P.Parts.context_written _ _ _ c.requires.has })
    ∙ contexts_sealed guests c.args.guest c.args.command.now (g.P.Parts.stock c.args.parts.now) c.context_mut-context.result.now c.context_commit.new.context c.change_root.new.context c.args.entry.now c.args.words.now pages c.requires.sealing
    c.context_mut-context.ensures.value c.context_commit.ensures.context c.change_root.ensures

pub returns-clause-locks : goal.returns-clause-locks
returns-clause-locks g c =
    context_released _ _ c.args.number c.args.guest c.context_mut-context.result.now _ (record { there = c.context_mut-context.ensures.value; stock_is = g.met.P.Parts.context_written _ _ _ c.requires.has })
    (ap (λ (h : HeldContext). h.holder) c.change_root.ensures ∙ c.context_commit.ensures.lock) c.requires.holds
