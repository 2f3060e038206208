use Rattle.std.proofs.Common.{is_some, None, IsSome, sym, ap, ◌∙◌, subst}
use Rattle.run_laws.specs.KeptLocks.{recontexted}
use Rattle.machine_core.specs.Actors.{computed_of}
use Rattle.machine_core.specs.Bays.{GuestContexts, context_holders_of, holders_of, pages_of}
use Rattle.machine_core.specs.Seals.{sealing_by}
use Rattle.machine_core.proofs.CommitLaws.{still_holds}
use Rattle.machine_core.proofs.SwapCommitLaws.{still_passed, swap_commits}
use Rattle.machine_core.proofs.SwapReadyLaws.{may_swap, swap_ready}
use Rattle.machine_core.proofs.swap_commit.commit_swap.Goals as goal

pub commit_pages-requires-clause-may : goal.commit_pages-requires-clause-may
commit_pages-requires-clause-may g c =
    let stock = g.P.Parts.stock c.args.parts.now in
    may_swap c.args.number c.args.command.now stock c.args.sealing.now
    (swap_ready c.args.frames c.args.guests.now c.args.number c.args.command.now c.args.actor.now stock c.args.sealing.now c.ranges.frames.fits c.requires.command c.requires.may c.requires.seals)

pub commit_pages-requires-clause-apart : goal.commit_pages-requires-clause-apart
commit_pages-requires-clause-apart g c =
    (swap_ready c.args.frames c.args.guests.now c.args.number c.args.command.now c.args.actor.now (g.P.Parts.stock c.args.parts.now) c.args.sealing.now c.ranges.frames.fits c.requires.command c.requires.may c.requires.seals).pages.apart

pub commit_swap_context-requires-clause-has : goal.commit_swap_context-requires-clause-has
commit_swap_context-requires-clause-has g c =
    let stock = g.P.Parts.stock c.args.parts.now in
    let owner = (swap_ready c.args.frames c.args.guests.now c.args.number c.args.command.now c.args.actor.now stock c.args.sealing.now c.ranges.frames.fits c.requires.command c.requires.may c.requires.seals).owner in
    subst (λ (contexts : GuestContexts). IsSome (contexts c.args.sealing.now.guest)) (sym c.commit_pages.ensures.contexts) owner.has

pub commit_swap_context-requires-clause-holds : goal.commit_swap_context-requires-clause-holds
commit_swap_context-requires-clause-holds g c =
    let stock = g.P.Parts.stock c.args.parts.now in
    let owner = (swap_ready c.args.frames c.args.guests.now c.args.number c.args.command.now c.args.actor.now stock c.args.sealing.now c.ranges.frames.fits c.requires.command c.requires.may c.requires.seals).owner in
    still_holds c.args.number c.args.sealing.now.guest c.args.actor.now stock (g.P.Parts.stock c.commit_pages.new.parts) c.requires.may.owns_context (c.requires.may.held c.args.sealing.now.guest owner.named) c.commit_pages.ensures.contexts

pub commit_swap_context-requires-clause-tested : goal.commit_swap_context-requires-clause-tested
commit_swap_context-requires-clause-tested g c =
    let stock = g.P.Parts.stock c.args.parts.now in
    let owner = (swap_ready c.args.frames c.args.guests.now c.args.number c.args.command.now c.args.actor.now stock c.args.sealing.now c.ranges.frames.fits c.requires.command c.requires.may c.requires.seals).owner in
    still_passed c.args.command.now c.args.sealing.now.guest stock.contexts (g.P.Parts.stock c.commit_pages.new.parts).contexts c.commit_pages.ensures.contexts owner.tested

pub commit_swap_context-requires-clause-sealing : goal.commit_swap_context-requires-clause-sealing
commit_swap_context-requires-clause-sealing g c = ap is_some c.requires.seals

pub returns-clause-moves : goal.returns-clause-moves
returns-clause-moves g c =
    let old = g.P.Parts.stock c.args.parts.now in
    let mid = g.P.Parts.stock c.commit_pages.new.parts in
    let new = g.P.Parts.stock c.commit_swap_context.new.parts in
    let owner = (swap_ready c.args.frames c.args.guests.now c.args.number c.args.command.now c.args.actor.now old c.args.sealing.now c.ranges.frames.fits c.requires.command c.requires.may c.requires.seals).owner in
    swap_commits c.args.guests.now c.args.actor.now c.args.command.now (sealing_by c.args.sealing.now) c.args.sealing.now.guest (computed_of c.made-made.result.now) old mid new c.commit_pages.new.shown c.requires.seals owner.named c.made-made.ensures
    c.commit_pages.ensures.pages c.commit_pages.ensures.contexts c.commit_swap_context.ensures.bays (c.commit_swap_context.ensures.contexts c.args.guests.now (pages_of new.bays)) c.commit_pages.ensures.shown

pub returns-clause-locks : goal.returns-clause-locks
returns-clause-locks g c = ap holders_of c.commit_swap_context.ensures.bays ∙ c.commit_pages.ensures.locks

pub returns-clause-context_locks : goal.returns-clause-context_locks
returns-clause-context_locks g c =
    c.commit_swap_context.ensures.locks ∙ ap (λ (contexts : GuestContexts). recontexted c.args.number None (context_holders_of contexts)) c.commit_pages.ensures.contexts
