use Rattle.std.proofs.Common.{None, IsSome, refl, sym, ap, ◌∙◌, subst}
use Rattle.snp_model.specs.declared.command.Command.TheVariants as commands
use Rattle.snp_model.specs.Firmware.{guest_of}
use Rattle.snp_model.specs.FirmwareStep.{commit_move}
use Rattle.run_laws.specs.KeptLocks.{recontexted}
use Rattle.machine_core.specs.Bays.{GuestContexts, contents_of, context_holders_of, contexts_of, pages_of}
use Rattle.machine_core.proofs.CommitLaws.{guestless_recontexted, metadata_has, of_kind, pageless_relocked, ready, reclaim_has, source_has, still_holds, target_has, target_shown}
use Rattle.machine_core.proofs.CommittedLaws.{metadata_commits, move_commits, reclaim_commits}
use Rattle.machine_core.proofs.GuestCommandLaws.{change_commits, change_names, change_pageless, launch_commits, launch_has, launch_names, may_change, may_launch}
use Rattle.machine_core.proofs.PhaseLaws.{guest_has}
use Rattle.machine_core.proofs.ReadyLaws.{metadata_ready, move_ready, reclaim_ready}
use Rattle.machine_core.proofs.command_event.commit.Goals as goal

-- md_init

pub commit_metadata-requires-clause-has : goal.commit_metadata-requires-clause-has
commit_metadata-requires-clause-has g c =
    let stock = g.P.Parts.stock c.args.parts.now in
    let may = of_kind c.args.frames c.args.guests.now c.args.number c.args.command.now (commands.MdInit c.in-MdInit.frame) c.args.actor.now stock c.in-MdInit.is c.requires.may in
    metadata_has c.args.frames c.args.guests.now c.args.number c.in-MdInit.frame c.args.actor.now stock may

pub commit_metadata-requires-clause-tested : goal.commit_metadata-requires-clause-tested
commit_metadata-requires-clause-tested g c =
    let stock = g.P.Parts.stock c.args.parts.now in
    let may = of_kind c.args.frames c.args.guests.now c.args.number c.args.command.now (commands.MdInit c.in-MdInit.frame) c.args.actor.now stock c.in-MdInit.is c.requires.may in
    (metadata_ready c.args.frames c.args.guests.now c.args.number c.in-MdInit.frame c.args.actor.now stock c.ranges.frames.fits may.owns (ready c.args.frames c.args.guests.now c.args.number (commands.MdInit c.in-MdInit.frame) c.args.actor.now stock may)).tested

pub commit_metadata-requires-clause-holds : goal.commit_metadata-requires-clause-holds
commit_metadata-requires-clause-holds g c =
    let stock = g.P.Parts.stock c.args.parts.now in
    let may = of_kind c.args.frames c.args.guests.now c.args.number c.args.command.now (commands.MdInit c.in-MdInit.frame) c.args.actor.now stock c.in-MdInit.is c.requires.may in
    (metadata_ready c.args.frames c.args.guests.now c.args.number c.in-MdInit.frame c.args.actor.now stock c.ranges.frames.fits may.owns (ready c.args.frames c.args.guests.now c.args.number (commands.MdInit c.in-MdInit.frame) c.args.actor.now stock may)).holds

pub returns-in-MdInit-clause-moves : goal.returns-in-MdInit-clause-moves
returns-in-MdInit-clause-moves g c =
    let stock = g.P.Parts.stock c.args.parts.now in
    let may = of_kind c.args.frames c.args.guests.now c.args.number c.args.command.now (commands.MdInit c.in-MdInit.frame) c.args.actor.now stock c.in-MdInit.is c.requires.may in
    ap (commit_move (contents_of stock c.args.guests.now) c.args.actor.now) c.in-MdInit.is
    ∙ metadata_commits c.args.guests.now c.args.actor.now c.in-MdInit.frame stock (g.P.Parts.stock c.commit_metadata.new.parts) c.commit_metadata.new.shown c.commit_metadata.ensures.pages
    (ap (λ (contexts : GuestContexts). contexts_of contexts c.args.guests.now) c.commit_metadata.ensures.contexts) c.commit_metadata.ensures.shown

pub returns-in-MdInit-clause-context_locks : goal.returns-in-MdInit-clause-context_locks
unfolding guest_of
returns-in-MdInit-clause-context_locks g c =
    let stock = g.P.Parts.stock c.args.parts.now in
    let may = of_kind c.args.frames c.args.guests.now c.args.number c.args.command.now (commands.MdInit c.in-MdInit.frame) c.args.actor.now stock c.in-MdInit.is c.requires.may in
    guestless_recontexted c.args.frames c.args.guests.now c.args.number (commands.MdInit c.in-MdInit.frame) c.args.actor.now stock (g.P.Parts.stock c.commit_metadata.new.parts) may refl c.commit_metadata.ensures.contexts

-- page_reclaim

pub commit_reclaim-requires-clause-has : goal.commit_reclaim-requires-clause-has
commit_reclaim-requires-clause-has g c =
    let stock = g.P.Parts.stock c.args.parts.now in
    let may = of_kind c.args.frames c.args.guests.now c.args.number c.args.command.now (commands.Reclaim c.in-Reclaim.frame) c.args.actor.now stock c.in-Reclaim.is c.requires.may in
    reclaim_has c.args.frames c.args.guests.now c.args.number c.in-Reclaim.frame c.args.actor.now stock may

pub commit_reclaim-requires-clause-below : goal.commit_reclaim-requires-clause-below
commit_reclaim-requires-clause-below g c =
    let stock = g.P.Parts.stock c.args.parts.now in
    let may = of_kind c.args.frames c.args.guests.now c.args.number c.args.command.now (commands.Reclaim c.in-Reclaim.frame) c.args.actor.now stock c.in-Reclaim.is c.requires.may in
    (reclaim_ready c.args.frames c.args.guests.now c.args.number c.in-Reclaim.frame c.args.actor.now stock c.ranges.frames.fits may.owns (ready c.args.frames c.args.guests.now c.args.number (commands.Reclaim c.in-Reclaim.frame) c.args.actor.now stock may)).below

pub commit_reclaim-requires-clause-holds : goal.commit_reclaim-requires-clause-holds
commit_reclaim-requires-clause-holds g c =
    let stock = g.P.Parts.stock c.args.parts.now in
    let may = of_kind c.args.frames c.args.guests.now c.args.number c.args.command.now (commands.Reclaim c.in-Reclaim.frame) c.args.actor.now stock c.in-Reclaim.is c.requires.may in
    (reclaim_ready c.args.frames c.args.guests.now c.args.number c.in-Reclaim.frame c.args.actor.now stock c.ranges.frames.fits may.owns (ready c.args.frames c.args.guests.now c.args.number (commands.Reclaim c.in-Reclaim.frame) c.args.actor.now stock may)).holds

pub returns-in-Reclaim-clause-moves : goal.returns-in-Reclaim-clause-moves
returns-in-Reclaim-clause-moves g c =
    let stock = g.P.Parts.stock c.args.parts.now in
    let may = of_kind c.args.frames c.args.guests.now c.args.number c.args.command.now (commands.Reclaim c.in-Reclaim.frame) c.args.actor.now stock c.in-Reclaim.is c.requires.may in
    ap (commit_move (contents_of stock c.args.guests.now) c.args.actor.now) c.in-Reclaim.is
    ∙ reclaim_commits c.args.guests.now c.args.actor.now c.in-Reclaim.frame stock (g.P.Parts.stock c.commit_reclaim.new.parts) c.commit_reclaim.new.shown c.commit_reclaim.ensures.pages
    (reclaim_ready c.args.frames c.args.guests.now c.args.number c.in-Reclaim.frame c.args.actor.now stock c.ranges.frames.fits may.owns (ready c.args.frames c.args.guests.now c.args.number (commands.Reclaim c.in-Reclaim.frame) c.args.actor.now stock may)).lock_is
    (ap (λ (contexts : GuestContexts). contexts_of contexts c.args.guests.now) c.commit_reclaim.ensures.contexts) c.commit_reclaim.ensures.shown

pub returns-in-Reclaim-clause-context_locks : goal.returns-in-Reclaim-clause-context_locks
unfolding guest_of
returns-in-Reclaim-clause-context_locks g c =
    let stock = g.P.Parts.stock c.args.parts.now in
    let may = of_kind c.args.frames c.args.guests.now c.args.number c.args.command.now (commands.Reclaim c.in-Reclaim.frame) c.args.actor.now stock c.in-Reclaim.is c.requires.may in
    guestless_recontexted c.args.frames c.args.guests.now c.args.number (commands.Reclaim c.in-Reclaim.frame) c.args.actor.now stock (g.P.Parts.stock c.commit_reclaim.new.parts) may refl c.commit_reclaim.ensures.contexts

-- page_move

pub commit_move-requires-clause-source_has : goal.commit_move-requires-clause-source_has
commit_move-requires-clause-source_has g c =
    let stock = g.P.Parts.stock c.args.parts.now in
    let may = of_kind c.args.frames c.args.guests.now c.args.number c.args.command.now (commands.PageMove c.in-PageMove.guest c.in-PageMove.source c.in-PageMove.target) c.args.actor.now stock c.in-PageMove.is c.requires.may in
    source_has c.args.frames c.args.guests.now c.args.number c.in-PageMove.guest c.in-PageMove.source c.in-PageMove.target c.args.actor.now stock may

pub commit_move-requires-clause-target_has : goal.commit_move-requires-clause-target_has
commit_move-requires-clause-target_has g c =
    let stock = g.P.Parts.stock c.args.parts.now in
    let may = of_kind c.args.frames c.args.guests.now c.args.number c.args.command.now (commands.PageMove c.in-PageMove.guest c.in-PageMove.source c.in-PageMove.target) c.args.actor.now stock c.in-PageMove.is c.requires.may in
    target_has c.args.frames c.args.guests.now c.args.number c.in-PageMove.guest c.in-PageMove.source c.in-PageMove.target c.args.actor.now stock may

pub commit_move-requires-clause-source_tested : goal.commit_move-requires-clause-source_tested
commit_move-requires-clause-source_tested g c =
    let stock = g.P.Parts.stock c.args.parts.now in
    let may = of_kind c.args.frames c.args.guests.now c.args.number c.args.command.now (commands.PageMove c.in-PageMove.guest c.in-PageMove.source c.in-PageMove.target) c.args.actor.now stock c.in-PageMove.is c.requires.may in
    (move_ready c.args.frames c.args.guests.now c.args.number c.in-PageMove.guest c.in-PageMove.source c.in-PageMove.target c.args.actor.now stock c.ranges.frames.fits may.owns (ready c.args.frames c.args.guests.now c.args.number (commands.PageMove c.in-PageMove.guest c.in-PageMove.source c.in-PageMove.target) c.args.actor.now stock may)).source_tested

pub commit_move-requires-clause-target_tested : goal.commit_move-requires-clause-target_tested
commit_move-requires-clause-target_tested g c =
    let stock = g.P.Parts.stock c.args.parts.now in
    let may = of_kind c.args.frames c.args.guests.now c.args.number c.args.command.now (commands.PageMove c.in-PageMove.guest c.in-PageMove.source c.in-PageMove.target) c.args.actor.now stock c.in-PageMove.is c.requires.may in
    (move_ready c.args.frames c.args.guests.now c.args.number c.in-PageMove.guest c.in-PageMove.source c.in-PageMove.target c.args.actor.now stock c.ranges.frames.fits may.owns (ready c.args.frames c.args.guests.now c.args.number (commands.PageMove c.in-PageMove.guest c.in-PageMove.source c.in-PageMove.target) c.args.actor.now stock may)).target_tested

pub commit_move-requires-clause-holds : goal.commit_move-requires-clause-holds
commit_move-requires-clause-holds g c =
    let stock = g.P.Parts.stock c.args.parts.now in
    let may = of_kind c.args.frames c.args.guests.now c.args.number c.args.command.now (commands.PageMove c.in-PageMove.guest c.in-PageMove.source c.in-PageMove.target) c.args.actor.now stock c.in-PageMove.is c.requires.may in
    (move_ready c.args.frames c.args.guests.now c.args.number c.in-PageMove.guest c.in-PageMove.source c.in-PageMove.target c.args.actor.now stock c.ranges.frames.fits may.owns (ready c.args.frames c.args.guests.now c.args.number (commands.PageMove c.in-PageMove.guest c.in-PageMove.source c.in-PageMove.target) c.args.actor.now stock may)).holds

pub release_context-requires-clause-has : goal.release_context-requires-clause-has
unfolding guest_of
release_context-requires-clause-has g c =
    let stock = g.P.Parts.stock c.args.parts.now in
    let may = of_kind c.args.frames c.args.guests.now c.args.number c.args.command.now (commands.PageMove c.in-PageMove.guest c.in-PageMove.source c.in-PageMove.target) c.args.actor.now stock c.in-PageMove.is c.requires.may in
    subst (λ (contexts : GuestContexts). IsSome (contexts c.in-PageMove.guest)) (sym c.commit_move.ensures.contexts) (guest_has c.args.actor.now.standing (commands.PageMove c.in-PageMove.guest c.in-PageMove.source c.in-PageMove.target) c.in-PageMove.guest stock may.has refl)

pub release_context-requires-clause-holds : goal.release_context-requires-clause-holds
unfolding guest_of
release_context-requires-clause-holds g c =
    let stock = g.P.Parts.stock c.args.parts.now in
    let may = of_kind c.args.frames c.args.guests.now c.args.number c.args.command.now (commands.PageMove c.in-PageMove.guest c.in-PageMove.source c.in-PageMove.target) c.args.actor.now stock c.in-PageMove.is c.requires.may in
    still_holds c.args.number c.in-PageMove.guest c.args.actor.now stock (g.P.Parts.stock c.commit_move.new.parts) may.owns_context (may.held c.in-PageMove.guest refl) c.commit_move.ensures.contexts

pub returns-in-PageMove-clause-moves : goal.returns-in-PageMove-clause-moves
returns-in-PageMove-clause-moves g c =
    let stock = g.P.Parts.stock c.args.parts.now in
    let may = of_kind c.args.frames c.args.guests.now c.args.number c.args.command.now (commands.PageMove c.in-PageMove.guest c.in-PageMove.source c.in-PageMove.target) c.args.actor.now stock c.in-PageMove.is c.requires.may in
    ap (commit_move (contents_of stock c.args.guests.now) c.args.actor.now) c.in-PageMove.is
    ∙ move_commits c.args.guests.now c.args.actor.now c.in-PageMove.guest c.in-PageMove.source c.in-PageMove.target stock (g.P.Parts.stock c.release_context.new.parts) c.commit_move.new.shown (ap pages_of c.release_context.ensures.bays ∙ c.commit_move.ensures.pages)
    (c.release_context.ensures.contexts c.args.guests.now ∙ ap (λ (contexts : GuestContexts). contexts_of contexts c.args.guests.now) c.commit_move.ensures.contexts)
    (c.commit_move.ensures.shown ∙ target_shown c.in-PageMove.target _ _ (sym c.release_context.ensures.bays))

pub returns-in-PageMove-clause-context_locks : goal.returns-in-PageMove-clause-context_locks
returns-in-PageMove-clause-context_locks g c =
    let stock = g.P.Parts.stock c.args.parts.now in
    let may = of_kind c.args.frames c.args.guests.now c.args.number c.args.command.now (commands.PageMove c.in-PageMove.guest c.in-PageMove.source c.in-PageMove.target) c.args.actor.now stock c.in-PageMove.is c.requires.may in
    c.release_context.ensures.locks ∙ ap (λ (contexts : GuestContexts). recontexted c.args.number None (context_holders_of contexts)) c.commit_move.ensures.contexts

-- activate, launch_start and launch_finish

pub commit_guest-requires-clause-has : goal.commit_guest-requires-clause-has
commit_guest-requires-clause-has g c =
    let stock = g.P.Parts.stock c.args.parts.now in
    guest_has c.args.actor.now.standing c.args.command.now c.in-Activate.guest stock c.requires.may.has (change_names c.args.command.now c.in-Activate.guest c.in-Activate.is)

pub commit_guest-requires-clause-tested : goal.commit_guest-requires-clause-tested
commit_guest-requires-clause-tested g c =
    let stock = g.P.Parts.stock c.args.parts.now in
    (may_change c.args.frames c.args.guests.now c.args.number c.in-Activate.guest c.args.command.now c.args.actor.now stock c.in-Activate.is c.requires.may).tested

pub commit_guest-requires-clause-holds : goal.commit_guest-requires-clause-holds
commit_guest-requires-clause-holds g c =
    let stock = g.P.Parts.stock c.args.parts.now in
    (may_change c.args.frames c.args.guests.now c.args.number c.in-Activate.guest c.args.command.now c.args.actor.now stock c.in-Activate.is c.requires.may).holds

pub returns-in-Activate-clause-moves : goal.returns-in-Activate-clause-moves
returns-in-Activate-clause-moves g c =
    let stock = g.P.Parts.stock c.args.parts.now in
    change_commits c.args.guests.now c.args.actor.now c.args.command.now c.in-Activate.guest c.args.words.now stock (g.P.Parts.stock c.commit_guest.new.parts) c.commit_guest.new.shown c.in-Activate.is c.commit_guest.ensures.bays
    (c.commit_guest.ensures.contexts c.args.guests.now) c.commit_guest.ensures.shown

pub returns-in-Activate-clause-locks : goal.returns-in-Activate-clause-locks
returns-in-Activate-clause-locks g c =
    let stock = g.P.Parts.stock c.args.parts.now in
    pageless_relocked c.args.frames c.args.guests.now c.args.number c.args.command.now c.args.actor.now stock (g.P.Parts.stock c.commit_guest.new.parts) c.requires.may (change_pageless c.args.command.now c.in-Activate.guest c.in-Activate.is) c.commit_guest.ensures.bays

-- gctx_create and launch_update

pub commit_launched-requires-clause-has : goal.commit_launched-requires-clause-has
commit_launched-requires-clause-has g c =
    let stock = g.P.Parts.stock c.args.parts.now in
    launch_has c.args.frames c.args.guests.now c.args.number c.in-GctxCreate.guest c.in-GctxCreate.frame c.args.command.now c.args.actor.now stock c.in-GctxCreate.is c.requires.may

pub commit_launched-requires-clause-has_context : goal.commit_launched-requires-clause-has_context
commit_launched-requires-clause-has_context g c =
    let stock = g.P.Parts.stock c.args.parts.now in
    guest_has c.args.actor.now.standing c.args.command.now c.in-GctxCreate.guest stock c.requires.may.has (launch_names c.args.command.now c.in-GctxCreate.guest c.in-GctxCreate.frame c.in-GctxCreate.is)

pub commit_launched-requires-clause-page_tested : goal.commit_launched-requires-clause-page_tested
commit_launched-requires-clause-page_tested g c =
    let stock = g.P.Parts.stock c.args.parts.now in
    (may_launch c.args.frames c.args.guests.now c.args.number c.in-GctxCreate.guest c.in-GctxCreate.frame c.args.command.now c.args.actor.now stock c.ranges.frames.fits c.in-GctxCreate.is c.requires.may).page_tested

pub commit_launched-requires-clause-tested : goal.commit_launched-requires-clause-tested
commit_launched-requires-clause-tested g c =
    let stock = g.P.Parts.stock c.args.parts.now in
    (may_launch c.args.frames c.args.guests.now c.args.number c.in-GctxCreate.guest c.in-GctxCreate.frame c.args.command.now c.args.actor.now stock c.ranges.frames.fits c.in-GctxCreate.is c.requires.may).tested

pub commit_launched-requires-clause-holds : goal.commit_launched-requires-clause-holds
commit_launched-requires-clause-holds g c =
    let stock = g.P.Parts.stock c.args.parts.now in
    (may_launch c.args.frames c.args.guests.now c.args.number c.in-GctxCreate.guest c.in-GctxCreate.frame c.args.command.now c.args.actor.now stock c.ranges.frames.fits c.in-GctxCreate.is c.requires.may).holds

pub commit_launched-requires-clause-holds_context : goal.commit_launched-requires-clause-holds_context
commit_launched-requires-clause-holds_context g c =
    let stock = g.P.Parts.stock c.args.parts.now in
    (may_launch c.args.frames c.args.guests.now c.args.number c.in-GctxCreate.guest c.in-GctxCreate.frame c.args.command.now c.args.actor.now stock c.ranges.frames.fits c.in-GctxCreate.is c.requires.may).holds_context

pub returns-in-GctxCreate-clause-moves : goal.returns-in-GctxCreate-clause-moves
returns-in-GctxCreate-clause-moves g c =
    let stock = g.P.Parts.stock c.args.parts.now in
    launch_commits c.args.guests.now c.args.actor.now c.args.command.now c.in-GctxCreate.guest c.in-GctxCreate.frame stock (g.P.Parts.stock c.commit_launched.new.parts) c.commit_launched.new.shown c.in-GctxCreate.is c.commit_launched.ensures.pages
    (c.commit_launched.ensures.contexts c.args.guests.now) c.commit_launched.ensures.shown
