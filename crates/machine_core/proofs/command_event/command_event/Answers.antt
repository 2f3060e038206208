use Rattle.std.proofs.Common.{◌≡◌, ℕ, Option, List, is_some, sym, ap, ◌∙◌, subst}
use Rattle.snp_model.specs.FirmwareStep.{Phase, TakeContext, TakePage, Computing, Committing, phase_move, phase_of}
use Rattle.snp_model.specs.Sealing.{sealing_of}
use Rattle.snp_model.specs.State.{PageLock}
use Rattle.run_laws.specs.KeptLocks.{recontexted, relocked}
use Rattle.machine_core.specs.declared.command.Next.{Next}
use Rattle.machine_core.specs.Bays.{contents_of, context_holders_of, holders_of, view_on}
use Rattle.machine_core.specs.Commands.{CommitsAs, command_page, context_refused, phase_by}
use Rattle.machine_core.specs.Seals.{sealing_by}
use Rattle.machine_core.proofs.CommandLaws.{bounded}
use Rattle.machine_core.proofs.CommitLaws.{holds_no_context, may_commit, may_compute, no_context_left, none_left, takes_none}
use Rattle.machine_core.proofs.ContextEventLaws.{context_made, context_recontexted, context_relocked, context_shows, few_yet}
use Rattle.machine_core.proofs.HeldLaws.{moves_alike, none_made, page_taken_some}
use Rattle.machine_core.proofs.PhaseLaws.{commits, computes, context_has, holds_guest, nothing_yet, page_has, takes_context, takes_page}
use Rattle.machine_core.proofs.command_event.command_event.Goals as goal

-- The lock of the context

pub lock_context-requires-clause-has : goal.lock_context-requires-clause-has
lock_context-requires-clause-has g c =
    context_has c.args.frames c.args.guests.now c.args.actor.now.standing c.args.command.now c.in-TakeContext.guest (g.P.Parts.stock c.args.parts.now) (ap phase_by (sym c.in-TakeContext.is) ∙ c.next_of.ensures.phase) c.requires.has

pub lock_context-requires-clause-none : goal.lock_context-requires-clause-none
lock_context-requires-clause-none g c =
    let takes = takes_context c.args.command.now c.args.actor.now.standing c.in-TakeContext.guest (ap phase_by (sym c.in-TakeContext.is) ∙ c.next_of.ensures.phase) in
    holds_no_context c.args.number c.args.actor.now (g.P.Parts.stock c.args.parts.now) c.requires.owns_context takes.none

pub returns-in-TakeContext-clause-moves : goal.returns-in-TakeContext-clause-moves
unfolding phase_move
returns-in-TakeContext-clause-moves g c =
    let stock = g.P.Parts.stock c.args.parts.now in
    let phase : TakeContext c.in-TakeContext.guest ≡ phase_of c.args.command.now c.args.actor.now.standing = ap phase_by (sym c.in-TakeContext.is) ∙ c.next_of.ensures.phase in
    ap (λ (p : Phase). phase_move c.args.frames c.args.guests.now (view_on stock c.args.guests.now) c.args.actor.now c.args.command.now p) (sym phase)
    ∙ context_shows c.args.guests.now c.args.actor.now c.args.command.now c.in-TakeContext.guest stock (g.P.Parts.stock c.lock_context.new.parts) c.lock_context.new.shown c.lock_context.ensures.shown c.lock_context.ensures.bays c.lock_context.ensures.contexts
    ∙ moves_alike c.args.page.now c.lock_context.new.shown (view_on (g.P.Parts.stock c.lock_context.new.parts) c.args.guests.now) c.args.actor.now.standing (context_made c.in-TakeContext.guest _ c.lock_context.new.shown c.lock_context.ensures.shown)

pub returns-in-TakeContext-clause-locks : goal.returns-in-TakeContext-clause-locks
returns-in-TakeContext-clause-locks g c =
    let stock = g.P.Parts.stock c.args.parts.now in
    let takes = takes_context c.args.command.now c.args.actor.now.standing c.in-TakeContext.guest (ap phase_by (sym c.in-TakeContext.is) ∙ c.next_of.ensures.phase) in
    context_relocked c.args.number c.args.actor.now c.in-TakeContext.guest (context_refused c.args.guests.now c.args.command.now c.in-TakeContext.guest stock) stock (g.P.Parts.stock c.lock_context.new.parts) c.lock_context.new.shown c.requires.owns
    (nothing_yet c.args.frames c.args.command.now c.args.actor.now.standing c.args.actor.now.deeds c.in-TakeContext.guest c.requires.attempt takes) c.lock_context.ensures.shown c.lock_context.ensures.bays

pub returns-in-TakeContext-clause-context_locks : goal.returns-in-TakeContext-clause-context_locks
returns-in-TakeContext-clause-context_locks g c =
    let takes = takes_context c.args.command.now c.args.actor.now.standing c.in-TakeContext.guest (ap phase_by (sym c.in-TakeContext.is) ∙ c.next_of.ensures.phase) in
    context_recontexted c.args.number c.args.actor.now (g.P.Parts.stock c.args.parts.now) (g.P.Parts.stock c.lock_context.new.parts) c.lock_context.new.shown
    (nothing_yet c.args.frames c.args.command.now c.args.actor.now.standing c.args.actor.now.deeds c.in-TakeContext.guest c.requires.attempt takes) c.lock_context.ensures.locks

pub returns-in-TakeContext-clause-room : goal.returns-in-TakeContext-clause-room
returns-in-TakeContext-clause-room g c = λ some.
    let takes = takes_context c.args.command.now c.args.actor.now.standing c.in-TakeContext.guest (ap phase_by (sym c.in-TakeContext.is) ∙ c.next_of.ensures.phase) in
    few_yet c.args.actor.now.standing (nothing_yet c.args.frames c.args.command.now c.args.actor.now.standing c.args.actor.now.deeds c.in-TakeContext.guest c.requires.attempt takes)

-- That of a page

pub lock_named-requires-clause-next : goal.lock_named-requires-clause-next
lock_named-requires-clause-next g c = (takes_page c.args.command.now c.args.actor.now.standing (command_page c.in-TakePage.named) (ap phase_by (sym c.in-TakePage.is) ∙ c.next_of.ensures.phase)).next

pub lock_named-requires-clause-held : goal.lock_named-requires-clause-held
lock_named-requires-clause-held g c =
    let takes = takes_page c.args.command.now c.args.actor.now.standing (command_page c.in-TakePage.named) (ap phase_by (sym c.in-TakePage.is) ∙ c.next_of.ensures.phase) in
    holds_guest c.args.frames c.args.guests.now (contents_of (g.P.Parts.stock c.args.parts.now) c.args.guests.now) c.args.command.now c.args.actor.now.standing c.requires.tested takes.past

pub lock_named-requires-clause-has : goal.lock_named-requires-clause-has
lock_named-requires-clause-has g c =
    page_has c.args.frames c.args.guests.now c.args.actor.now.standing c.args.command.now (command_page c.in-TakePage.named) (g.P.Parts.stock c.args.parts.now) (ap phase_by (sym c.in-TakePage.is) ∙ c.next_of.ensures.phase) c.requires.has

pub returns-in-TakePage-clause-moves : goal.returns-in-TakePage-clause-moves
unfolding phase_move
returns-in-TakePage-clause-moves g c =
    let phase : TakePage (command_page c.in-TakePage.named) ≡ phase_of c.args.command.now c.args.actor.now.standing = ap phase_by (sym c.in-TakePage.is) ∙ c.next_of.ensures.phase in
    ap (λ (p : Phase). phase_move c.args.frames c.args.guests.now (view_on (g.P.Parts.stock c.args.parts.now) c.args.guests.now) c.args.actor.now c.args.command.now p) (sym phase) ∙ c.lock_named.ensures.moves
    ∙ moves_alike c.args.page.now c.lock_named.new.shown (view_on (g.P.Parts.stock c.lock_named.new.parts) c.args.guests.now) c.args.actor.now.standing c.lock_named.ensures.no_page

pub returns-in-TakePage-clause-room : goal.returns-in-TakePage-clause-room
returns-in-TakePage-clause-room g c = λ takes. c.lock_named.ensures.room (page_taken_some c.lock_named.new.shown.lock takes)

pub lock_named-requires-clause-command : goal.lock_named-requires-clause-command
lock_named-requires-clause-command g c = bounded c.args.command.now c.requires.command

-- The compute

pub compute-requires-clause-command : goal.compute-requires-clause-command
compute-requires-clause-command g c = bounded c.args.command.now c.requires.command

pub compute-requires-clause-seals : goal.compute-requires-clause-seals
compute-requires-clause-seals g c = (computes c.args.command.now c.args.actor.now.standing (sealing_by c.in-Compute.sealing) (ap phase_by (sym c.in-Compute.is) ∙ c.next_of.ensures.phase)).seals

pub compute-requires-clause-may : goal.compute-requires-clause-may
compute-requires-clause-may g c =
    let stock = g.P.Parts.stock c.args.parts.now in
    let phase = ap phase_by (sym c.in-Compute.is) ∙ c.next_of.ensures.phase in
    may_compute c.args.frames c.args.guests.now c.args.number c.args.command.now (sealing_by c.in-Compute.sealing) c.args.actor.now stock phase c.requires.tested c.requires.has c.requires.owns c.requires.owns_context

pub returns-in-Compute-clause-moves : goal.returns-in-Compute-clause-moves
unfolding phase_move
returns-in-Compute-clause-moves g c =
    let phase : Computing (sealing_by c.in-Compute.sealing) ≡ phase_of c.args.command.now c.args.actor.now.standing = ap phase_by (sym c.in-Compute.is) ∙ c.next_of.ensures.phase in
    ap (λ (p : Phase). phase_move c.args.frames c.args.guests.now (view_on (g.P.Parts.stock c.args.parts.now) c.args.guests.now) c.args.actor.now c.args.command.now p) (sym phase) ∙ c.compute.ensures.moves

-- The commit of what was sealed or opened

pub commit_swap-requires-clause-command : goal.commit_swap-requires-clause-command
commit_swap-requires-clause-command g c = bounded c.args.command.now c.requires.command

pub commit_swap-requires-clause-seals : goal.commit_swap-requires-clause-seals
commit_swap-requires-clause-seals g c = subst (λ (next : Next). CommitsAs next (sealing_of c.args.command.now)) c.in-CommitSwap.is c.next_of.ensures.commits

pub commit_swap-requires-clause-made : goal.commit_swap-requires-clause-made
commit_swap-requires-clause-made g c =
    (commits c.args.command.now c.args.actor.now.standing (ap phase_by (sym c.in-CommitSwap.is) ∙ c.next_of.ensures.phase)).made (ap is_some (commit_swap-requires-clause-seals g c))

pub commit_swap-requires-clause-may : goal.commit_swap-requires-clause-may
commit_swap-requires-clause-may g c =
    let stock = g.P.Parts.stock c.args.parts.now in
    let phase = ap phase_by (sym c.in-CommitSwap.is) ∙ c.next_of.ensures.phase in
    may_commit c.args.frames c.args.guests.now c.args.number c.args.command.now c.args.actor.now stock phase c.requires.tested c.requires.has c.requires.owns c.requires.owns_context

pub returns-in-CommitSwap-clause-moves : goal.returns-in-CommitSwap-clause-moves
unfolding phase_move
returns-in-CommitSwap-clause-moves g c =
    let phase : Committing ≡ phase_of c.args.command.now c.args.actor.now.standing = ap phase_by (sym c.in-CommitSwap.is) ∙ c.next_of.ensures.phase in
    ap (λ (p : Phase). phase_move c.args.frames c.args.guests.now (view_on (g.P.Parts.stock c.args.parts.now) c.args.guests.now) c.args.actor.now c.args.command.now p) (sym phase) ∙ c.commit_swap.ensures.moves
    ∙ moves_alike c.args.page.now c.commit_swap.new.shown (view_on (g.P.Parts.stock c.commit_swap.new.parts) c.args.guests.now) c.args.actor.now.standing (none_made c.commit_swap.new.shown.lock c.commit_swap.ensures.no_lock)

pub returns-in-CommitSwap-clause-locks : goal.returns-in-CommitSwap-clause-locks
returns-in-CommitSwap-clause-locks g c =
    c.commit_swap.ensures.locks
    ∙ ap (λ (locks : List PageLock). relocked c.args.number locks (holders_of (g.P.Parts.stock c.args.parts.now).bays)) (none_left c.commit_swap.new.shown c.args.actor.now.standing c.commit_swap.ensures.ended)

pub returns-in-CommitSwap-clause-context_locks : goal.returns-in-CommitSwap-clause-context_locks
returns-in-CommitSwap-clause-context_locks g c =
    c.commit_swap.ensures.context_locks
    ∙ ap (λ (lock : Option ℕ). recontexted c.args.number lock (context_holders_of (g.P.Parts.stock c.args.parts.now).contexts)) (no_context_left c.commit_swap.new.shown c.args.actor.now.standing c.commit_swap.ensures.ended)

pub returns-in-CommitSwap-clause-room : goal.returns-in-CommitSwap-clause-room
returns-in-CommitSwap-clause-room g c = λ takes. absurd (takes_none c.commit_swap.new.shown.lock c.commit_swap.ensures.no_lock (page_taken_some c.commit_swap.new.shown.lock takes))

-- The other commits

pub commit-requires-clause-seals_none : goal.commit-requires-clause-seals_none
commit-requires-clause-seals_none g c = subst (λ (next : Next). CommitsAs next (sealing_of c.args.command.now)) c.in-Commit.is c.next_of.ensures.commits

pub commit-requires-clause-may : goal.commit-requires-clause-may
commit-requires-clause-may g c =
    let stock = g.P.Parts.stock c.args.parts.now in
    let phase = ap phase_by (sym c.in-Commit.is) ∙ c.next_of.ensures.phase in
    may_commit c.args.frames c.args.guests.now c.args.number c.args.command.now c.args.actor.now stock phase c.requires.tested c.requires.has c.requires.owns c.requires.owns_context

pub returns-in-Commit-clause-moves : goal.returns-in-Commit-clause-moves
unfolding phase_move
returns-in-Commit-clause-moves g c =
    let phase : Committing ≡ phase_of c.args.command.now c.args.actor.now.standing = ap phase_by (sym c.in-Commit.is) ∙ c.next_of.ensures.phase in
    ap (λ (p : Phase). phase_move c.args.frames c.args.guests.now (view_on (g.P.Parts.stock c.args.parts.now) c.args.guests.now) c.args.actor.now c.args.command.now p) (sym phase) ∙ c.commit.ensures.moves
    ∙ moves_alike _ c.commit.new.shown (view_on (g.P.Parts.stock c.commit.new.parts) c.args.guests.now) c.args.actor.now.standing (none_made c.commit.new.shown.lock c.commit.ensures.no_lock)

pub returns-in-Commit-clause-locks : goal.returns-in-Commit-clause-locks
returns-in-Commit-clause-locks g c =
    c.commit.ensures.locks
    ∙ ap (λ (locks : List PageLock). relocked c.args.number locks (holders_of (g.P.Parts.stock c.args.parts.now).bays)) (none_left c.commit.new.shown c.args.actor.now.standing c.commit.ensures.ended)

pub returns-in-Commit-clause-context_locks : goal.returns-in-Commit-clause-context_locks
returns-in-Commit-clause-context_locks g c =
    c.commit.ensures.context_locks
    ∙ ap (λ (lock : Option ℕ). recontexted c.args.number lock (context_holders_of (g.P.Parts.stock c.args.parts.now).contexts)) (no_context_left c.commit.new.shown c.args.actor.now.standing c.commit.ensures.ended)

pub returns-in-Commit-clause-room : goal.returns-in-Commit-clause-room
returns-in-Commit-clause-room g c = λ takes. absurd (takes_none c.commit.new.shown.lock c.commit.ensures.no_lock (page_taken_some c.commit.new.shown.lock takes))
