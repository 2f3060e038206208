use Rattle.std.proofs.Common.{sym, ap, ◌∙◌, [], ◌∷◌}
use Rattle.snp_model.specs.declared.entry.PageSize.TheVariants.{Large}
use Rattle.snp_model.specs.Locks.{page_lock}
use Rattle.snp_model.specs.RmpUpdate.{is_bad_smash}
use Rattle.snp_model.specs.State.{PageLock}
use Rattle.run_laws.specs.HeldLocks.{IsSmashLock}
use Rattle.machine_core.specs.Bays.{contents_of}
use Rattle.machine_core.proofs.HeldLaws.{commit_has, has_none, has_one, holds_lock, lock_has}
use Rattle.machine_core.proofs.SmashLaws.{commit_moves, lock_moves, smash_lock_is, smash_tested}
use Rattle.machine_core.proofs.smash.smash_event.Goals as goal

pub commit_page-requires-clause-has : goal.commit_page-requires-clause-has
commit_page-requires-clause-has g c =
    commit_has (is_bad_smash c.args.frames c.args.frame) c.args.frame c.args.actor.now.standing.locks (g.P.Parts.stock c.args.parts.now) c.requires.has (sym c.has_locked.ensures ∙ c.if-has_locked.true)

pub commit_page-requires-clause-holds : goal.commit_page-requires-clause-holds
commit_page-requires-clause-holds g c =
    let stock = g.P.Parts.stock c.args.parts.now in
    let one = has_one (IsSmashLock c.args.frames (contents_of stock c.args.guests.now) c.args.frame) c.args.actor.now.standing.locks (sym c.has_locked.ensures ∙ c.if-has_locked.true) c.requires.tested.lock in
    holds_lock c.args.number c.args.actor.now (page_lock Large c.args.frame) stock c.requires.owns (one.are ∙ ap (λ (l : PageLock). l ∷ []) (smash_lock_is c.args.frames c.args.guests.now c.args.frame one.lock stock one.holds))

pub commit_page-requires-clause-tested : goal.commit_page-requires-clause-tested
commit_page-requires-clause-tested g c =
    let stock = g.P.Parts.stock c.args.parts.now in
    let one = has_one (IsSmashLock c.args.frames (contents_of stock c.args.guests.now) c.args.frame) c.args.actor.now.standing.locks (sym c.has_locked.ensures ∙ c.if-has_locked.true) c.requires.tested.lock in
    smash_tested c.args.frames c.args.guests.now c.args.frame one.lock stock c.ranges.frames.fits one.holds

pub lock_page-requires-clause-has : goal.lock_page-requires-clause-has
lock_page-requires-clause-has g c =
    lock_has (is_bad_smash c.args.frames c.args.frame) c.args.frame c.args.actor.now.standing.locks (g.P.Parts.stock c.args.parts.now) c.requires.has (sym c.has_locked.ensures ∙ c.if-has_locked.false)

pub returns-then-has_locked-clause-moves : goal.returns-then-has_locked-clause-moves
returns-then-has_locked-clause-moves g c =
    let stock = g.P.Parts.stock c.args.parts.now in
    let one = has_one (IsSmashLock c.args.frames (contents_of stock c.args.guests.now) c.args.frame) c.args.actor.now.standing.locks (sym c.has_locked.ensures ∙ c.if-has_locked.true) c.requires.tested.lock in
    commit_moves c.args.frames c.args.guests.now c.args.frame c.args.actor.now one.lock stock (g.P.Parts.stock c.commit_page.new.parts) c.commit_page.new.shown one.are (smash_lock_is c.args.frames c.args.guests.now c.args.frame one.lock stock one.holds)
    c.commit_page.ensures.shown c.commit_page.ensures.pages c.commit_page.ensures.contexts

pub returns-else-has_locked-clause-moves : goal.returns-else-has_locked-clause-moves
returns-else-has_locked-clause-moves g c =
    let stock = g.P.Parts.stock c.args.parts.now in
    let none = has_none (IsSmashLock c.args.frames (contents_of stock c.args.guests.now) c.args.frame) c.args.actor.now.standing (sym c.has_locked.ensures ∙ c.if-has_locked.false) c.requires.tested in
    lock_moves c.args.frames c.args.guests.now c.args.frame c.args.actor.now stock (g.P.Parts.stock c.lock_page.new.parts) c.lock_page.new.shown none c.lock_page.ensures.shown c.lock_page.ensures.pages c.lock_page.ensures.contexts
