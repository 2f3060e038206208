use Rattle.std.proofs.Common.{sym, ◌∙◌}
use Rattle.snp_model.specs.RmpUpdate.{is_bad_update}
use Rattle.run_laws.specs.HeldLocks.{IsUpdateLock}
use Rattle.machine_core.specs.Bays.{contents_of}
use Rattle.machine_core.proofs.HeldLaws.{commit_has, has_none, has_one, lock_has}
use Rattle.machine_core.proofs.UpdateLaws.{commit_moves, lock_moves, update_tested}
use Rattle.machine_core.proofs.update.update_event.Goals as goal

pub commit_range-requires-clause-has : goal.commit_range-requires-clause-has
commit_range-requires-clause-has g c =
    commit_has (is_bad_update c.args.frames c.args.update.now) c.args.update.now.frame c.args.actor.now.standing.locks (g.P.Parts.stock c.args.parts.now) c.requires.has (sym c.has_locked.ensures ∙ c.if-has_locked.true)

pub commit_range-requires-clause-tested : goal.commit_range-requires-clause-tested
commit_range-requires-clause-tested g c =
    let stock = g.P.Parts.stock c.args.parts.now in
    let one = has_one (IsUpdateLock c.args.frames (contents_of stock c.args.guests.now) c.args.update.now) c.args.actor.now.standing.locks (sym c.has_locked.ensures ∙ c.if-has_locked.true) c.requires.tested.lock in
    update_tested c.args.frames c.args.guests.now c.args.update.now one.lock stock c.ranges.frames.fits one.holds

pub lock_range-requires-clause-has : goal.lock_range-requires-clause-has
lock_range-requires-clause-has g c =
    lock_has (is_bad_update c.args.frames c.args.update.now) c.args.update.now.frame c.args.actor.now.standing.locks (g.P.Parts.stock c.args.parts.now) c.requires.has (sym c.has_locked.ensures ∙ c.if-has_locked.false)

pub returns-then-has_locked-clause-moves : goal.returns-then-has_locked-clause-moves
returns-then-has_locked-clause-moves g c =
    let stock = g.P.Parts.stock c.args.parts.now in
    let one = has_one (IsUpdateLock c.args.frames (contents_of stock c.args.guests.now) c.args.update.now) c.args.actor.now.standing.locks (sym c.has_locked.ensures ∙ c.if-has_locked.true) c.requires.tested.lock in
    commit_moves c.args.frames c.args.guests.now c.args.update.now c.args.actor.now one.lock stock (g.P.Parts.stock c.commit_range.new.parts) c.commit_range.new.shown one.are one.holds.covers c.commit_range.ensures.shown c.commit_range.ensures.pages c.commit_range.ensures.contexts

pub returns-else-has_locked-clause-moves : goal.returns-else-has_locked-clause-moves
returns-else-has_locked-clause-moves g c =
    let stock = g.P.Parts.stock c.args.parts.now in
    let none = has_none (IsUpdateLock c.args.frames (contents_of stock c.args.guests.now) c.args.update.now) c.args.actor.now.standing (sym c.has_locked.ensures ∙ c.if-has_locked.false) c.requires.tested in
    lock_moves c.args.frames c.args.guests.now c.args.update.now c.args.actor.now stock (g.P.Parts.stock c.lock_range.new.parts) c.lock_range.new.shown none c.lock_range.ensures.shown c.lock_range.ensures.pages c.lock_range.ensures.contexts
