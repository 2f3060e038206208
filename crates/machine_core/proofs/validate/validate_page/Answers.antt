use Rattle.std.proofs.Common.{sym, ap, ◌∙◌, [], ◌∷◌}
use Rattle.snp_model.specs.declared.access.Place.{Place}
use Rattle.snp_model.specs.Locks.{page_lock}
use Rattle.snp_model.specs.State.{PageLock}
use Rattle.snp_model.specs.Validation.{validate_refusal}
use Rattle.machine_core.specs.Bays.{pages_of}
use Rattle.machine_core.specs.Moves.{lock_shown, processor_of}
use Rattle.machine_core.specs.Ranges.{IsLockOfPage, page_refused}
use Rattle.machine_core.proofs.ArrivedLaws.{validate_commits, validate_locks}
use Rattle.machine_core.proofs.HeldLaws.{has_none, has_one, holds_lock}
use Rattle.machine_core.proofs.validate.validate_page.Goals as goal

pub commit_page-requires-clause-holds : goal.commit_page-requires-clause-holds
commit_page-requires-clause-holds g c =
    let stock = g.P.Parts.stock c.args.parts.now in
    let at = c.args.at.now in
    let one = has_one (IsLockOfPage stock at.frame) c.args.actor.now.standing.locks (sym c.has_locked.ensures ∙ c.if-has_locked.true) c.requires.tested.lock in
    holds_lock c.args.number c.args.actor.now (page_lock (pages_of stock.bays at.frame).facts.size at.frame) stock c.requires.owns (one.are ∙ ap (λ (l : PageLock). l ∷ []) one.holds)

pub returns-then-has_locked-clause-moves : goal.returns-then-has_locked-clause-moves
returns-then-has_locked-clause-moves g c =
    let stock = g.P.Parts.stock c.args.parts.now in
    let at = c.args.at.now in
    let one = has_one (IsLockOfPage stock at.frame) c.args.actor.now.standing.locks (sym c.has_locked.ensures ∙ c.if-has_locked.true) c.requires.tested.lock in
    validate_commits c.args.guests.now c.args.actor.now (processor_of c.args.cpu) c.args.ask.now.size c.args.ask.now.validate at.gpn at.private at.frame at.size one.lock stock (g.P.Parts.stock c.commit_page.new.parts) c.commit_page.new.shown one.are one.holds
    c.commit_page.ensures.shown c.commit_page.ensures.pages c.commit_page.ensures.contexts

pub returns-else-has_locked-clause-moves : goal.returns-else-has_locked-clause-moves
returns-else-has_locked-clause-moves g c =
    let stock = g.P.Parts.stock c.args.parts.now in
    let at = c.args.at.now in
    let none = has_none (IsLockOfPage stock at.frame) c.args.actor.now.standing (sym c.has_locked.ensures ∙ c.if-has_locked.false) c.requires.tested in
    validate_locks c.args.guests.now c.args.actor.now (processor_of c.args.cpu) c.args.ask.now.size c.args.ask.now.validate at.gpn at.private at.frame at.size stock (g.P.Parts.stock c.lock_page.new.parts) c.lock_page.new.shown none
    (c.lock_page.ensures.shown ∙ ap (λ (place : Place). lock_shown (page_lock (pages_of stock.bays at.frame).facts.size at.frame) (page_refused (validate_refusal place c.args.ask.now.size) at.frame stock)) c.page_place-place.ensures.place) c.lock_page.ensures.pages c.lock_page.ensures.contexts
