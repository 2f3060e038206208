use Rattle.std.proofs.Common.{ℕ, ap, sym, ◌∙◌}
use Rattle.machine_core.specs.Bays.{GuestContexts, contents_of, contexts_of}
use Rattle.machine_core.specs.Commands.{command_page, named_refused, refusal_in}
use Rattle.machine_core.proofs.NamedLockLaws.{lock_room, locks_within, named_has, next_unheld, refusal_shows, release_has, taken_shows}
use Rattle.machine_core.proofs.firmware.lock_named.Goals as goal

pub lock_page-requires-clause-has : goal.lock_page-requires-clause-has
lock_page-requires-clause-has g c = named_has c.args.frames c.args.actor.now.standing (command_page c.args.named) (g.P.Parts.stock c.args.parts.now) c.requires.has

pub lock_page-requires-clause-not_held : goal.lock_page-requires-clause-not_held
lock_page-requires-clause-not_held g c =
    next_unheld c.args.frames c.args.guests.now c.args.number c.args.command.now c.args.actor.now (command_page c.args.named) (g.P.Parts.stock c.args.parts.now) c.requires.next c.requires.held c.requires.tested
    c.requires.owns

pub release_all-requires-clause-has : goal.release_all-requires-clause-has
release_all-requires-clause-has g c =
    release_has c.args.frames c.args.guests.now (contents_of (g.P.Parts.stock c.args.parts.now) c.args.guests.now) c.args.command.now c.args.actor.now.standing (command_page c.args.named) _ c.requires.tested
    (g.met.P.Parts.kept_has _ _ c.lock_page.ensures.kept _ c.requires.has)

pub release_all-requires-clause-regions : goal.release_all-requires-clause-regions
release_all-requires-clause-regions g c =
    locks_within c.args.frames c.args.guests.now (contents_of (g.P.Parts.stock c.args.parts.now) c.args.guests.now) c.args.command.now c.args.actor.now.standing c.requires.tested

pub returns-in-Ok-clause-moves : goal.returns-in-Ok-clause-moves
returns-in-Ok-clause-moves g c =
    let stock = g.P.Parts.stock c.args.parts.now in
    taken_shows c.args.frames c.args.guests.now c.args.actor.now c.args.command.now c.args.named stock (g.P.Parts.stock c.lock_page.new.parts) c.in-Ok.lock c.locked.result
    (ap refusal_in (sym c.in-Ok.is) ∙ c.lock_page.ensures.refusal ∙ ap (λ (asid : ℕ). named_refused c.args.frames asid c.args.command.now c.args.named stock) c.command_asid-asid.ensures)
    c.in-Ok.ensures.taken c.locked.ensures c.lock_page.ensures.pages c.lock_page.ensures.contexts

pub returns-in-Ok-clause-room : goal.returns-in-Ok-clause-room
returns-in-Ok-clause-room g c = λ some. lock_room c.args.command.now c.args.actor.now.standing.locks (command_page c.args.named) c.requires.next

pub returns-in-Err-clause-moves : goal.returns-in-Err-clause-moves
returns-in-Err-clause-moves g c =
    let stock = g.P.Parts.stock c.args.parts.now in
    refusal_shows c.args.frames c.args.guests.now c.args.actor.now c.args.command.now c.args.named stock (g.P.Parts.stock c.release_all.new.parts) c.in-Err.refusal c.named_refused.result
    (ap refusal_in (sym c.in-Err.is) ∙ c.lock_page.ensures.refusal ∙ ap (λ (asid : ℕ). named_refused c.args.frames asid c.args.command.now c.args.named stock) c.command_asid-asid.ensures)
    c.named_refused.ensures (c.release_all.ensures.pages ∙ c.lock_page.ensures.pages)
    (c.release_all.ensures.contexts c.args.guests.now ∙ ap (λ (contexts : GuestContexts). contexts_of contexts c.args.guests.now) c.lock_page.ensures.contexts)
