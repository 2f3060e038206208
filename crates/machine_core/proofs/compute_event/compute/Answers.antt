use Rattle.machine_core.specs.Bays.{contents_of, locks_of}
use Rattle.machine_core.proofs.ComputeEventLaws.{made_recontexted, made_relocked, made_shows, refused_shows}
use Rattle.machine_core.proofs.NamedLockLaws.{locks_within, may_release}
use Rattle.machine_core.proofs.SwapReadyLaws.{swap_ready}
use Rattle.machine_core.proofs.compute_event.compute.Goals as goal

pub make-requires-clause-has_source : goal.make-requires-clause-has_source
make-requires-clause-has_source g c =
    (swap_ready c.args.frames c.args.guests.now c.args.number c.args.command.now c.args.actor.now (g.P.Parts.stock c.args.parts.now) c.args.sealing.now c.ranges.frames.fits c.requires.command c.requires.may c.requires.seals).pages.source_has

pub make-requires-clause-has_context : goal.make-requires-clause-has_context
make-requires-clause-has_context g c =
    (swap_ready c.args.frames c.args.guests.now c.args.number c.args.command.now c.args.actor.now (g.P.Parts.stock c.args.parts.now) c.args.sealing.now c.ranges.frames.fits c.requires.command c.requires.may c.requires.seals).owner.has

pub make-requires-clause-has_slot : goal.make-requires-clause-has_slot
make-requires-clause-has_slot g c =
    (swap_ready c.args.frames c.args.guests.now c.args.number c.args.command.now c.args.actor.now (g.P.Parts.stock c.args.parts.now) c.args.sealing.now c.ranges.frames.fits c.requires.command c.requires.may c.requires.seals).pages.slot_has

pub make-requires-clause-source_below : goal.make-requires-clause-source_below
make-requires-clause-source_below g c =
    (swap_ready c.args.frames c.args.guests.now c.args.number c.args.command.now c.args.actor.now (g.P.Parts.stock c.args.parts.now) c.args.sealing.now c.ranges.frames.fits c.requires.command c.requires.may c.requires.seals).pages.source_tested.below

pub returns-in-Ok-clause-moves : goal.returns-in-Ok-clause-moves
returns-in-Ok-clause-moves g c =
    made_shows c.args.guests.now c.args.actor.now _ c.make.result _ (g.P.Parts.stock c.args.parts.now) c.made.result c.in-Ok.is (c.make.ensures c.args.guests.now) c.made.ensures

pub returns-in-Ok-clause-locks : goal.returns-in-Ok-clause-locks
returns-in-Ok-clause-locks g c = made_relocked c.args.number c.args.actor.now (locks_of (g.P.Parts.stock c.args.parts.now)).holder c.made.result c.requires.may.owns c.made.ensures

pub returns-in-Ok-clause-context_locks : goal.returns-in-Ok-clause-context_locks
returns-in-Ok-clause-context_locks g c = made_recontexted c.args.number c.args.actor.now (locks_of (g.P.Parts.stock c.args.parts.now)).context_holder c.made.result c.requires.may.owns_context c.made.ensures

pub release_all-requires-clause-has : goal.release_all-requires-clause-has
release_all-requires-clause-has g c = may_release c.args.frames c.args.guests.now c.args.number c.args.command.now c.args.actor.now (g.P.Parts.stock c.args.parts.now) c.requires.may

pub release_all-requires-clause-regions : goal.release_all-requires-clause-regions
release_all-requires-clause-regions g c =
    locks_within c.args.frames c.args.guests.now (contents_of (g.P.Parts.stock c.args.parts.now) c.args.guests.now) c.args.command.now c.args.actor.now.standing c.requires.may.tested

pub returns-in-Err-clause-moves : goal.returns-in-Err-clause-moves
returns-in-Err-clause-moves g c =
    refused_shows c.args.guests.now c.args.actor.now _ c.make.result _ _ c.in-Err.refusal (g.P.Parts.stock c.args.parts.now) (g.P.Parts.stock c.release_all.new.parts) c.compute_refused.result c.in-Err.is (c.make.ensures c.args.guests.now)
    c.compute_refused.ensures c.release_all.ensures.pages (c.release_all.ensures.contexts c.args.guests.now)
