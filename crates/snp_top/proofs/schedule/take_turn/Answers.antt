use Rattle.std.proofs.Common.{replicate, add-one}
use Rattle.machine_core.specs.Machine.{state_of}
use Rattle.snp_top.proofs.ScheduleLaws.{goes_on, room_left, plays_none, plays_more, replicate_push}
use Rattle.snp_top.proofs.schedule.take_turn.Goals as goal

pub events-init : goal.events-init
events-init c = plays_none (state_of c.args.machine.now) c.args.journal.now

pub push-requires : goal.push-requires
push-requires c =
    let m = state_of c.events.machine in
    let under = goes_on (state_of c.args.machine.now) m (replicate c.events.made c.args.turn.now.actor) c.args.journal.now c.events.journal c.requires c.events.invariant in
    room_left m c.events.journal c.args.turn.now.actor under c.if-finished.ensures.unfinished

pub events-preserved : goal.events-preserved
events-preserved c =
    let m = state_of c.events.machine in
    let n = state_of c.step-event.new.self in
    let actor = c.args.turn.now.actor in
    let plays = plays_more (state_of c.args.machine.now) m n (replicate c.events.made actor) c.args.journal.now c.events.journal c.push.new.self actor c.step-event.result c.events.invariant c.if-finished.ensures.unfinished c.step-event.ensures.event c.push.ensures.list c.push.ensures.room c.step-event.ensures.after in
    rw (add-one, ← (replicate_push c.events.made actor)) plays
