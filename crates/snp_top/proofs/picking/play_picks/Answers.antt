use Rattle.std.proofs.Common.{◌≡◌, ◌∷◌, [], ℕ, length, sym, ap, ◌∙◌, subst, arith}
use Rattle.std.proofs.lemmas.List.{length-append}
use Rattle.machine_core.specs.Machine.{state_of}
use Rattle.snp_model.specs.Generated.{draw}
use Rattle.snp_model.specs.State.{State}
use Rattle.run_laws.proofs.RunLaws.{after_length}
use Rattle.snp_top.proofs.PickLaws.{actor_ends, actor_goes_on, picks_more, picks_none, picks_whole}
use Rattle.snp_top.proofs.ScheduleLaws.{goes_on, opening_under_way, room_left}
use Rattle.snp_top.proofs.picking.play_picks.Goals as goal

pub events-init : goal.events-init
events-init c = record { picks = picks_none (state_of c.args.machine.now) c.args.drill.now c.args.journal.now; left = c.count_unfinished-left.ensures; counted = c.requires.counted }

pub push-requires : goal.push-requires
push-requires c =
    let first = state_of c.args.machine.now in
    let m = state_of c.events.machine in
    let picks = c.events.invariant.picks in
    let under = goes_on first m picks.schedule c.args.journal.now c.events.journal (opening_under_way first c.args.journal.now c.requires.opening) picks.plays in
    room_left m c.events.journal c.unfinished_at-actor.result under c.unfinished_at-actor.ensures.unfinished

pub events-preserved-then-finished : goal.events-preserved-then-finished
events-preserved-then-finished c =
    let m = state_of c.events.machine in
    let n = state_of c.step-event.new.self in
    let actor = c.unfinished_at-actor.result in
    let fewer = actor_ends m n actor c.unfinished_at-actor.ensures.unfinished c.step-event.ensures.after c.if-finished.ensures.finished in
    let left = c.events.invariant.left in
    record {
      picks = picks_more (state_of c.args.machine.now) m n c.args.drill.now c.events.drill c.pick-place.new.self c.args.journal.now c.events.journal c.push.new.self c.pick-place.result actor c.step-event.result
          c.events.invariant.picks (subst (λ (count : ℕ). (c.pick-place.result, c.pick-place.new.self) ≡ draw count c.events.drill) left c.pick-place.ensures.drawn)
          c.unfinished_at-actor.ensures.place c.unfinished_at-actor.ensures.unfinished c.step-event.ensures.event c.push.ensures.list c.push.ensures.room c.step-event.ensures.after;
      left = omega arith;
      counted = c.events.invariant.counted ∙ sym (after_length m actor) ∙ ap (λ (k : State). length k.actors) (sym c.step-event.ensures.after);
    }

pub events-preserved : goal.events-preserved
events-preserved c =
    let m = state_of c.events.machine in
    let n = state_of c.step-event.new.self in
    let actor = c.unfinished_at-actor.result in
    let left = c.events.invariant.left in
    record {
      picks = picks_more (state_of c.args.machine.now) m n c.args.drill.now c.events.drill c.pick-place.new.self c.args.journal.now c.events.journal c.push.new.self c.pick-place.result actor c.step-event.result
          c.events.invariant.picks (subst (λ (count : ℕ). (c.pick-place.result, c.pick-place.new.self) ≡ draw count c.events.drill) left c.pick-place.ensures.drawn)
          c.unfinished_at-actor.ensures.place c.unfinished_at-actor.ensures.unfinished c.step-event.ensures.event c.push.ensures.list c.push.ensures.room c.step-event.ensures.after;
      left = left ∙ actor_goes_on m n actor c.unfinished_at-actor.ensures.unfinished c.step-event.ensures.after c.if-finished.ensures.unfinished;
      counted = c.events.invariant.counted ∙ sym (after_length m actor) ∙ ap (λ (k : State). length k.actors) (sym c.step-event.ensures.after);
    }

pub events-smaller-then-finished : goal.events-smaller-then-finished
events-smaller-then-finished c =
    let first = state_of c.args.machine.now in
    let m = state_of c.events.machine in
    let picks = c.events.invariant.picks in
    let under = goes_on first m picks.schedule c.args.journal.now c.events.journal (opening_under_way first c.args.journal.now c.requires.opening) picks.plays in
    let left = room_left m c.events.journal c.unfinished_at-actor.result under c.unfinished_at-actor.ensures.unfinished in
    let more = ap length c.push.ensures.list ∙ length-append c.events.journal.list ((c.unfinished_at-actor.result, c.step-event.result) ∷ []) in
    let room = c.push.ensures.room in
    omega arith

pub events-smaller : goal.events-smaller
events-smaller c =
    let first = state_of c.args.machine.now in
    let m = state_of c.events.machine in
    let picks = c.events.invariant.picks in
    let under = goes_on first m picks.schedule c.args.journal.now c.events.journal (opening_under_way first c.args.journal.now c.requires.opening) picks.plays in
    let left = room_left m c.events.journal c.unfinished_at-actor.result under c.unfinished_at-actor.ensures.unfinished in
    let more = ap length c.push.ensures.list ∙ length-append c.events.journal.list ((c.unfinished_at-actor.result, c.step-event.result) ∷ []) in
    let room = c.push.ensures.room in
    omega arith

pub returns : goal.returns
returns c =
    picks_whole (state_of c.args.machine.now) (state_of c.events.machine) c.args.drill.now c.events.drill c.args.journal.now c.events.journal c.requires.opening c.events.invariant.picks
    (sym c.events.invariant.left ∙ c.events-test.false)
