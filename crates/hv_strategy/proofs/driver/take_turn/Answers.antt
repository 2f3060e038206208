use Rattle.std.proofs.Common.{ap, arith, length}
use Rattle.snp_model.specs.declared.scenario.Scenario.{Scenario}
use Rattle.snp_model.specs.Journals.{state_at}
use Rattle.growing_runs.specs.Extending.{actor_of}
use Rattle.growing_runs.proofs.DriveLaws.{event_driven, item_there, turn_made}
use Rattle.growing_runs.proofs.LiveLaws.{live_asks}
use Rattle.hv_strategy.proofs.driver.take_turn.Goals as goal

pub give_answer-requires-clause-asks : goal.give_answer-requires-clause-asks
give_answer-requires-clause-asks g c =
    live_asks (g.A.Asks.asks c.args.asker.now) (state_at (g.R.Ring.scenario c.args.ring.now) (g.R.Ring.list c.args.ring.now)) c.pick-place.result c.live_at-actor.result c.live_at-actor.ensures.place

pub item_of-item-requires-clause-there : goal.item_of-item-requires-clause-there
item_of-item-requires-clause-there g c =
    let there = item_there (g.R.Ring.scenario c.give_answer.new.ring) (g.R.Ring.list c.give_answer.new.ring) c.live_at-actor.result c.give_answer.ensures.unfinished in
    let event = ap (λ e. e.item) c.step-event.ensures.event in
    let lengths = ap (λ (k : Scenario). length (actor_of k c.live_at-actor.result).script) c.step-event.ensures.scenario in
    omega arith

pub returns-clause-turned : goal.returns-clause-turned
returns-clause-turned g c =
    turn_made (record { asks = g.A.Asks.asks; gives = g.A.Asks.gives; sees = g.A.Asks.sees }) (record { place = g.T.Turns.place; later = g.T.Turns.later })
    (g.R.Ring.scenario c.args.ring.now) (g.R.Ring.scenario c.give_answer.new.ring) (g.R.Ring.scenario c.step-event.new.self)
    (g.R.Ring.list c.args.ring.now) (g.R.Ring.list c.give_answer.new.ring) (g.R.Ring.list c.step-event.new.self)
    c.args.asker.now c.give_answer.new.asker c.see.new.self
    (g.T.Turns.state c.args.turns.now) (g.T.Turns.state c.pick-place.new.self)
    c.args.count c.pick-place.result c.live_at-actor.result c.item_of-item.result c.step-event.result
    c.requires.count c.pick-place.ensures.place c.pick-place.ensures.later c.live_at-actor.ensures.place
    (c.give_answer.ensures.asked (g.T.Turns.state c.pick-place.new.self)) c.step-event.ensures.event c.step-event.ensures.list c.step-event.ensures.scenario c.item_of-item.ensures c.see.ensures

pub returns-clause-driven : goal.returns-clause-driven
returns-clause-driven g c =
    event_driven g.A.Asks.suits g.A.Asks.left (g.R.Ring.scenario c.give_answer.new.ring) (g.R.Ring.scenario c.step-event.new.self)
    (g.R.Ring.list c.give_answer.new.ring) (g.R.Ring.list c.step-event.new.self)
    c.give_answer.new.asker c.see.new.self (g.R.Ring.spare c.give_answer.new.ring) (g.R.Ring.spare c.step-event.new.self) c.live_at-actor.result c.step-event.result
    c.give_answer.ensures.driven c.give_answer.ensures.unfinished c.step-event.ensures.event c.step-event.ensures.list c.step-event.ensures.scenario c.step-event.ensures.spare
    (g.met.A.Asks.events_suit c.give_answer.new.asker c.see.new.self (g.R.Ring.scenario c.give_answer.new.ring) c.live_at-actor.result c.item_of-item.result c.step-event.result c.give_answer.ensures.driven.suits c.step-event.ensures.inside c.see.ensures)
    (g.met.A.Asks.events_keep c.give_answer.new.asker c.see.new.self c.live_at-actor.result c.item_of-item.result c.step-event.result c.see.ensures)
