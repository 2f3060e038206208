use Rattle.std.proofs.Common.{ap, arith}
use Rattle.snp_model.specs.Attempts.{attempts_of}
use Rattle.growing_runs.proofs.DriveLaws.{answer_driven}
use Rattle.growing_runs.proofs.GrownRuns.{attempts_more}
use Rattle.hv_strategy.proofs.driver.give_answer.Goals as goal

pub append-requires-clause-may : goal.append-requires-clause-may
append-requires-clause-may g c =
    g.met.A.Asks.answers_fit c.args.asker.now c.answer-item.new.self (g.R.Ring.scenario c.args.ring.now) c.args.actor c.answer-item.result c.requires.driven.suits (c.requires.asks c.if-finished.ensures.finished) c.answer-item.ensures

pub append-requires-clause-room : goal.append-requires-clause-room
append-requires-clause-room g c =
    let fewer = g.met.A.Asks.answers_end c.args.asker.now c.answer-item.new.self (g.R.Ring.scenario c.args.ring.now) c.args.actor c.answer-item.result c.requires.driven.suits (c.requires.asks c.if-finished.ensures.finished) c.answer-item.ensures in
    let room = c.requires.driven.room in
    omega arith

pub returns-then-finished-clause-driven : goal.returns-then-finished-clause-driven
returns-then-finished-clause-driven g c =
    let asks = c.requires.asks c.if-finished.ensures.finished in
    let old = g.R.Ring.scenario c.args.ring.now in
    answer_driven g.A.Asks.suits g.A.Asks.left old (g.R.Ring.scenario c.append.new.self) (g.R.Ring.list c.args.ring.now) (g.R.Ring.list c.append.new.self) c.args.asker.now c.answer-item.new.self
    (g.R.Ring.spare c.args.ring.now) (g.R.Ring.spare c.append.new.self) c.args.actor c.answer-item.result
    c.requires.driven c.append.ensures.scenario c.append.ensures.list c.append.ensures.spare
    (g.met.A.Asks.answers_suit c.args.asker.now c.answer-item.new.self old c.args.actor c.answer-item.result c.requires.driven.suits asks c.answer-item.ensures)
    (g.met.A.Asks.answers_end c.args.asker.now c.answer-item.new.self old c.args.actor c.answer-item.result c.requires.driven.suits asks c.answer-item.ensures)

pub returns-then-finished-clause-attempts : goal.returns-then-finished-clause-attempts
returns-then-finished-clause-attempts g c =
    let asks = c.requires.asks c.if-finished.ensures.finished in
    let old = g.R.Ring.scenario c.args.ring.now in
    let may = g.met.A.Asks.answers_fit c.args.asker.now c.answer-item.new.self old c.args.actor c.answer-item.result c.requires.driven.suits asks c.answer-item.ensures in
    let fewer = g.met.A.Asks.answers_end c.args.asker.now c.answer-item.new.self old c.args.actor c.answer-item.result c.requires.driven.suits asks c.answer-item.ensures in
    let more = attempts_more old c.args.actor c.answer-item.result may.some may.there in
    let same = ap attempts_of c.append.ensures.scenario in
    omega arith
