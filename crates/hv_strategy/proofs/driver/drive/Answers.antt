use Rattle.std.proofs.Common.{ℕ, List, sym, ◌∙◌, subst}
use Rattle.snp_model.specs.declared.event.Event.{Event}
use Rattle.snp_model.specs.Journals.{IsRun, state_at}
use Rattle.run_laws.proofs.JournalsLaws.{is_run_none}
use Rattle.growing_runs.proofs.DriveLaws.{drives_more, drives_none, turn_ends}
use Rattle.growing_runs.proofs.LiveLaws.{none_live, none_unfinished}
use Rattle.hv_strategy.proofs.driver.drive.Goals as goal

pub turns-init : goal.turns-init
turns-init g c = record {
  on = drives_none _ _ _;
  driven = record { run = subst (λ (l : List (ℕ × Event)). IsRun (g.R.Ring.scenario c.args.ring.now) l) (sym c.requires.none) (is_run_none (g.R.Ring.scenario c.args.ring.now)); suits = c.requires.suits; room = c.requires.room };
  counted = c.count_live-count.ensures;
}

pub turns-smaller : goal.turns-smaller
turns-smaller g c =
    turn_ends g.A.Asks.left (g.R.Ring.scenario c.turns.ring) (g.R.Ring.scenario c.take_turn.new.ring) (g.R.Ring.list c.turns.ring) (g.R.Ring.list c.take_turn.new.ring) c.turns.asker c.take_turn.new.asker
    c.take_turn.ensures.driven.run c.take_turn.ensures.attempts c.take_turn.ensures.longer

pub turns-preserved : goal.turns-preserved
turns-preserved g c = record {
  on = drives_more _ _ _ _ _ c.turns.invariant.on c.take_turn.ensures.turned;
  driven = c.take_turn.ensures.driven;
  counted = c.count_live-count-in-turns.ensures;
}

pub returns-clause-complete : goal.returns-clause-complete
returns-clause-complete g c =
    let m = state_at (g.R.Ring.scenario c.turns.ring) (g.R.Ring.list c.turns.ring) in
    let asks = g.A.Asks.asks c.turns.asker in
    λ actor is. none_unfinished asks m actor (none_live asks m (sym c.turns.invariant.counted ∙ c.turns-test.false)) is
