use Rattle.std.proofs.Common.{arith}
use Rattle.std.proofs.lemmas.Result.{err_from_is_err_and}
use Rattle.snp_model.proofs.Adding.{left_after, left_done, prefix_after}
use Rattle.scenario_text.proofs.WrittenLines.{actor_at, no_actors}
use Rattle.scenario_text.proofs.writing.write_actors.Goals as goal

pub returns-in_err-write_actor-clause-text : goal.returns-in_err-write_actor-clause-text
returns-in_err-write_actor-clause-text g c =
    let p = err_from_is_err_and c.from_residual.result c.from_residual.ensures.1 in
    rw p.1 (prefix_after _ _ _ _ _ _ _ c.actors.invariant.left c.in_err-write_actor.ensures.text (actor_at c.args.actors.now c.actors.place _ c.actors-test.true c.index-actors-place.is))

pub actors-preserved : goal.actors-preserved
actors-preserved g c = record {
  later = omega arith;
  left = left_after _ _ _ _ _ _ _ c.actors.invariant.left c.in_ok-write_actor.ensures.text (actor_at c.args.actors.now c.actors.place _ c.actors-test.true c.index-actors-place.is);
}

pub returns-clause-text : goal.returns-clause-text
returns-clause-text g c = left_done _ _ _ _ (no_actors _ c.actors.place c.args.actors.now (omega arith)) c.actors.invariant.left
