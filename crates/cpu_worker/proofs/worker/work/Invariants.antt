-- the pass stays of the object, with its actor
use Rattle.std.proofs.Common.{◌≡◌}
use Rattle.cpu_worker.proofs.worker.work.Given as goal

abbrev pub invariant-rounds : goal.invariant-rounds
invariant-rounds g l = (goal.iterator-rounds g).can_next l.iterator' × (goal.iterator-rounds g).is_finite l.iterator' × g.S.Steps.is_of l.steps l.pass × (g.S.Steps.actor_of l.pass ≡ g.S.Steps.actor_of l.initial.pass)
