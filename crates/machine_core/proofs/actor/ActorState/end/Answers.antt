use Rattle.std.proofs.Common.{rules}
use Rattle.machine_core.proofs.ActorLaws.{actor_anew}
use Rattle.machine_core.proofs.actor.ActorState.end.Goals as goal

pub invariant_of-self : goal.invariant_of-self
invariant_of-self c = actor_anew _ _ _ _ _ _ _ (search rules) (search rules) c.clear.ensures c.clear-2.ensures.guest c.clear-2.ensures.nested
