use Rattle.std.proofs.Common.{length, sym, ap, ◌∙◌, subst, arith}
use Rattle.snp_model.specs.Bounds.{IsGuestInside}
use Rattle.machine_core.proofs.ActorLaws.{actor_anew}
use Rattle.machine_core.proofs.actor.ActorState.new.Goals as goal

pub invariant_of-result : goal.invariant_of-result
invariant_of-result c =
    let same = ap length (c.in_ok-from_slice.ensures ∙ c.as_slice.ensures) in
    actor_anew _ _ _ _ _ _ _ (omega (arith, c.requires)) (subst IsGuestInside (sym c.no_walk.ensures) tt) c.new.ensures c.new-2.ensures.guest c.new-2.ensures.nested
