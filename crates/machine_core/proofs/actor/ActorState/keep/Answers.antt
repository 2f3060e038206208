use Rattle.std.proofs.Common.{List, sym, subst, ◌∙◌, arith}
use Rattle.std.proofs.lemmas.Grind.{common_steps}
use Rattle.snp_model.specs.declared.event.Deed.{Deed}
use Rattle.machine_core.specs.Actors.{IsActorState}
use Rattle.machine_core.specs.Walks.{stands_of}
use Rattle.machine_core.proofs.ActorLaws.{actor_keeps, stands_stay}
use Rattle.machine_core.proofs.actor.ActorState.keep.Goals as goal

pub invariant_of-self : goal.invariant_of-self
invariant_of-self c =
    let inside = c.self.inside in
    let read = c.read.new.self in
    let stands = c.item_stands-self-inside in
    subst (λ (made : List Deed). IsActorState inside.role inside.script inside.item made read.guest.items read.nested.items stands.result) (sym c.push.ensures.items)
    (actor_keeps inside.role inside.script inside.item inside.deeds.items c.args.deed inside.words.guest.items inside.words.nested.items read.guest.items read.nested.items inside.stands stands.result c.self.invariant c.read.ensures.guest c.read.ensures.nested
    (stands.ensures.stands ∙ (λ i. stands_of inside.role (c.line_at-line.ensures i).item (c.as_slice.ensures.value i))) stands.ensures.inside)

pub invariant_of-self-else-not-stays : goal.invariant_of-self-else-not-stays
invariant_of-self-else-not-stays c =
    let inside = c.self.inside in
    let read = c.read.new.self in
    subst (λ (made : List Deed). IsActorState inside.role inside.script inside.item made read.guest.items read.nested.items inside.stands) (sym c.push.ensures.items)
    (actor_keeps inside.role inside.script inside.item inside.deeds.items c.args.deed inside.words.guest.items inside.words.nested.items read.guest.items read.nested.items inside.stands inside.stands c.self.invariant c.read.ensures.guest c.read.ensures.nested
    (stands_stay inside.role inside.script inside.item inside.deeds.items c.args.deed inside.words.guest.items inside.words.nested.items read.guest.items inside.stands c.self.invariant (λ none. grind (arith, common_steps)) (grind (arith, common_steps)) c.read.ensures.guest) c.self.invariant.inside)
