use Rattle.std.proofs.Common.{rules}
use Rattle.std.proofs.Common.{◌≡◌, ℕ, map, vec_capacity, Option, None, sym, subst, ap, ◌∙◌}
use Rattle.snp_model.specs.Entries.{released}
use Rattle.rmp_table.specs.Locks.{AreLocks, holders_by}
use Rattle.std.specs.List.{filter}
use Rattle.std.proofs.lemmas.Fn.{filter_same}
use Rattle.std.proofs.lemmas.Bool.{cond-true, cond-false, eq-eqb, ne_eqb}
use Rattle.rmp_table.proofs.LockLaws.{is_others, every_released, is_unlocked}
use Rattle.rmp_table.proofs.locks.Locks.unlock.Goals as goal

pub invariant_of-self-in-None : goal.invariant_of-self-in-None
invariant_of-self-in-None c =
    let kept : c.retain.new.self.items ≡ filter (is_others c.args.actor) c.self.inside.single.items = filter_same _ (is_others c.args.actor) _ (λ x b f t. search rules) _ _ c.retain.ensures.filtered in
    let Q : ℕ → Type 0 = λ n. AreLocks c.self.inside.every c.retain.new.self.items n in
    subst Q (sym c.retain.ensures.capacity) (is_unlocked _ _ _ (vec_capacity c.self.inside.single) c.args.actor _ c.in-None.is c.self.invariant c.self.view_is kept).are

pub returns-then-holder-actor : goal.returns-then-holder-actor
returns-then-holder-actor c =
    every_released c.in-Some.holder c.args.actor c.self.inside.single.items None (sym (cond-true _ _ _ (eq-eqb _ _ c.if-holder-actor.true))) (c.self.invariant.alone c.in-Some.holder c.in-Some.is)
    ∙ ap (λ (o : Option ℕ). map (released c.args.actor) (holders_by o c.self.inside.single.items)) (sym c.in-Some.is)
    ∙ ap (map (released c.args.actor)) c.self.view_is

pub returns-else-holder-actor : goal.returns-else-holder-actor
returns-else-holder-actor c =
    sym c.self.view_is
    ∙ every_released c.in-Some.holder c.args.actor c.self.inside.single.items _ (c.in-Some.is ∙ sym (cond-false _ _ _ (ne_eqb _ _ c.if-holder-actor.false))) (c.self.invariant.alone c.in-Some.holder c.in-Some.is)
    ∙ ap (λ (o : Option ℕ). map (released c.args.actor) (holders_by o c.self.inside.single.items)) (sym c.in-Some.is)
    ∙ ap (map (released c.args.actor)) c.self.view_is

pub returns-in-None : goal.returns-in-None
returns-in-None c =
    let kept : c.retain.new.self.items ≡ filter (is_others c.args.actor) c.self.inside.single.items = filter_same _ (is_others c.args.actor) _ (λ x b f t. search rules) _ _ c.retain.ensures.filtered in
    (is_unlocked _ _ _ (vec_capacity c.self.inside.single) c.args.actor _ c.in-None.is c.self.invariant c.self.view_is kept).value_is
