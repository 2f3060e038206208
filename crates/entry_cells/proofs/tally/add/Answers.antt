use Rattle.std.proofs.Common.{◌≡◌, true, ap, sym, subst, ◌∙◌, ⊎_elim}
use mathlib.Core.Option.{some}
use lib.ListN.{get_elem?}
use Rattle.entry_cells.specs.Views.{Holds}
use Rattle.entry_cells.proofs.CountingLaws.{held_more, held_less}
use Rattle.entry_cells.proofs.tally.add.Goals as goal

pub add_held-added-requires-clause-pass : goal.add_held-added-requires-clause-pass
add_held-added-requires-clause-pass c = let free = c.requires.pass in let taken = c.in-Ok.ensures.taken in let held = ap (λ v. v.held) taken.1 in (
  (c.try_take.ensures.table ∙ free.0.0, ap (λ v. v.opening) taken.1 ∙ free.0.1, ap (λ v. v.actors) taken.1 ∙ free.0.2),
  subst (λ k. Holds c.try_take.new.pass.view k) (sym taken.0) c.in-Ok.ensures.holds,
  λ j h. ⊎_elim (λ is. is ∙ sym taken.0) (λ t. absurd (free.1 j t)) (held_more _ c.args.cell j (subst (λ bs. get_elem? bs j ≡ some true) held h)),
  ap (λ v. v.actor) taken.1 ∙ free.2,
)

pub returns-clause-pass : goal.returns-clause-pass
returns-clause-pass c = let only = c.add_held-added.ensures.pass in let given = c.give.ensures.given in let cell = c.add_held-added.ensures.cell in (
  (ap (λ p. p.table) given ∙ only.0.0, ap (λ p. p.view.opening) given ∙ only.0.1, ap (λ p. p.view.actors) given ∙ only.0.2),
  λ j h. let less = held_less _ _ j (subst (λ bs. get_elem? bs j ≡ some true) (ap (λ p. p.view.held) given) h) in less.0 (only.2 j less.1 ∙ sym cell),
  ap (λ p. p.view.actor) given ∙ only.3,
)
