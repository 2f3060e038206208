use Rattle.std.proofs.Common.{rules, false, set, ap, sym, ◌∙◌}
use Rattle.entry_cells.specs.Counting.{named, named_untouched}
use Rattle.entry_cells.proofs.CountingLaws.{still_held, held_as_before, adds_one, inside_one}
use Rattle.entry_cells.proofs.tally.add_held.Goals as goal

pub give_journal-requires-clause-adds : goal.give_journal-requires-clause-adds
give_journal-requires-clause-adds c = adds_one c.enter-added.result c.args.cells.now.cells c.args.cells.now.opening c.args.taken.now.cell c.args.actor c.try_journal.new.pass.view _ (search rules) (search rules) (search rules)
    (still_held c.args.pass.now.view.held _ _ c.args.cells.now.cells (ap (λ v. v.held) c.in-Ok.ensures.taken) c.requires.exists.0 c.requires.pass.1)

pub enter-added-requires : goal.enter-added-requires
enter-added-requires c = let k = c.args.taken.now.cell in let grows = c.in-Ok.ensures.grows in
    named_untouched k c.args.cells.now.opening _ _ _ (grows.2 k c.requires.exists.0 c.requires.pass.1) c.requires.stands ∙ ap (named k) (sym (c.in-Ok.ensures.journal.1 ∙ grows.1))

pub give_journal-requires-clause-legal : goal.give_journal-requires-clause-legal
give_journal-requires-clause-legal c = inside_one c.enter-added.result _ _ _ _ _ c.enter-added.ensures.added c.enter-added.ensures.same c.requires.exists.1 (search rules)

pub returns-clause-pass : goal.returns-clause-pass
returns-clause-pass c = let only = c.requires.pass in let taken = c.in-Ok.ensures.taken in let given = c.give_journal.ensures.given in
    let held = held_as_before _ _ c.args.taken.now.cell c.args.cells.now.cells (ap (λ p. p.view.held) given ∙ ap (λ v. set v.held c.args.cells.now.cells false) taken) c.requires.exists.0 only.1 only.2 in (
      (ap (λ p. p.table) given ∙ c.try_journal.ensures.table ∙ only.0.0, ap (λ p. p.view.opening) given ∙ ap (λ v. v.opening) taken ∙ only.0.1, ap (λ p. p.view.actors) given ∙ ap (λ v. v.actors) taken ∙ only.0.2),
      held.0,
      held.1,
      ap (λ p. p.view.actor) given ∙ ap (λ v. v.actor) taken ∙ only.3,
    )
