use Rattle.std.proofs.Common.{rules, arith, refl, subst, sym, ◌∙◌}
use Rattle.atomic_table.specs.Table.{opening}
use Rattle.entry_cells.specs.Views.{opener}
use Rattle.entry_cells.specs.Rule.{Sound}
use Rattle.entry_cells.proofs.ComingLaws.{starts}
use Rattle.entry_cells.proofs.PassLaws.{row_length, row_laid}
use Rattle.entry_cells.proofs.table.Cells.at_home.Goals as goal

pub new-requires : goal.new-requires
new-requires g c = let n = c.len-count.result in let j = c.args.journal in let ws = c.as_slice.result.now in let xs = c.in_ok-slots.slots.items in
    subst (λ v. Sound g.T.Kept.legal g.T.Kept.stands g.T.Kept.touches g.J.Journal.opening g.J.Journal.list n c.args.actors (g.J.Journal.opening v) (opening ws xs (opener (g.J.Journal.opening v) (g.J.Journal.list v) n c.args.actors))) (sym c.of.ensures)
    (starts g.T.Kept.legal g.T.Kept.stands g.T.Kept.touches g.J.Journal.opening g.J.Journal.list n c.args.actors (g.J.Journal.opening j) ws xs (g.J.Journal.list j)
    (c.as_slice.ensures.value ∙ c.in_ok-words.ensures.items_if_clones_equal (search rules)) (row_length c.args.homes.items j xs n c.in_ok-slots.ensures (omega (arith, c.len-count.ensures, c.args.homes.ok.0)))
    c.requires.empty c.requires.legal c.requires.actors
    (row_laid g.T.Kept.legal g.T.Kept.stands g.T.Kept.touches g.J.Journal.opening g.J.Journal.list n (g.J.Journal.opening j) c.args.homes.items j xs c.in_ok-slots.ensures (omega (arith, c.len-count.ensures, c.args.homes.ok.0)) refl c.requires.empty c.requires.homes))
