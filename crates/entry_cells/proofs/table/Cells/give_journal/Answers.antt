use Rattle.std.proofs.Common.{subst, ap, ◌∙◌, ◌≡◌}
use Rattle.entry_cells.specs.Entries.{entries_of}
use Rattle.entry_cells.proofs.EntryLaws.{own_more}
use Rattle.entry_cells.proofs.table.Cells.give_journal.Goals as goal

pub returns-clause-mine : goal.returns-clause-mine
returns-clause-mine g c = let j = g.J.Journal.list c.args.journal in let is = ap (λ p. p.view) c.pass.view_is in λ es e.
    ap (λ m. m.0.mine) c.give_word.ensures.given ∙ ap (λ v. entries_of v.actor j) is ∙ own_more _ j _ _ es e (subst (λ v. entries_of v.actor v.seen ≡ v.mine) is c.pass.invariant.own)
