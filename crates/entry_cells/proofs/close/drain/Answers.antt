use Rattle.std.proofs.Common.{arith}
use Rattle.entry_cells.proofs.EntryLaws.{in_range}
use Rattle.entry_cells.proofs.ComingLaws.{closes}
use Rattle.entry_cells.proofs.PassLaws.{laid_cells, laid_journal, closed_opening, closed_legal, closed_values, closed_passes}
use Rattle.entry_cells.proofs.close.drain.Goals as goal

pub unload-requires-clause-cells : goal.unload-requires-clause-cells
unload-requires-clause-cells g c = let d = closes g.T.Kept.legal g.T.Kept.stands g.T.Kept.touches g.J.Journal.opening g.J.Journal.list c.args.table.shared.key.cells c.args.table.shared.key.actors (g.J.Journal.opening c.args.table.shared.key.journal.value) _ _ _ _ c.requires.seat.live c.requires.idle c.requires.all c.close_with-closed.ensures.values.2 in laid_cells g.T.Kept.legal g.T.Kept.stands g.T.Kept.touches g.J.Journal.opening g.J.Journal.list c.args.table.shared.key.cells (g.J.Journal.opening c.args.table.shared.key.journal.value) d.log _ _ c.requires.cells d.laid

pub unload-requires-clause-journal : goal.unload-requires-clause-journal
unload-requires-clause-journal g c = let d = closes g.T.Kept.legal g.T.Kept.stands g.T.Kept.touches g.J.Journal.opening g.J.Journal.list c.args.table.shared.key.cells c.args.table.shared.key.actors (g.J.Journal.opening c.args.table.shared.key.journal.value) _ _ _ _ c.requires.seat.live c.requires.idle c.requires.all c.close_with-closed.ensures.values.2 in laid_journal g.T.Kept.legal g.T.Kept.stands g.T.Kept.touches g.J.Journal.opening g.J.Journal.list c.args.table.shared.key.cells (g.J.Journal.opening c.args.table.shared.key.journal.value) d.log _ _ c.requires.cells d.laid

pub returns-clause-opening : goal.returns-clause-opening
returns-clause-opening g c = let d = closes g.T.Kept.legal g.T.Kept.stands g.T.Kept.touches g.J.Journal.opening g.J.Journal.list c.args.table.shared.key.cells c.args.table.shared.key.actors (g.J.Journal.opening c.args.table.shared.key.journal.value) _ _ _ _ c.requires.seat.live c.requires.idle c.requires.all c.close_with-closed.ensures.values.2 in closed_opening g.T.Kept.legal g.T.Kept.stands g.T.Kept.touches g.J.Journal.opening g.J.Journal.list c.args.table.shared.key.cells (g.J.Journal.opening c.args.table.shared.key.journal.value) _ _ d _ c.requires.cells _ c.unload.ensures.journal

pub returns-clause-legal : goal.returns-clause-legal
returns-clause-legal g c = let d = closes g.T.Kept.legal g.T.Kept.stands g.T.Kept.touches g.J.Journal.opening g.J.Journal.list c.args.table.shared.key.cells c.args.table.shared.key.actors (g.J.Journal.opening c.args.table.shared.key.journal.value) _ _ _ _ c.requires.seat.live c.requires.idle c.requires.all c.close_with-closed.ensures.values.2 in closed_legal g.T.Kept.legal g.T.Kept.stands g.T.Kept.touches g.J.Journal.opening g.J.Journal.list c.args.table.shared.key.cells (g.J.Journal.opening c.args.table.shared.key.journal.value) _ _ d _ c.requires.cells _ c.unload.ensures.journal

pub returns-clause-values : goal.returns-clause-values
returns-clause-values g c = let d = closes g.T.Kept.legal g.T.Kept.stands g.T.Kept.touches g.J.Journal.opening g.J.Journal.list c.args.table.shared.key.cells c.args.table.shared.key.actors (g.J.Journal.opening c.args.table.shared.key.journal.value) _ _ _ _ c.requires.seat.live c.requires.idle c.requires.all c.close_with-closed.ensures.values.2 in λ k x e. closed_values g.T.Kept.legal g.T.Kept.stands g.T.Kept.touches g.J.Journal.opening g.J.Journal.list c.args.table.shared.key.cells (g.J.Journal.opening c.args.table.shared.key.journal.value) _ _ d _ c.requires.cells _ c.unload.ensures.journal k x (omega (arith, in_range _ k x e, c.unload.ensures.count)) (c.unload.ensures.values k x e)

pub returns-clause-passes : goal.returns-clause-passes
returns-clause-passes g c = let d = closes g.T.Kept.legal g.T.Kept.stands g.T.Kept.touches g.J.Journal.opening g.J.Journal.list c.args.table.shared.key.cells c.args.table.shared.key.actors (g.J.Journal.opening c.args.table.shared.key.journal.value) _ _ _ _ c.requires.seat.live c.requires.idle c.requires.all c.close_with-closed.ensures.values.2 in closed_passes g.T.Kept.legal g.T.Kept.stands g.T.Kept.touches g.J.Journal.opening g.J.Journal.list c.args.table.shared.key.cells (g.J.Journal.opening c.args.table.shared.key.journal.value) _ _ d _ c.requires.cells _ c.unload.ensures.journal
