use Rattle.std.proofs.Common.{length, sym, ap, ◌∙◌}
use Rattle.rmp_table.proofs.LockLaws.{holders_count}
use Rattle.rmp_table.proofs.locks.Locks.whole.Goals as goal

pub returns : goal.returns
returns c = ap length (sym c.self.view_is) ∙ holders_count _ _
