use Rattle.std.proofs.Common.{subst}
use Rattle.snp_model.specs.Entries.{Entries, IsTable}
use Rattle.rmp_table.proofs.EntryLaws.{table_is}
use Rattle.rmp_table.proofs.table.RmpRegion.whole.Goals as goal

pub returns : goal.returns
returns c =
    let P : Entries → Type 0 = λ rmp. IsTable rmp in subst P c.self.view_is (table_is _ _ _ c.self.invariant)
