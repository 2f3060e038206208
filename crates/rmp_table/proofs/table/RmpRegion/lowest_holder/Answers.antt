use Rattle.std.proofs.Common.{ap, ◌∙◌}
use Rattle.snp_model.specs.Entries.{Entries, holder_at}
use Rattle.snp_model.specs.Locks.{range_holder}
use Rattle.rmp_table.proofs.EntryLaws.{lowest_held}
use Rattle.rmp_table.proofs.table.RmpRegion.lowest_holder.Goals as goal

pub returns-clause-held : goal.returns-clause-held
returns-clause-held c = lowest_held (holder_at c.args.self.now) _ (c.lowest.ensures ∙ ap (λ (v : Entries). range_holder (holder_at v) 0 512) c.self.view_is)
