use Rattle.std.proofs.Common.{ap, arith}
use Rattle.snp_model.specs.Entries.{Entries}
use Rattle.rmp_table.proofs.EntryLaws.{free_at, free_stored, freed}
use Rattle.rmp_table.proofs.table.RmpRegion.free_all.Goals as goal

pub invariant_of-self : goal.invariant_of-self
invariant_of-self c =
    free_stored _ c.self.inside.locks c.self.invariant.holders_count
    (freed _ _ _ (c.fill.ensures.items (λ y copied. copied)) c.free.ensures (omega (arith, c.self.inside.entries.ok.0, c.self.invariant.entries_count)))

pub returns-clause-facts : goal.returns-clause-facts
returns-clause-facts c =
    free_at c.fill.new.self.items
    (freed _ _ _ (c.fill.ensures.items (λ y copied. copied)) c.free.ensures (omega (arith, c.self.inside.entries.ok.0, c.self.invariant.entries_count)))

pub returns-clause-locks : goal.returns-clause-locks
returns-clause-locks c = ap (λ (v : Entries). v.holders) c.self.view_is
