use Rattle.std.proofs.Common.{ℕ, sym, ap, ◌∙◌, arith}
use Rattle.snp_model.specs.declared.entry.RmpEntry.{RmpEntry}
use Rattle.snp_model.specs.Entries.{facts_at}
use Rattle.rmp_update.proofs.RowLaws.{some_frame_is, some_frame_none}
use Rattle.rmp_update.proofs.update.any_assigned.Goals as goal

pub returns-then-effective : goal.returns-then-effective
returns-then-effective c =
    some_frame_is (λ (k : ℕ). (facts_at c.args.rmp.now k).assigned) c.slots.slot (omega arith) (ap (λ (e : RmpEntry). e.assigned) (sym c.effective.ensures) ∙ c.if-effective.true)

pub returns : goal.returns
returns c = some_frame_none (λ (k : ℕ). (facts_at c.args.rmp.now k).assigned) (λ k low. c.slots.invariant k (omega arith))
