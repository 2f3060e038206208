use Rattle.std.proofs.Common.{List, ℕ, sym, ap, ◌∙◌, arith}
use Rattle.snp_model.specs.declared.entry.RmpEntry.{RmpEntry}
use Rattle.snp_model.specs.RegionWords.{page_at}
use Rattle.rmp_update.proofs.CommitLaws.{filled}
use Rattle.rmp_update.proofs.commit.clear_page.Goals as goal

pub returns-then-effective-clause-here : goal.returns-then-effective-clause-here
returns-then-effective-clause-here c =
    ap (λ (pages : List (List ℕ)). page_at pages c.args.page) c.page_fill.ensures
    ∙ filled c.args.memory.now c.args.page _ (omega (arith, c.whole.ensures.pages_count)) (ap (λ (e : RmpEntry). e.assigned) (sym c.effective.ensures) ∙ c.if-effective.true)
