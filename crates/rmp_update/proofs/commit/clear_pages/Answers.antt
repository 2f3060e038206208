use Rattle.std.proofs.Common.{◌≡◌, ◌-◌, ℕ, sym, subst, arith}
use Rattle.rmp_update.specs.Regions.{AreCleared}
use Rattle.rmp_update.proofs.CommitLaws.{none_cleared, one_more_cleared}
use Rattle.rmp_update.proofs.commit.clear_pages.Goals as goal

pub pages-init : goal.pages-init
pages-init c =
    let none : c.args.first - c.args.first ≡ 0 = omega arith in
    let P : ℕ → Type 0 = λ n. AreCleared c.args.rmp.now c.args.first n c.args.memory.now c.args.memory.now in
    subst P (sym none) (none_cleared c.args.rmp.now c.args.first c.args.memory.now)

pub pages-preserved : goal.pages-preserved
pages-preserved c =
    one_more_cleared c.args.rmp.now c.args.first c.pages.page c.args.memory.now c.pages.memory _ (omega arith) c.pages.invariant c.clear_page.ensures.here c.clear_page.ensures.there

pub returns : goal.returns
returns c =
    let all : c.pages.page - c.args.first ≡ c.args.count = omega arith in
    let P : ℕ → Type 0 = λ n. AreCleared c.args.rmp.now c.args.first n c.args.memory.now c.pages.memory in
    subst P all c.pages.invariant
