use Rattle.std.proofs.Common.{sym, ap, ◌∙◌}
use Rattle.snp_model.specs.RmpUpdate.{makes_immutable}
use Rattle.rmp_update.proofs.CommitLaws.{words_cleared, words_kept}
use Rattle.rmp_update.proofs.commit.change_words.Goals as goal

pub returns-then-makes_immutable : goal.returns-then-makes_immutable
returns-then-makes_immutable c =
    words_kept c.args.rmp.now c.args.update.now c.args.slot c.args.memory.now (ap (makes_immutable c.args.update.now) (sym c.effective.ensures) ∙ sym c.makes_immutable.ensures.test ∙ c.if-makes_immutable.true)

pub returns : goal.returns
returns c =
    words_cleared c.args.rmp.now c.args.update.now c.args.slot _ c.args.memory.now _ (ap (makes_immutable c.args.update.now) (sym c.effective.ensures) ∙ sym c.makes_immutable.ensures.test ∙ c.if-makes_immutable.false)
    c.frames_in.ensures c.clear_pages.ensures
