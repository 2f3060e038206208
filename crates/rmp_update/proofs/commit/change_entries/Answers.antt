use Rattle.std.proofs.Common.{sym, ap, ◌∙◌}
use Rattle.snp_model.specs.RmpUpdate.{makes_immutable}
use Rattle.rmp_update.proofs.CommitLaws.{assigned_range, free_facts, immutable_facts}
use Rattle.rmp_update.proofs.commit.change_entries.Goals as goal

pub returns-then-makes_immutable-clause-facts : goal.returns-then-makes_immutable-clause-facts
returns-then-makes_immutable-clause-facts c =
    c.write_page.ensures.written
    ∙ immutable_facts c.args.rmp.now c.args.update.now c.args.slot c.effective-first.result _ c.whole.ensures c.requires c.effective-first.ensures (c.makes_immutable.ensures.size c.if-makes_immutable.true)
    (sym c.makes_immutable.ensures.test ∙ c.if-makes_immutable.true) c.immutable.ensures

pub returns-then-not-update-clause-facts : goal.returns-then-not-update-clause-facts
returns-then-not-update-clause-facts c =
    let other = ap (makes_immutable c.args.update.now) (sym c.effective-first.ensures) ∙ sym c.makes_immutable.ensures.test ∙ c.if-makes_immutable.false in
    c.free_range.ensures.facts ∙ free_facts c.args.rmp.now c.args.update.now c.args.slot other c.if-not-update.true

pub returns-clause-facts : goal.returns-clause-facts
returns-clause-facts c =
    let other = ap (makes_immutable c.args.update.now) (sym c.effective-first.ensures) ∙ sym c.makes_immutable.ensures.test ∙ c.if-makes_immutable.false in
    c.write_entry.ensures.written ∙ assigned_range c.args.rmp.now c.args.update.now c.args.slot _ other c.if-not-update.false c.assigned.ensures.entry c.assigned.ensures.size
