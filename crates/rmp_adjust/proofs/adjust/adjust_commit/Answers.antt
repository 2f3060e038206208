use Rattle.std.proofs.Common.{ap, ◌∙◌}
use Rattle.snp_model.specs.Entries.{without_locks}
use Rattle.snp_model.proofs.EntriesLaws.{same_facts, same_holders}
use Rattle.rmp_adjust.proofs.AdjustLaws.{target_below}
use Rattle.rmp_adjust.proofs.adjust.adjust_commit.Goals as goal

pub adjust_page-requires-clause-target_below : goal.adjust_page-requires-clause-target_below
adjust_page-requires-clause-target_below c = target_below c.args.vmpl c.args.target c.args.mask c.requires.input

pub returns-clause-facts : goal.returns-clause-facts
returns-clause-facts c = same_facts c.unlock.new.self c.adjust_page.new.rmp c.unlock.ensures.facts ∙ c.adjust_page.ensures.facts

pub returns-clause-locks : goal.returns-clause-locks
returns-clause-locks c =
    c.unlock.ensures.released ∙ ap (without_locks c.args.actor) (same_holders c.adjust_page.new.rmp c.args.rmp.now c.adjust_page.ensures.locks)
