use Rattle.std.proofs.Common.{ap, ◌∙◌}
use Rattle.snp_model.specs.Entries.{without_locks}
use Rattle.snp_model.proofs.EntriesLaws.{same_facts, same_holders}
use Rattle.rmp_update.proofs.CommitLaws.{smashed_is}
use Rattle.rmp_update.proofs.RowLaws.{smash_large}
use Rattle.rmp_update.proofs.smash.smash_commit.Goals as goal

pub smash-requires : goal.smash-requires
smash-requires c = smash_large _ c.requires.tested

pub returns-clause-facts : goal.returns-clause-facts
returns-clause-facts c =
    same_facts c.unlock.new.self c.smash.new.self c.unlock.ensures.facts ∙ smashed_is c.args.rmp.now c.smash.new.self c.whole.ensures (smash_large _ c.requires.tested) c.smash.ensures.facts

pub returns-clause-locks : goal.returns-clause-locks
returns-clause-locks c =
    c.unlock.ensures.released ∙ ap (without_locks c.args.actor) (same_holders c.smash.new.self c.args.rmp.now c.smash.ensures.locks)
