use Rattle.std.proofs.Common.{ap, ◌∙◌}
use Rattle.snp_model.specs.Entries.{without_locks}
use Rattle.snp_model.proofs.EntriesLaws.{same_facts, same_holders}
use Rattle.rmp_update.proofs.CommitLaws.{pages_are}
use Rattle.rmp_update.proofs.RowLaws.{range_is}
use Rattle.rmp_update.proofs.commit.update_commit.Goals as goal

pub change_words-requires : goal.change_words-requires
change_words-requires c = (range_is c.args.rmp.now c.args.update.now c.args.actor c.requires.accepted c.requires.held c.requires.tested).inside

pub change_entries-requires : goal.change_entries-requires
change_entries-requires c = range_is c.args.rmp.now c.args.update.now c.args.actor c.requires.accepted c.requires.held c.requires.tested

pub returns-clause-pages : goal.returns-clause-pages
returns-clause-pages c =
    pages_are c.args.rmp.now c.unlock.new.self c.args.update.now _ c.args.memory.now c.change_words.new.memory c.change_words.ensures
    (same_facts c.unlock.new.self c.change_entries.new.rmp c.unlock.ensures.facts ∙ c.change_entries.ensures.facts)

pub returns-clause-locks : goal.returns-clause-locks
returns-clause-locks c =
    c.unlock.ensures.released ∙ ap (without_locks c.args.actor) (same_holders c.change_entries.new.rmp c.args.rmp.now c.change_entries.ensures.locks)
