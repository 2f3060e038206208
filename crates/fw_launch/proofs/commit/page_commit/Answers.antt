use Rattle.std.proofs.Common.{ap, ◌∙◌}
use Rattle.snp_model.specs.Entries.{without_locks}
use Rattle.snp_model.proofs.EntriesLaws.{same_holders}
use Rattle.fw_launch.proofs.commit.page_commit.Goals as goal

pub returns-clause-locks : goal.returns-clause-locks
returns-clause-locks c =
    c.unlock.ensures.released ∙ ap (without_locks c.args.actor) (same_holders c.change_page.new.rmp c.args.rmp.now c.change_page.ensures.locks)
