use Rattle.std.proofs.Common.{◌∙◌, ap}
use Rattle.snp_model.specs.FirmwareCommits.{given_back_facts}
use Rattle.snp_model.proofs.EntriesLaws.{page_changed}
use Rattle.fw_reclaim.proofs.ReclaimLaws.{given_back_of_page}
use Rattle.fw_reclaim.proofs.reclaim.give_back.Goals as goal

pub returns-clause-facts : goal.returns-clause-facts
unfolding given_back_facts
returns-clause-facts c =
    c.write_page.ensures.written
    ∙ page_changed c.args.rmp.now c.args.slot given_back_facts _ c.whole.ensures c.requires.slot_below given_back_of_page (ap given_back_facts c.requires.entry) c.requires.size
