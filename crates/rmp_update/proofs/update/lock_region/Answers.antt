use Rattle.std.proofs.Common.{◌∙◌}
use Rattle.rmp_update.proofs.RowLaws.{not_holding, same_holder}
use Rattle.rmp_update.proofs.update.lock_region.Goals as goal

pub returns-in-Some-clause-another : goal.returns-in-Some-clause-another
returns-in-Some-clause-another c =
    λ holder same mine.
    not_holding c.args.rmp.now c.args.actor c.in-Some.holder c.requires c.in-Some.ensures.held (same_holder c.in-Some.holder holder same ∙ mine)
