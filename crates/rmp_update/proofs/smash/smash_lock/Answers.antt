use Rattle.snp_model.specs.Entries.{facts_at}
use Rattle.rmp_update.proofs.LockLaws.{page_held}
use Rattle.rmp_update.proofs.smash.smash_lock.Goals as goal

pub returns-in-Ok-clause-held : goal.returns-in-Ok-clause-held
returns-in-Ok-clause-held c = λ ok. page_held (facts_at c.args.rmp.now 0).size c.args.rmp.now c.lock.new.self c.args.actor (c.in-Ok.ensures.locked ok)
