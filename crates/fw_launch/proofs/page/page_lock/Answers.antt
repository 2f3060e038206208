use Rattle.std.proofs.Common.{refl, sym, ap, ◌∙◌, Some}
use Rattle.snp_model.specs.Entries.{facts_at, holder_at}
use Rattle.fw_launch.proofs.LockLaws.{free_taken, lock_holds}
use Rattle.fw_launch.proofs.page.page_lock.Goals as goal

pub returns-in-Err-clause-another : goal.returns-in-Err-clause-another
returns-in-Err-clause-another c = λ holder is same. c.requires.not_held (c.page_test.ensures.holder holder (c.in-Err.is ∙ is) ∙ ap Some same)

pub returns-in-Ok-clause-small : goal.returns-in-Ok-clause-small
returns-in-Ok-clause-small c = λ ok takes. c.page_test.ensures.small (rw c.in-Ok.is refl) takes

pub returns-in-Ok-clause-locked : goal.returns-in-Ok-clause-locked
returns-in-Ok-clause-locked c = λ ok. c.lock.ensures.locked (rw c.lock.ensures.answer (free_taken _ (c.page_test.ensures.free (rw c.in-Ok.is refl))))

pub returns-in-Ok-clause-held : goal.returns-in-Ok-clause-held
returns-in-Ok-clause-held c = λ ok.
    (λ i. c.lock.ensures.locked (rw c.lock.ensures.answer (free_taken _ (c.page_test.ensures.free (rw c.in-Ok.is refl)))) i c.args.slot)
    ∙ lock_holds (facts_at c.args.rmp.now c.args.slot).size c.args.slot c.args.actor (holder_at c.args.rmp.now)
