use Rattle.std.proofs.Common.{Ok, Err, refl, sym, ◌∙◌}
use Rattle.fw_launch.proofs.LockLaws.{free_taken}
use Rattle.machine_core.proofs.NamedLaws.{entry_answers, words_answer}
use Rattle.machine_core.proofs.firmware.lock_slot.Goals as goal

pub returns-in-Err-clause-answer : goal.returns-in-Err-clause-answer
returns-in-Err-clause-answer c = entry_answers _ _ c.page_test.result c.in-Err.refusal c.in-Err.is c.page_test.ensures.answer

pub returns-in-Err-words_test-clause-answer : goal.returns-in-Err-words_test-clause-answer
returns-in-Err-words_test-clause-answer c =
    words_answer _ _ c.page_test.result (Err c.in-Err-words_test.refusal) _ c.in-Ok.is c.page_test.ensures.answer (sym c.in-Err-words_test.is ∙ c.words_test.ensures.answer)

pub returns-in-Ok-words_test-clause-answer : goal.returns-in-Ok-words_test-clause-answer
returns-in-Ok-words_test-clause-answer c =
    words_answer _ _ c.page_test.result (Ok tt) _ c.in-Ok.is c.page_test.ensures.answer (sym c.in-Ok-words_test.is ∙ c.words_test.ensures.answer)

pub returns-in-Ok-words_test-clause-locked : goal.returns-in-Ok-words_test-clause-locked
returns-in-Ok-words_test-clause-locked c = λ ok. c.lock.ensures.locked (rw c.lock.ensures.answer (free_taken _ (c.page_test.ensures.free (rw c.in-Ok.is refl))))
