use Rattle.run_laws.proofs.GuestMemoryLaws.{guests_are_legal}
use Rattle.run_laws.proofs.SealedLaws.{run_is_unique, run_listed, run_locked, run_one_place, run_passes, run_shaped, run_unique}
use Rattle.run_laws.proofs.uniqueness.uniqueness_laws.Goals as goal

pub returns-clause-single : goal.returns-clause-single
returns-clause-single c = λ scenario schedule guest meets. (run_unique scenario schedule guest meets).single

pub returns-clause-listed : goal.returns-clause-listed
returns-clause-listed c = run_listed

pub returns-clause-one_place : goal.returns-clause-one_place
returns-clause-one_place c = run_one_place

pub returns-clause-held : goal.returns-clause-held
returns-clause-held c = λ scenario schedule guest meets. (run_unique scenario schedule guest meets).held

pub returns-clause-known_words : goal.returns-clause-known_words
returns-clause-known_words c = λ scenario schedule guest meets. (run_unique scenario schedule guest meets).known_words

pub returns-clause-seals : goal.returns-clause-seals
returns-clause-seals c = λ scenario schedule guest meets. (run_unique scenario schedule guest meets).seals

pub returns-clause-locks : goal.returns-clause-locks
returns-clause-locks c = run_locked

pub returns-clause-made : goal.returns-clause-made
returns-clause-made c = λ scenario schedule guest meets. (run_unique scenario schedule guest meets).made

pub returns-clause-shapes : goal.returns-clause-shapes
returns-clause-shapes c = run_shaped

pub returns-clause-unique : goal.returns-clause-unique
returns-clause-unique c = run_is_unique

pub returns-clause-passes : goal.returns-clause-passes
returns-clause-passes c = run_passes

pub returns-clause-guest_memory_legal : goal.returns-clause-guest_memory_legal
returns-clause-guest_memory_legal c = guests_are_legal
