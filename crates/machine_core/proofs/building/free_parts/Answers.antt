use Rattle.std.proofs.Common.{List, ap, ◌∙◌}
use Rattle.machine_core.specs.declared.bay.Bay.{Bay}
use Rattle.machine_core.specs.Bays.{facts_of, locks_of, own_bays, own_stock, words_of}
use Rattle.machine_core.proofs.OpeningLaws.{free_facts, free_locks, free_words}
use Rattle.machine_core.proofs.building.free_parts.Goals as goal

pub returns-clause-facts : goal.returns-clause-facts
returns-clause-facts c = ap (λ (bays : List Bay). facts_of (own_bays bays)) c.in_ok-free_bays.ensures ∙ free_facts c.args.regions

pub returns-clause-words : goal.returns-clause-words
returns-clause-words c = ap (λ (bays : List Bay). words_of (own_bays bays)) c.in_ok-free_bays.ensures ∙ free_words c.args.regions

pub returns-clause-locks : goal.returns-clause-locks
returns-clause-locks c = (λ i. locks_of (own_stock (c.in_ok-free_bays.ensures i) (c.in_ok-first_contexts.ensures i))) ∙ free_locks c.args.regions c.args.guests.now
