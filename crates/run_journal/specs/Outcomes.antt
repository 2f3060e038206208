-- What became of the events of a journal.
use Rattle.std.specs.Prelude.{ℕ, List, map, Option}
use Rattle.snp_model.specs.declared.event.Event.{Event}
use Rattle.snp_model.specs.declared.event.Outcome.{Outcome}

-- the outcomes of these events, or none for those that ended no attempt
unfoldable pub outcomes_of : List (ℕ × Event) → List (Option Outcome)
outcomes_of entries = map (λ entry. entry.1.outcome) entries
