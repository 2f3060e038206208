-- What contracts see of a journal. This project's own.
use Rattle.std.specs.Prelude.{ℕ, List, map}
use Rattle.snp_model.specs.declared.event.Event.{Event}

-- the actors and their events, the oldest first, and how many there may be
pub record JournalImage : Type 0 where
  pub list : List (ℕ × Event)
  pub room : ℕ

-- whose events these are
unfoldable pub actors_of : List (ℕ × Event) → List ℕ
actors_of entries = map (λ entry. entry.0) entries
