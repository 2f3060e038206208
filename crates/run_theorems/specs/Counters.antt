-- The counters under which pages are sealed, and what was sealed under each. This project's own.
use Rattle.std.specs.Prelude.{◌≡◌, ℕ, ◌<◌, Some}
use Rattle.snp_model.specs.Live.{Archived, Archive}
use Rattle.snp_model.specs.State.{State}

-- the counter of a guest: the one that its next sealing takes
abbrev pub counter_of : State → ℕ → ℕ
counter_of m guest = (m.contents.contexts guest).iv

-- every counter under which something was sealed is below that of its guest
abbrev pub AreBelow : (ℕ → Archive) → (ℕ → ℕ) → Type 0
AreBelow archive counters = (guest counter : ℕ) (sealed : Archived) → archive guest counter ≡ Some sealed → counter < counters guest

-- what was sealed under a counter is so still
abbrev pub AllStay : (ℕ → Archive) → (ℕ → Archive) → Type 0
AllStay old new = (guest counter : ℕ) (sealed : Archived) → old guest counter ≡ Some sealed → new guest counter ≡ Some sealed
