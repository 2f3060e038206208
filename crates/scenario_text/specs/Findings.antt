-- The one thing that can be said of a scenario text. This project's own.
use Rattle.std.specs.Prelude.{◌≡◌, ℕ, List}
use Rattle.snp_model.specs.declared.scenario.Scenario.{Scenario}
use Rattle.snp_model.specs.declared.reading.Reason.{Reason}
use Rattle.snp_model.specs.declared.reading.Quantity.{Quantity}
use Rattle.snp_model.specs.Reading.{Reads, Refuses, Passes}

-- what can be said of a text
pub data Finding : Type 0 where
  says : Scenario → Finding
  wrong : ℕ → Reason → Finding
  too_much : Quantity → ℕ → Finding

abbrev pub Finds : List ℕ → Finding → Type 0
Finds text (says scenario) = Reads text scenario
Finds text (wrong line reason) = Refuses text line reason
Finds text (too_much quantity count) = Passes text quantity count

-- of each text one thing can be said, and no other
abbrev pub OneAnswer : Type 0
OneAnswer = (text : List ℕ) (one other : Finding) → Finds text one → Finds text other → one ≡ other

abbrev pub SomeAnswer : Type 0
SomeAnswer = (text : List ℕ) → (one : Finding) × Finds text one
