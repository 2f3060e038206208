-- What an audit of a run's own report asks of the run. This project's own.
use Rattle.std.specs.Prelude.{◌≡◌, ℕ, true, List}
use Rattle.snp_model.specs.declared.scenario.Scenario.{Scenario}
use Rattle.snp_model.specs.Premises.{IsDisciplined, NoChanceTag}
use Rattle.snp_model.specs.ScenarioLines.{is_opened}

-- each guest that the scenario opens is disciplined, and no ciphertext meets the tag of another where a page is opened for it
abbrev pub MeetPremises : Scenario → List ℕ → Type 0
MeetPremises scenario schedule = (guest : ℕ) → is_opened scenario.guests guest ≡ true → IsDisciplined scenario schedule guest × NoChanceTag scenario schedule guest
