-- The second premise, read by all that a run has sealed in place of what it had sealed before each event. This project's own.
use Rattle.std.specs.Prelude.{ℕ, List, [], ◌∷◌, ◌++◌}
use Rattle.snp_model.specs.declared.scenario.Scenario.{Scenario}
use Rattle.snp_model.specs.Opening.{opening}
use Rattle.snp_model.specs.Past.{Past, past_of}
use Rattle.snp_model.specs.Premises.{NoChanceStep}
use Rattle.snp_model.specs.State.{State}
use Rattle.snp_model.specs.Step.{after}

-- what each event of a schedule opens for a guest, from a state on, is the ciphertext that this past has under the counter of the entry or root
unfoldable pub NoChanceIn : ℕ → State → Past → List ℕ → Type 0
NoChanceIn guest m past [] = Unit {0}
NoChanceIn guest m past (actor ∷ actors) = NoChanceStep guest m actor past × NoChanceIn guest (after m actor) past actors

-- so each event of a schedule, by all that is sealed in it and in a schedule that follows
abbrev pub NoChanceTagInAll : Scenario → List ℕ → List ℕ → ℕ → Type 0
NoChanceTagInAll scenario schedule later guest = NoChanceIn guest (opening scenario) (past_of scenario (schedule ++ later)) schedule
