use Rattle.snp_model.specs.ScenarioText.{scenario_lines}
use Rattle.snp_model.proofs.SoundLaws as sound
use Rattle.scenario_text.proofs.ScenarioAgain.{spelled_makes}
use Rattle.scenario_text.proofs.ValidSpelled.{valid_spelled}
use Rattle.scenario_text.proofs.laws.valid_is_sound_and_spelled.Goals as goal

pub returns : goal.returns
returns c = λ scenario. (
  λ valid. (sound.valid_is_sound scenario valid, valid_spelled scenario valid),
  λ both. (scenario_lines scenario, spelled_makes scenario both.0 both.1),
)
