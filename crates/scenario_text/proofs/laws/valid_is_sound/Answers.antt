use Rattle.snp_model.proofs.SoundLaws as sound
use Rattle.scenario_text.proofs.laws.valid_is_sound.Goals as goal

pub returns : goal.returns
returns c = sound.valid_is_sound
