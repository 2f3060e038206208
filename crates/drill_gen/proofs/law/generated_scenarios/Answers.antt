use Rattle.drill_gen.proofs.DrawnShort.{drawn_short}
use Rattle.drill_gen.proofs.DrawnValid.{drawn_read, drawn_valid}
use Rattle.drill_gen.proofs.GeneratedSound.{generated_sound}
use Rattle.drill_gen.proofs.law.generated_scenarios.Goals as goal

pub returns-clause-valid : goal.returns-clause-valid
returns-clause-valid c = drawn_valid

pub returns-clause-sound : goal.returns-clause-sound
returns-clause-sound c = generated_sound

pub returns-clause-short : goal.returns-clause-short
returns-clause-short c = drawn_short

pub returns-clause-again : goal.returns-clause-again
returns-clause-again c = drawn_read
