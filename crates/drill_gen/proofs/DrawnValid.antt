-- The scenario of each number is one that a text can say, and its own text is read again as it.
use Rattle.std.specs.Prelude.{ℕ}
use Rattle.snp_model.specs.Generated.{generated}
use Rattle.snp_model.specs.Reading.{Reads, Valid}
use Rattle.snp_model.specs.ScenarioText.{scenario_lines, scenario_text}
use Rattle.scenario_text.proofs.ScenarioAgain.{spelled_makes, spelled_reads}
use Rattle.drill_gen.proofs.DrawnShort.{drawn_short}
use Rattle.drill_gen.proofs.DrawnSpelled.{drawn_spelled}
use Rattle.drill_gen.proofs.GeneratedSound.{generated_sound}

pub drawn_valid : (number : ℕ) → Valid (generated number)
drawn_valid number = (scenario_lines (generated number), spelled_makes (generated number) (generated_sound number) (drawn_spelled number))

pub drawn_read : (number : ℕ) → Reads (scenario_text (generated number)) (generated number)
drawn_read number = spelled_reads (generated number) (generated_sound number) (drawn_spelled number) (drawn_short number)
