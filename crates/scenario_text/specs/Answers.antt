-- What a scenario text says, and what its reader answers.
use Rattle.std.specs.Prelude.{ℕ, List, Result, Ok, Err}
use Rattle.snp_model.specs.declared.scenario.Scenario.{Scenario}
use Rattle.snp_model.specs.Reading.{Reads, Refuses, Passes, Valid}
use Rattle.scenario_text.specs.declared.fault.ScenarioFault.{ScenarioFault}
use Rattle.scenario_text.specs.declared.fault.ScenarioFault.TheVariants.{Refused, Limit, Memory}

-- the text says this scenario, or this is the first thing that is wrong with it; want of memory is free
abbrev pub Answers : Result Scenario ScenarioFault → List ℕ → Type 0
Answers (Ok scenario) text = Reads text scenario × Valid scenario
Answers (Err (Refused line reason)) text = Refuses text line reason
Answers (Err (Limit quantity count)) text = Passes text quantity count
Answers (Err (Memory error)) text = Unit {0}
