use Rattle.growing_runs.proofs.GrownSound.{sound_with, spelled_with}
use Rattle.growing_runs.proofs.law.grown_scenarios.Goals as goal

pub returns-clause-sound : goal.returns-clause-sound
returns-clause-sound c = sound_with

pub returns-clause-spelled : goal.returns-clause-spelled
returns-clause-spelled c = spelled_with
