-- How far a fleet of boards under a lock has come. This project's own.
use Rattle.std.specs.Prelude.{Option, None, Some}
use Rattle.snp_model.specs.declared.scenario.Scenario.{Scenario}
use Rattle.snp_top.specs.declared.locked_fleet.Stage.{Stage}
use Rattle.snp_top.specs.declared.locked_fleet.Stage.TheVariants.{New, Built, Done}
use Rattle.snp_top.specs.Fleets.{Kept}

-- the scenario of the last build
abbrev pub opening_of : Stage → Option Scenario
opening_of New = None
opening_of (Built alloc spare) = Some spare.scenario
opening_of (Done opening ended) = Some opening

-- the run that is kept
abbrev pub kept_of : Stage → Option Kept
kept_of New = None
kept_of (Built alloc spare) = None
kept_of (Done opening ended) = Some (record { guests = ended.guests.items; list = ended.journal.list })

-- something was built, and isn't ended yet
abbrev pub IsUnderWay : Stage → Type 0
IsUnderWay New = ⊥
IsUnderWay (Built alloc spare) = Unit {0}
IsUnderWay (Done opening ended) = ⊥
