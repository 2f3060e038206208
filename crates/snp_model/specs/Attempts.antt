-- How many attempts a scenario's actors have at most (this project's own).
use Rattle.std.specs.Prelude.{ℕ, ◌+◌, List, [], ◌∷◌}
use Rattle.snp_model.specs.declared.item.Line.{Line}
use Rattle.snp_model.specs.declared.scenario.Actor.{Actor}
use Rattle.snp_model.specs.declared.scenario.Scenario.{Scenario}

-- of a script: each line once, and its retries
unfoldable pub script_attempts : List Line → ℕ
script_attempts [] = 0
script_attempts (line ∷ lines) = (1 + line.retries) + script_attempts lines

-- of several actors
unfoldable pub actors_attempts : List Actor → ℕ
actors_attempts [] = 0
actors_attempts (actor ∷ actors) = script_attempts actor.script + actors_attempts actors

-- of a scenario
unfoldable pub attempts_of : Scenario → ℕ
attempts_of scenario = actors_attempts scenario.actors
