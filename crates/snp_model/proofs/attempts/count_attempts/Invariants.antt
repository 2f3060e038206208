-- the attempts so far and those that are left
use Rattle.std.proofs.Common.{◌≡◌, ◌+◌, drop}
use Rattle.snp_model.specs.Attempts.{actors_attempts}
use Rattle.snp_model.proofs.attempts.count_attempts.Given as goal

abbrev pub invariant-actors : goal.invariant-actors
invariant-actors l = l.count + actors_attempts (drop l.actor-index l.actors) ≡ actors_attempts l.actors
