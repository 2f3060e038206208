-- the copies so far
use Rattle.std.proofs.Common.{◌≡◌, ◌≤◌, length, take, vec_capacity}
use Rattle.snp_model.proofs.scenario.copy_actors.Given as goal

abbrev pub invariant-actors : goal.invariant-actors
invariant-actors l = record { copied : l.copies.items ≡ take l.actor-index l.actors; room : length l.actors ≤ vec_capacity l.copies }
