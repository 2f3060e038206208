-- no guest so far
use Rattle.std.proofs.Common.{◌≡◌, ◌+◌, drop}
use Rattle.snp_model.specs.FirmwareLocks.{is_of_another}
use Rattle.fw_launch.proofs.context.is_of_another.Given as goal

abbrev pub invariant-loop-place : goal.invariant-loop-place
invariant-loop-place l = is_of_another (l.place + 1) (drop l.place l.guests) l.guest l.asid ≡ is_of_another 1 l.guests l.guest l.asid
