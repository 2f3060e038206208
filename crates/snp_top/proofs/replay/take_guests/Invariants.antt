-- the guests so far and those that are left
use Rattle.std.proofs.Common.{◌≡◌, ◌≤◌, ◌+◌, ◌++◌, drop, length, vec_capacity}
use Rattle.machine_core.specs.Machine.{state_of}
use Rattle.snp_model.specs.Ending.{lines_from, lines_of}
use Rattle.snp_top.proofs.replay.take_guests.Given as goal

abbrev pub invariant-guests : goal.invariant-guests
invariant-guests l = record {
  lines : l.guests.items ++ lines_from (state_of l.machine).contents.contexts (l.k + 1) (drop l.k (state_of l.machine).guests) ≡ lines_of (state_of l.machine);
  counted : length l.guests.items ≡ l.k;
  room : length (state_of l.machine).guests ≤ vec_capacity l.guests;
}
