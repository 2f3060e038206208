-- the passes so far, one for each number
use Rattle.std.proofs.Common.{◌≡◌, ℕ, ◌≤◌, ◌<◌, ◌+◌, length, slice_index_or, vec_capacity}
use Rattle.machine_board.specs.declared.locked.BoardPass.{BoardPass}
use Rattle.snp_top.proofs.locked_fleet.make_passes.Given as goal

abbrev pub invariant-passes : goal.invariant-passes
invariant-passes l = record {
  counted : length l.passes.items ≡ l.k;
  actors : (k : ℕ) (d : BoardPass) → k < l.k → (slice_index_or l.passes.items k d).actor ≡ k + 1;
  room : l.count ≤ vec_capacity l.passes;
}
