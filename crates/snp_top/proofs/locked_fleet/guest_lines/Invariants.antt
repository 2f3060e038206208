-- the guests so far and those that are left
use Rattle.std.proofs.Common.{◌≡◌, ◌≤◌, ◌+◌, ◌++◌, drop, length, vec_capacity}
use Rattle.machine_board.specs.Boards.{board_state}
use Rattle.snp_model.specs.Ending.{lines_from, lines_of}
use Rattle.snp_top.proofs.locked_fleet.guest_lines.Given as goal

abbrev pub invariant-guests : goal.invariant-guests
invariant-guests l = record {
  lines : l.guests.items ++ lines_from (board_state l.board).contents.contexts (l.k + 1) (drop l.k (board_state l.board).guests) ≡ lines_of (board_state l.board);
  counted : length l.guests.items ≡ l.k;
  room : length (board_state l.board).guests ≤ vec_capacity l.guests;
}
