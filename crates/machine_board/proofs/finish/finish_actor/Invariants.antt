-- events were added, no other actor became unfinished, and each event leaves less room
use Rattle.std.proofs.Common.{◌≡◌, ℕ, ◌-◌, ◌*◌, length}
use Rattle.machine_board.specs.Boards.{GoesOn, board_state}
use Rattle.snp_model.specs.Attempts.{attempts_of}
use Rattle.snp_model.specs.State.{IsUnfinished}
use Rattle.machine_board.proofs.finish.finish_actor.Given as goal

abbrev pub invariant-events : goal.invariant-events
invariant-events l = record {
  scenario : l.board.scenario ≡ l.initial.board.scenario;
  list : GoesOn l.initial.board.list l.board.list;
  others : (other : ℕ) → IsUnfinished (board_state l.board) other → IsUnfinished (board_state l.initial.board) other;
}

abbrev pub decreases-events : goal.decreases-events
decreases-events l = 32 * attempts_of l.board.scenario - length l.board.list
