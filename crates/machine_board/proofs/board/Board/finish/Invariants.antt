-- events were added, and the actors so far are finished
use Rattle.std.proofs.Common.{◌≡◌, ℕ, ◌<◌}
use Rattle.machine_board.specs.Boards.{GoesOn, board_state}
use Rattle.snp_model.specs.State.{IsUnfinished}
use Rattle.machine_board.proofs.board.Board.finish.Given as goal

abbrev pub invariant-actors : goal.invariant-actors
invariant-actors l = record {
  scenario : l.self.scenario ≡ l.initial.self.scenario;
  list : GoesOn l.initial.self.list l.self.list;
  finished : (other : ℕ) → other < l.actor → IsUnfinished (board_state l.self) other → ⊥;
}
