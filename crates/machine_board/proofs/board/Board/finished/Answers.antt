use Rattle.std.proofs.Common.{◌<◌, ◌*◌, length, subst}
use Rattle.std.specs.Bool.{OnFalse}
use Rattle.machine_core.specs.Machine.{state_of}
use Rattle.machine_board.specs.Boards.{BoardImage}
use Rattle.machine_board.proofs.BoardLaws.{room_unfinished}
use Rattle.snp_model.specs.Attempts.{attempts_of}
use Rattle.machine_board.proofs.board.Board.finished.Goals as goal

pub returns-clause-room : goal.returns-clause-room
returns-clause-room c =
    let inside = c.self.inside in
    subst (λ (b : BoardImage). OnFalse c.finished.result (length b.list < 32 * attempts_of b.scenario)) c.self.view_is (room_unfinished inside.scenario (state_of inside.machine) inside.journal c.args.actor c.finished.result c.self.invariant c.finished.ensures.unfinished)
