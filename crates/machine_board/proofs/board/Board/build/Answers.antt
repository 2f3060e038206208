use Rattle.machine_core.specs.Machine.{state_of}
use Rattle.machine_board.proofs.BoardLaws.{board_opens}
use Rattle.machine_board.proofs.board.Board.build.Goals as goal

pub invariant_of-result : goal.invariant_of-result
invariant_of-result c =
    let m = state_of c.in_ok-machine.machine in
    let opens = board_opens c.args.scenario.now m c.attempts.result c.requires c.in_ok-machine.ensures c.attempts.ensures.count in
    rw (c.in_ok-copy.ensures, c.in_ok-journal.ensures) opens
