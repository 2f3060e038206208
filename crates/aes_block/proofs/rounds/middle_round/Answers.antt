use Rattle.std.proofs.Common.{arith}
use Rattle.aes_block.proofs.RoundLaws.{middle_round_is}
use Rattle.aes_block.proofs.rounds.middle_round.Goals as goal

pub returns : goal.returns
returns c =
    middle_round_is c.args.state c.args.schedule.now c.args.round _ _ _ _ _ _ _ _ (omega arith) (omega arith)
    c.to_be_bytes-first.ensures c.to_be_bytes-second.ensures c.to_be_bytes-third.ensures c.to_be_bytes-fourth.ensures
    c.mixed_column.ensures c.mixed_column-2.ensures c.mixed_column-3.ensures c.mixed_column-4.ensures
