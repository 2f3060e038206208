use Rattle.std.proofs.Common.{arith}
use Rattle.aes_block.proofs.RoundLaws.{last_round_is}
use Rattle.aes_block.proofs.rounds.last_round.Goals as goal

pub returns : goal.returns
returns c =
    last_round_is c.args.state c.args.schedule.now _ _ _ _ _ _ _ _ (omega arith)
    c.to_be_bytes-first.ensures c.to_be_bytes-second.ensures c.to_be_bytes-third.ensures c.to_be_bytes-fourth.ensures
    c.substituted_column.ensures c.substituted_column-2.ensures c.substituted_column-3.ensures c.substituted_column-4.ensures
