use Rattle.std.proofs.Common.{arith}
use Rattle.aes_block.proofs.RoundLaws.{first_state_is}
use Rattle.aes_block.proofs.rounds.first_state.Goals as goal

pub returns : goal.returns
returns c =
    first_state_is _ _ _ _ _ _ (omega arith) c.word_of.ensures c.word_of-2.ensures c.word_of-3.ensures c.word_of-4.ensures
