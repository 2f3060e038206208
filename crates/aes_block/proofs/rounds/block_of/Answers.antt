use Rattle.aes_block.proofs.RoundLaws.{block_is}
use Rattle.aes_block.proofs.rounds.block_of.Goals as goal

pub returns : goal.returns
returns c =
    block_is c.args.state _ _ _ _ c.to_be_bytes.ensures c.to_be_bytes-2.ensures c.to_be_bytes-3.ensures c.to_be_bytes-4.ensures
