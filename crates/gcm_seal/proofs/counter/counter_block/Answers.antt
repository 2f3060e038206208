use Rattle.std.proofs.Common.{arith, ◌∙◌}
use Rattle.gcm_seal.proofs.Blocks.{counter_block_is}
use Rattle.gcm_seal.proofs.counter.counter_block.Goals as goal

pub returns : goal.returns
returns c = counter_block_is c.args.iv.now c.copy_from_slice.new.self c.copy_from_slice-2.new.self c.args.count (omega arith) c.copy_from_slice.ensures.after (c.copy_from_slice-2.ensures.after ∙ c.to_be_bytes.ensures)
