use Rattle.std.proofs.Common.{arith}
use Rattle.aes_block.proofs.Entries.{s_box_at}
use Rattle.aes_block.proofs.columns.substituted.Goals as goal

pub returns : goal.returns
returns c = s_box_at c.args.byte (omega arith)
