use Rattle.std.proofs.Common.{arith}
use Rattle.aes_block.proofs.Entries.{mixed_column_is}
use Rattle.aes_block.proofs.columns.mixed_column.Goals as goal

pub returns : goal.returns
returns c =
    mixed_column_is c.args.a c.args.b c.args.c c.args.d c.args.key (omega arith) (omega arith) (omega arith) (omega arith)
