use Rattle.std.proofs.Common.{arith}
use Rattle.snp_top.proofs.Pieces.{read_front}
use Rattle.snp_top.proofs.input.read_piece.Goals as goal

pub returns-clause-bytes : goal.returns-clause-bytes
returns-clause-bytes g c = read_front _ _ _ _ _ _ (omega arith) c.read.ensures.count c.read.ensures.bytes
