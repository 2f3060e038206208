use Rattle.std.proofs.Common.{◌-◌, length, arith}
use Rattle.snp_top.proofs.Pieces.{takes_piece}
use Rattle.snp_top.proofs.input.read_text.Goals as goal

pub returns-in_err-extend_from_slice-in-Ok-clause-taken : goal.returns-in_err-extend_from_slice-in-Ok-clause-taken
returns-in_err-extend_from_slice-in-Ok-clause-taken g c =
    takes_piece _ _ _ c.pieces.text.items c.read_piece.new.buffer c.in-Ok.count (4_194_305 - length c.pieces.text.items) 4_194_305 c.pieces.invariant.taken c.in-Ok.ensures.bytes (omega (arith, c.in-Ok.ensures.most, c.most-most.ensures)) (omega (arith, c.pieces.invariant.short))
