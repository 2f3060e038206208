use Rattle.std.proofs.Common.{rules, refl, arith}
use Rattle.snp_model.specs.Measurement.{page_bytes}
use Rattle.snp_model.proofs.PageBytesLaws.{bytes_more, bytes_room}
use Rattle.fw_swap.proofs.bytes.write_bytes.Goals as goal

pub loop-i-init : goal.loop-i-init
unfolding page_bytes
loop-i-init c = record { room = search rules; written = refl }

pub loop-i-preserved : goal.loop-i-preserved
loop-i-preserved c = record {
  room = bytes_room c.loop-i.bytes c.copy_from_slice.new.self c.loop-i.i _ 4096 (omega arith) (search rules) (omega arith) c.loop-i.invariant.room;
  written = bytes_more c.args.words.now c.loop-i.bytes c.copy_from_slice.new.self c.loop-i.i _ (omega arith) c.loop-i.invariant.written (search rules) (search rules) (omega (arith, c.loop-i.invariant.room));
}
