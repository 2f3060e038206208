use Rattle.std.proofs.Common.{arith, refl, drop}
use Rattle.gcm_seal.proofs.Blocks.{xor_step, xor_ends}
use Rattle.gcm_seal.proofs.counter.add_mask.Goals as goal

pub loop-i-preserved : goal.loop-i-preserved
loop-i-preserved c = xor_step c.loop-i.block c.args.mask.now _ c.loop-i.i _ _ (omega arith) (omega arith) refl refl c.loop-i.invariant

pub returns : goal.returns
returns c = xor_ends c.loop-i.block (drop c.loop-i.i c.args.mask.now) _ c.loop-i.i (omega arith) c.loop-i.invariant
