use Rattle.std.proofs.Common.{arith, refl, rules, ◌∙◌, ap}
use Rattle.snp_model.specs.Aes.{cipher}
use Rattle.gcm_seal.proofs.Blocks.{gctr_steps, gctr_ends}
use Rattle.gcm_seal.proofs.counter.add_ciphers.Goals as goal

pub loop-at-preserved : goal.loop-at-preserved
loop-at-preserved c = record {
  inside = search rules;
  same = gctr_steps c.args.key.now c.args.iv.now _ c.loop-at.text c.loop-at.at c.min-end.result c.loop-at.count _ _ _ (omega arith) (omega arith) (omega arith) c.min-end.ensures (c.encrypt.ensures ∙ ap (cipher c.args.key.now) c.counter_block-mask.ensures) c.add_mask.ensures refl c.loop-at.invariant.same;
}

pub returns : goal.returns
returns c = gctr_ends c.args.key.now _ _ c.loop-at.text c.loop-at.at (omega arith) c.loop-at.invariant.same
