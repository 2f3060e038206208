use Rattle.std.proofs.Common.{arith, drop, ◌∙◌, sym}
use Rattle.std.proofs.lemmas.List.{length-drop}
use Rattle.gcm_seal.proofs.Blocks.{ghash_steps, ghash-none}
use Rattle.gcm_seal.proofs.hash.absorbed.Goals as goal

pub loop-at-preserved : goal.loop-at-preserved
loop-at-preserved c = record {
  inside = omega arith;
  same = ghash_steps _ _ c.args.text.now c.loop-at.at c.min-end.result c.loop-at.state c.padded_word.result c.times-state.result (omega arith) c.min-end.ensures c.padded_word.ensures c.times-state.ensures c.loop-at.invariant.same;
}

pub returns : goal.returns
returns c = sym (ghash-none _ _ (drop c.loop-at.at c.args.text.now) (omega (arith, length-drop c.loop-at.at c.args.text.now))) ∙ c.loop-at.invariant.same
