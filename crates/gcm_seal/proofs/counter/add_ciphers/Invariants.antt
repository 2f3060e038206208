use Rattle.std.proofs.Common.{◌≡◌, ◌++◌, ◌-◌, ◌≤◌, length, take, drop}
use Rattle.gcm_seal.specs.Words.{counter_block}
use Rattle.snp_model.specs.Gcm.{gctr}
use Rattle.gcm_seal.proofs.counter.add_ciphers.Given as goal

-- the text so far, and what the rest becomes
abbrev pub invariant-loop-at : goal.invariant-loop-at
invariant-loop-at l = record {
  inside : l.at ≤ length l.text;
  same : take l.at l.text ++ gctr l.key (counter_block l.iv l.count) (drop l.at l.text) ≡ gctr l.key (counter_block l.iv l.first) l.initial.text;
}

abbrev pub decreases-loop-at : goal.decreases-loop-at
decreases-loop-at l = length l.initial.text - l.at
