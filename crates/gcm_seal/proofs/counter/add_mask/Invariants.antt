use Rattle.std.proofs.Common.{◌≡◌, ◌++◌, take, drop}
use Rattle.snp_model.specs.Gcm.{xor_bytes}
use Rattle.gcm_seal.proofs.counter.add_mask.Given as goal

-- the bytes so far, and the xor of those that are left
abbrev pub invariant-loop-i : goal.invariant-loop-i
invariant-loop-i l = take l.i l.block ++ xor_bytes (drop l.i l.block) (drop l.i l.mask) ≡ xor_bytes l.initial.block l.mask
