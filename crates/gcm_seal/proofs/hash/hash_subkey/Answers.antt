use Rattle.std.proofs.Common.{◌∙◌, ap, arith}
use Rattle.snp_model.specs.Polynomials.{coefficients}
use Rattle.snp_model.specs.Gcm.{hash_subkey}
use Rattle.gcm_seal.proofs.Bytes.{padded-full}
use Rattle.gcm_seal.proofs.hash.hash_subkey.Goals as goal

pub returns : goal.returns
unfolding hash_subkey
returns c = c.padded_word.ensures ∙ ap coefficients (padded-full c.encrypt.new.block (omega arith) ∙ c.encrypt.ensures)
