use Rattle.std.proofs.Common.{◌∙◌, ap}
use Rattle.snp_model.specs.Gcm.{gctr}
use Rattle.gcm_seal.specs.Words.{counter_block, word_coefficients}
use Rattle.gcm_seal.proofs.Blocks.{tag_is}
use Rattle.gcm_seal.proofs.sealing.tag_of.Goals as goal

pub returns : goal.returns
returns c = tag_is c.args.key.now c.args.iv.now c.args.aad.now c.args.text.now c.add_ciphers.new.text c.new.result c.hash_of-hash.result (ap word_coefficients c.new.ensures ∙ c.hash_subkey.ensures) c.hash_of-hash.ensures (c.add_ciphers.ensures ∙ ap (gctr c.args.key.now (counter_block c.args.iv.now 1)) c.to_be_bytes-tag.ensures)
