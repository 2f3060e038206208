use Rattle.gcm_seal.proofs.Blocks.{hash_is}
use Rattle.gcm_seal.proofs.hash.hash_of.Goals as goal

pub returns : goal.returns
returns c = hash_is _ c.args.aad.now c.args.text.now c.absorbed-after_aad.result c.absorbed-after_text.result c.lengths_word.result c.times.result c.absorbed-after_aad.ensures c.absorbed-after_text.ensures c.lengths_word.ensures c.times.ensures
