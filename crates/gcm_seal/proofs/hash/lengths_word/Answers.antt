use Rattle.std.proofs.Common.{◌∙◌}
use Rattle.gcm_seal.proofs.Bytes.{lengths_word_is}
use Rattle.gcm_seal.proofs.hash.lengths_word.Goals as goal

pub returns : goal.returns
returns c = lengths_word_is c.args.aad.now c.args.text.now c.copy_from_slice.new.self c.copy_from_slice-2.new.self _ (c.copy_from_slice.ensures.after ∙ c.to_be_bytes.ensures) (c.copy_from_slice-2.ensures.after ∙ c.to_be_bytes-2.ensures) c.from_be_bytes.ensures
