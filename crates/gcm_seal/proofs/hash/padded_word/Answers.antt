use Rattle.std.proofs.Common.{rules}
use Rattle.gcm_seal.proofs.Bytes.{padded_word_is}
use Rattle.gcm_seal.proofs.hash.padded_word.Goals as goal

pub returns : goal.returns
returns c = padded_word_is c.args.block.now _ _ c.requires (search rules) c.copy_from_slice.ensures.after c.from_be_bytes.ensures
