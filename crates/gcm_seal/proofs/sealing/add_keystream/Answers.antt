use Rattle.std.proofs.Common.{arith}
use Rattle.gcm_seal.proofs.Blocks.{plain_is}
use Rattle.gcm_seal.proofs.sealing.add_keystream.Goals as goal

pub returns : goal.returns
returns c = plain_is c.args.key.now c.args.iv.now c.args.text.now c.add_ciphers.new.text (omega arith) c.add_ciphers.ensures
