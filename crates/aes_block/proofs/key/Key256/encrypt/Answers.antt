use Rattle.std.proofs.Common.{◌∙◌, ap}
use Rattle.snp_model.specs.Aes.{key_expansion}
use Rattle.aes_block.proofs.RoundLaws.{cipher_is}
use Rattle.aes_block.proofs.key.Key256.encrypt.Goals as goal

pub returns : goal.returns
returns c =
    c.enciphered.ensures ∙ cipher_is _ c.args.self.now c.args.block.now (c.self.invariant ∙ ap key_expansion c.self.view_is)
