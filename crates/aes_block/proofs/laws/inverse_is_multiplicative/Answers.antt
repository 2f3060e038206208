use Rattle.aes_block.proofs.FieldLaws.{times-inverse, inverse-zero}
use Rattle.aes_block.proofs.laws.inverse_is_multiplicative.Goals as goal

pub returns : goal.returns
returns c = record { product = times-inverse; zero = inverse-zero }
