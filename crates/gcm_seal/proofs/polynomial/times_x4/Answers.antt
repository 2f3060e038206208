use Rattle.std.proofs.Common.{refl}
use Rattle.gcm_seal.proofs.Words.{times_x4_is}
use Rattle.gcm_seal.proofs.polynomial.times_x4.Goals as goal

pub returns : goal.returns
returns c = times_x4_is c.args.word _ refl
