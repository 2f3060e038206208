use Rattle.std.proofs.Common.{refl}
use Rattle.sha2.specs.Sha512.{sha384, first_words, schedule, rounds, compress, hash_after, digest_bytes}
use Rattle.snp_model.proofs.standards.digest_vectors.Goals as goal

pub returns : goal.returns
unfolding sha384 first_words schedule rounds compress hash_after digest_bytes
returns c = record { one_block = refl; two_blocks = refl }
