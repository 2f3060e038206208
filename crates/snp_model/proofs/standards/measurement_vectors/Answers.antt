use Rattle.std.proofs.Common.{refl}
use Rattle.sha2.specs.Sha512.{sha384, first_words, schedule, rounds, compress, hash_after, digest_bytes}
use Rattle.snp_model.specs.Measurement.{page_bytes, page_contents, page_info}
use Rattle.snp_model.specs.State.{zero_words}
use Rattle.snp_model.specs.Vectors.{rising_words}
use Rattle.snp_model.proofs.standards.measurement_vectors.Goals as goal

pub returns : goal.returns
unfolding sha384 first_words schedule rounds compress hash_after digest_bytes page_bytes page_contents page_info zero_words rising_words
returns c = record { normal = refl; zero = refl; unmeasured = refl; chained = refl }
