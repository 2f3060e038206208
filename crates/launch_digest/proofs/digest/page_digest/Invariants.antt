-- The hasher holds the bytes of the words so far.
use Rattle.std.proofs.Common.{take}
use Rattle.sha2.specs.Hashers.{Holds384}
use Rattle.snp_model.specs.Measurement.{page_bytes}
use Rattle.launch_digest.proofs.digest.page_digest.Given as goal

abbrev pub invariant-words : goal.invariant-words
invariant-words l = Holds384 l.hasher (page_bytes (take l.word-index l.words))
