-- What a sink that only hashes holds. This project's own.
use Rattle.std.specs.Prelude.{ℕ, List}
use Rattle.sha2.specs.Hashers.{Holds256}
use Rattle.snp_top.specs.declared.hashing.HashSink.{HashSink}

-- the sink was fed this text
abbrev pub WasFed : HashSink → List ℕ → Type 0
WasFed sink text = Holds256 sink.hasher text
