-- What sources and sinks in memory show. This project's own.
use Rattle.std.specs.Prelude.{ℕ, List}

-- the bytes still to come and how many a read gives at most, the reads that fail, and the counts of reads and of faults
pub record Feed : Type 0 where
  pub left : List ℕ
  pub piece : ℕ
  pub failing : List ℕ
  pub calls : ℕ
  pub faults : ℕ

-- the bytes that were taken and how many there may be, the writes that fail, and the counts of writes and of faults
pub record Tape : Type 0 where
  pub bytes : List ℕ
  pub room : ℕ
  pub failing : List ℕ
  pub calls : ℕ
  pub faults : ℕ
