-- How a source's reads and a sink's writes are counted among its faults. This project's own.
use Rattle.std.specs.Prelude.{ℕ, ◌+◌, ◌-◌, ◌^◌, ◌==◌, ◌&&◌, not, if◌then◌else◌, min, List, length, Result, Ok, Err}

-- one more, up to the last value of 64 bits
abbrev pub one_more : ℕ → ℕ
one_more count = min (count + 1) (2 ^ 64 - 1)

-- the faults after a read: one more exactly where it failed
abbrev pub faults_after_read : {E : Type 0} → ℕ → Result ℕ E → ℕ
faults_after_read faults (Ok n) = faults
faults_after_read faults (Err e) = one_more faults

-- the faults after a write of a piece: one more exactly where it failed, or took nothing of a piece that isn't empty
abbrev pub faults_after_write : {E : Type 0} → ℕ → Result ℕ E → List ℕ → ℕ
faults_after_write faults (Ok n) piece = if (n == 0) && not (length piece == 0) then one_more faults else faults
faults_after_write faults (Err e) piece = one_more faults
