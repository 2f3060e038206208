-- What the adapters of std's readers and writers show. This project's own.
use Rattle.std.specs.Prelude.{ℕ, List, Option}

-- the bytes that the reader has left, where it tells them, and the count of faults
pub record Inlet : Type 0 where
  pub left : Option (List ℕ)
  pub faults : ℕ

-- the bytes that the writer holds, where it tells them, and the count of faults
pub record Outlet : Type 0 where
  pub written : Option (List ℕ)
  pub faults : ℕ
