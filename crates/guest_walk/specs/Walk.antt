-- What a `GuestWalk` shows: a walk that stands at a read.
use Rattle.std.specs.Prelude.{◌≡◌, ℕ, ◌-◌, ◌^◌, ◌<◌, ◌≤◌, List, ◌++◌, length, take, replicate}
use Rattle.snp_model.specs.declared.walk.GuestPath.{GuestPath}
use Rattle.snp_model.specs.declared.walk.GuestEnd.{GuestEnd}
use Rattle.snp_model.specs.declared.walk.GuestEnd.TheVariants.{Read, Leaf, Fault}
use Rattle.snp_model.specs.GuestWalk.{guest_index, guest_end}

-- what it began from, and the words that it has read so far
pub record Walk : Type 0 where
  pub path : GuestPath
  pub words : List ℕ

-- the guest page number of the table that a walk reads next
abbrev pub table_of : GuestEnd → ℕ
table_of (Read gpn index) = gpn
table_of (Leaf gpn private size) = 0
table_of (Fault code) = 0

-- the fields of a walk: `count` words in the first places, zeros behind them, and the table that is read next
pub record IsStanding (path : GuestPath) (table : ℕ) (words : List ℕ) (count : ℕ) : Type 0 where
  pub levels : path.levels ≤ 5
  pub room : length words ≡ 5
  pub goes_on : count < path.levels
  pub rest : words ≡ take count words ++ replicate (5 - count) 0
  pub below : table < 2 ^ 36
  pub stands : guest_end path (take count words) ≡ Read table (guest_index path.address (path.levels - count))
