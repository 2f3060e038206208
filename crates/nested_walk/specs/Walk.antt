-- What a `NestedWalk` shows: a walk that stands at a read.
use Rattle.std.specs.Prelude.{◌≡◌, ℕ, ◌-◌, ◌^◌, ◌<◌, List, ◌++◌, length, take, replicate}
use Rattle.snp_model.specs.declared.walk.NestedPath.{NestedPath}
use Rattle.snp_model.specs.declared.walk.NestedEnd.{NestedEnd}
use Rattle.snp_model.specs.declared.walk.NestedEnd.TheVariants.{Read, Leaf, Fault}
use Rattle.snp_model.specs.NestedWalk.{nested_index, nested_end}

-- what it began from, and the words that it has read so far
pub record Walk : Type 0 where
  pub path : NestedPath
  pub words : List ℕ

-- the frame of the table that a walk reads next
abbrev pub table_of : NestedEnd → ℕ
table_of (Read frame index) = frame
table_of (Leaf frame size) = 0
table_of (Fault code) = 0

-- the fields of a walk: `count` words in the first places, zeros behind them, and the table that is read next
pub record IsStanding (path : NestedPath) (table : ℕ) (words : List ℕ) (count : ℕ) : Type 0 where
  pub room : length words ≡ 4
  pub goes_on : count < 4
  pub rest : words ≡ take count words ++ replicate (4 - count) 0
  pub page : path.gpn < 2 ^ 36
  pub inside : table < path.frames
  pub stands : nested_end path (take count words) ≡ Read table (nested_index path.gpn (4 - count))
