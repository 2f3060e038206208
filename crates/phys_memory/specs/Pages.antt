-- The pages of a region of which only the first are written out.
use Rattle.std.specs.Prelude.{ℕ, ◌-◌, ◌≤◌, List, ◌++◌, length, replicate}
use Rattle.snp_model.specs.RegionWords.{IsRegion}

-- these pages, and behind them pages of zero words, up to 512
abbrev pub all_pages : List (List ℕ) → List (List ℕ)
all_pages pages = pages ++ replicate (512 - length pages) (replicate 512 0)

-- there are 512 pages at most, with room for so many
pub record ArePages (pages : List (List ℕ)) (capacity : ℕ) : Type 0 where
  pub few : length pages ≤ 512
  pub room : 512 ≤ capacity
  pub region : IsRegion (all_pages pages)
