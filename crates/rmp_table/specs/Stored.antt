-- The entries of a region, as a region keeps them: one for each frame, or the first alone for a page of 2 MB.
use Rattle.std.specs.Prelude.{◌≡◌, ℕ, ◌%◌, ◌<◌, true, List, length, map, slice_index_or, Option, None}
use Rattle.std.specs.List.{range_with_len}
use Rattle.snp_model.specs.declared.entry.RmpEntry.{RmpEntry}
use Rattle.snp_model.specs.declared.entry.PageSize.{PageSize}
use Rattle.snp_model.specs.declared.entry.PageSize.TheVariants.{Small, Large}
use Rattle.snp_model.specs.Entries.{facts_within}
use Rattle.snp_model.specs.Facts.{free_entry}

-- the first entry
abbrev pub head_of : List RmpEntry → RmpEntry
head_of entries = slice_index_or entries 0 free_entry

-- the facts of the frames
unfoldable pub facts_by : PageSize → List RmpEntry → List RmpEntry
facts_by Small entries = entries
facts_by Large entries = map (facts_within (head_of entries)) (range_with_len 0 512)

-- the first entry is that of a page of 2 MB, and one holder has all locks or none is locked
pub record IsHead (entries : List RmpEntry) (holders : List (Option ℕ)) : Type 0 where
  pub large : (head_of entries).size ≡ Large
  pub assigned : (head_of entries).assigned ≡ true
  pub aligned : (head_of entries).gpn % 512 ≡ 0
  pub one_holder : (slot : ℕ) → slot < 512 → slice_index_or holders slot None ≡ slice_index_or holders 0 None

-- what pages of this size ask of the entries and of the holders
unfoldable pub FitSize : PageSize → List RmpEntry → List (Option ℕ) → Type 0
FitSize Small entries holders = (slot : ℕ) → slot < 512 → (slice_index_or entries slot free_entry).size ≡ Small
FitSize Large entries holders = IsHead entries holders

-- there are 512 entries and 512 holders, as pages of this size ask
pub record AreStored (size : PageSize) (entries : List RmpEntry) (holders : List (Option ℕ)) : Type 0 where
  pub entries_count : length entries ≡ 512
  pub holders_count : length holders ≡ 512
  pub fit : FitSize size entries holders
