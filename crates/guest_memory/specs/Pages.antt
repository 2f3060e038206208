-- A guest's memory as a list of entries, each with a page or with room for one (this project's own).
use Rattle.std.specs.Prelude.{◌≡◌, ℕ, ◌<◌, ◌^◌, true, List, [], ◌∷◌, Option, Some, None, IsSome}
use Rattle.std.specs.Ordering.{nat_cmp}
use Rattle.std.specs.Map.{lookup}
use Rattle.std.specs.BTreeMap.{is_at}
use Rattle.snp_model.specs.declared.scenario.PageSpec.{PageSpec}
use Rattle.snp_model.specs.Locks.{in_range}
use Rattle.std.specs.FinMap.{empty, insert, remove}
use Rattle.snp_model.specs.GuestMemory.{Places, Memory}

-- memory where a page is held with these places, or isn't held
abbrev pub with_entry : ℕ → Option Places → Memory → Memory
with_entry gpn None memory = remove memory gpn
with_entry gpn (Some places) memory = insert memory gpn places

-- the memory that entries stand for
unfoldable pub memory_of : List (ℕ × Option Places) → Memory
memory_of [] = empty
memory_of (entry ∷ entries) = with_entry entry.0 entry.1 (memory_of entries)

-- there are entries for so many pages from one on
abbrev pub HasRoom : List (ℕ × Option Places) → ℕ → ℕ → Type 0
HasRoom entries gpn count = (q : ℕ) → in_range gpn count q ≡ true → IsSome (lookup (is_at (nat_cmp q)) entries)

-- a page line's numbers leave room for those of its other frames
pub record IsPlaced (page : PageSpec) : Type 0 where
  pub gpn : page.gpn < 2 ^ 36
  pub frame : page.frame < 2 ^ 31
