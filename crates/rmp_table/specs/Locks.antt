-- The locks that stand in a region, as a region keeps them: one of all frames, or a list of single ones.
use Rattle.std.specs.Prelude.{◌≡◌, ℕ, ◌<◌, ◌≤◌, ◌==◌, eqb, if◌then◌else◌, List, [], ◌∷◌, map, Option, Some, None}
use Rattle.std.specs.List.{All, IsDistinct, range_with_len}
use Rattle.rmp_table.specs.declared.locks.FrameLock.{FrameLock}

-- who holds a frame's lock, by a list of locks of single frames
unfoldable pub holder_among : List FrameLock → ℕ → Option ℕ
holder_among [] slot = None
holder_among (lock ∷ locks) slot = if lock.slot == slot then Some lock.holder else holder_among locks slot

-- who holds a frame's lock, by the holder of all frames where there is one
abbrev pub holder_by : Option ℕ → List FrameLock → ℕ → Option ℕ
holder_by None locks slot = holder_among locks slot
holder_by (Some holder) locks slot = Some holder

-- the holders of all frames
unfoldable pub holders_by : Option ℕ → List FrameLock → List (Option ℕ)
holders_by every locks = map (holder_by every locks) (range_with_len 0 512)

-- the frames of locks
abbrev pub slots_of : List FrameLock → List ℕ
slots_of locks = map (λ lock. lock.slot) locks

-- a frame is locked once, and there is room for a lock of each
pub record AreLocks (every : Option ℕ) (locks : List FrameLock) (capacity : ℕ) : Type 0 where
  pub alone : (holder : ℕ) → every ≡ Some holder → locks ≡ []
  pub once : IsDistinct eqb (slots_of locks)
  pub below : All (λ lock. lock.slot < 512) locks
  pub room : 512 ≤ capacity
