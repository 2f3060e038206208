-- Locks of pages and of guest contexts, read off the open attempts (this project's own).
use Rattle.std.specs.Prelude.{ℕ, zero, suc, ◌+◌, ◌-◌, Bool, ◌&&◌, nat_le, nat_lt, if◌then◌else◌, ◌==◌, List, [], ◌∷◌, Option, Some, None, unwrap_or, is_some}
use Rattle.std.specs.List.{list_any}
use Rattle.std.specs.Option.{option_map, option_or}
use Rattle.snp_model.specs.declared.entry.PageSize.{PageSize}
use Rattle.snp_model.specs.Facts.{frames_in, page_base}
use Rattle.snp_model.specs.State.{ActorPart, PageLock, State, View}

-- whether a frame is among `count` frames from `base` on
abbrev pub in_range : ℕ → ℕ → ℕ → Bool
in_range base count frame = nat_le base frame && nat_lt frame (base + count)

-- what is kept by frame, where each frame of a range is changed, by its place in the range
abbrev pub over : {A : Type 0} → ℕ → ℕ → (ℕ → A → A) → (ℕ → A) → ℕ → A
over base count change kept frame = if in_range base count frame then change (frame - base) (kept frame) else kept frame

-- the lock of the page of this size in which a frame stands
abbrev pub page_lock : PageSize → ℕ → PageLock
page_lock size frame = record { frame = frame; base = page_base size frame; count = frames_in size }

-- the lock of every page of a range of this size, which begins at a frame
abbrev pub range_lock : PageSize → ℕ → PageLock
range_lock size frame = record { frame = frame; base = frame; count = frames_in size }

-- what is kept by frame, where each frame that a lock covers is changed in the same way
abbrev pub over_lock : {A : Type 0} → PageLock → (A → A) → (ℕ → A) → ℕ → A
over_lock lock change kept = over lock.base lock.count (λ place. change) kept

-- whether a lock covers a frame
abbrev pub covers : ℕ → PageLock → Bool
covers frame lock = in_range lock.base lock.count frame

-- whether an actor has locked a frame
abbrev pub locks_frame : ℕ → ActorPart → Bool
locks_frame frame part = list_any (covers frame) part.standing.locks

-- whether an actor has locked a guest's context
abbrev pub locks_context : ℕ → ActorPart → Bool
locks_context guest part = unwrap_or (option_map (λ locked. locked == guest) part.standing.context_lock) (is_some part.standing.context_lock)

-- the first actor of the list, whose numbers begin at `first`, that has locked a frame
unfoldable pub holder_from : ℕ → List ActorPart → ℕ → Option ℕ
holder_from first [] frame = None
holder_from first (part ∷ parts) frame = if locks_frame frame part then Some first else holder_from (first + 1) parts frame

-- the holder of the lowest locked frame among `count` frames from `base` on
unfoldable pub range_holder : (ℕ → Option ℕ) → ℕ → ℕ → Option ℕ
range_holder holder base zero = None
range_holder holder base (suc count) = option_or (holder base) (range_holder holder (base + 1) count)

-- the first actor of the list, whose numbers begin at `first`, that has locked a guest's context
unfoldable pub context_holder_from : ℕ → List ActorPart → ℕ → Option ℕ
context_holder_from first [] guest = None
context_holder_from first (part ∷ parts) guest = if locks_context guest part then Some first else context_holder_from (first + 1) parts guest

-- the actor that has locked a frame
abbrev pub holder_of : State → ℕ → Option ℕ
holder_of m = holder_from 1 m.actors

-- the actor that has locked a guest's context
abbrev pub context_holder_of : State → ℕ → Option ℕ
context_holder_of m = context_holder_from 1 m.actors

-- what a step of the state may look at
abbrev pub view_of : State → View
view_of m = record { contents = m.contents; holder = holder_of m; context_holder = context_holder_of m }
