-- What every run keeps of the locks that its actors have taken: one holder each, whole pages of 2 MB, and what was tested (this project's own).
use Rattle.std.specs.Prelude.{◌≡◌, ℕ, ◌/◌, ◌==◌, Bool, true, if◌then◌else◌, List, get_or, Option, Some, unwrap_or, is_some}
use Rattle.std.specs.List.{list_any}
use Rattle.std.specs.Option.{option_map}
use Rattle.snp_model.specs.declared.entry.PageSize.TheVariants.{Large}
use Rattle.snp_model.specs.declared.scenario.GuestSpec.{GuestSpec}
use Rattle.snp_model.specs.Entries.{released}
use Rattle.snp_model.specs.Locks.{covers, locks_frame, locks_context}
use Rattle.snp_model.specs.State.{Pages, PageLock, Contents, ActorPart, State, idle_part}
use Rattle.snp_model.specs.Step.{line_at}
use Rattle.run_laws.specs.HeldLocks.{AreItemLocks, AreTested}

-- the actor at a place of the list
abbrev pub actor_at : List ActorPart → ℕ → ActorPart
actor_at actors place = get_or actors place idle_part

-- two frames of one region
abbrev pub AreOfOneRegion : ℕ → ℕ → Type 0
AreOfOneRegion f g = f / 512 ≡ g / 512

-- where a frame is in a page of 2 MB, so is every frame of its region
pub record AreWholePages (pages : Pages) : Type 0 where
  pub large : (f g : ℕ) → (pages f).facts.size ≡ Large → AreOfOneRegion f g → (pages g).facts.size ≡ Large

-- no frame and no context has two holders of its lock, by their places, and a page of 2 MB is locked as a whole
pub record HaveOneHolder (pages : Pages) (actors : List ActorPart) : Type 0 where
  pub pages_by_one : (j k frame : ℕ) → locks_frame frame (actor_at actors j) ≡ true → locks_frame frame (actor_at actors k) ≡ true → j ≡ k
  pub contexts_by_one : (j k guest : ℕ) → locks_context guest (actor_at actors j) ≡ true → locks_context guest (actor_at actors k) ≡ true → j ≡ k
  pub whole : (k f g : ℕ) → locks_frame f (actor_at actors k) ≡ true → (pages f).facts.size ≡ Large → AreOfOneRegion f g → locks_frame g (actor_at actors k) ≡ true

-- what the open attempt of an actor has locked is such as its item locks, and what the tests asked holds, in a memory of so many frames with these declared guests and contents
abbrev pub IsTestedAt : ℕ → List GuestSpec → Contents → ActorPart → Type 0
IsTestedAt frames guests contents part = AreItemLocks frames guests contents part.role (line_at part.script part.item).item part.deeds part.standing

-- what a state keeps of locks
pub record KeepsLocks (m : State) : Type 0 where
  pub whole : AreWholePages m.contents.pages
  pub one : HaveOneHolder m.contents.pages m.actors
  pub tested : (place : ℕ) → AreTested m (actor_at m.actors place)

-- the locks of an actor with this number are those that its open attempt has taken
pub record OwnsLocks (actor : ℕ) (part : ActorPart) (holder : ℕ → Option ℕ) : Type 0 where
  pub has : (frame : ℕ) → locks_frame frame part ≡ true → holder frame ≡ Some actor
  pub only : (frame : ℕ) → holder frame ≡ Some actor → locks_frame frame part ≡ true

-- so is the context that it has locked
pub record OwnsContext (actor : ℕ) (part : ActorPart) (holder : ℕ → Option ℕ) : Type 0 where
  pub has : (guest : ℕ) → locks_context guest part ≡ true → holder guest ≡ Some actor
  pub only : (guest : ℕ) → holder guest ≡ Some actor → locks_context guest part ≡ true

-- the holders once an actor has these locks, and no others
abbrev pub relocked : ℕ → List PageLock → (ℕ → Option ℕ) → ℕ → Option ℕ
relocked actor locks holder frame = if list_any (covers frame) locks then Some actor else released actor (holder frame)

-- whether the context that is locked, if one is, is that of this guest
abbrev pub is_locked : ℕ → Option ℕ → Bool
is_locked guest context_lock = unwrap_or (option_map (λ locked. locked == guest) context_lock) (is_some context_lock)

-- the holders of contexts once an actor has locked this one, if any, and no other
abbrev pub recontexted : ℕ → Option ℕ → (ℕ → Option ℕ) → ℕ → Option ℕ
recontexted actor context_lock holder guest = if is_locked guest context_lock then Some actor else released actor (holder guest)
