-- What a region of the RMP keeps of its 512 frames: their facts and the holders of their locks (this project's own).
use Rattle.std.specs.Prelude.{◌≡◌, ℕ, ◌+◌, ◌%◌, ◌<◌, ◌==◌, true, if◌then◌else◌, List, length, slice_index_or, Option, Some, None, Result, Ok, Err}
use Rattle.snp_model.specs.declared.entry.RmpEntry.{RmpEntry}
use Rattle.snp_model.specs.declared.entry.PageSize.TheVariants.{Large}
use Rattle.snp_model.specs.declared.event.InUse.{InUse}
use Rattle.snp_model.specs.declared.event.Refusal.{Refusal}
use Rattle.snp_model.specs.Facts.{free_entry, frames_in}
use Rattle.snp_model.specs.Locks.{over, over_lock}
use Rattle.snp_model.specs.RegionWords.{page_at}
use Rattle.snp_model.specs.State.{PageLock, Pages}

-- the facts of the frames, and the actors that hold their locks
pub record Entries : Type 0 where
  pub facts : List RmpEntry
  pub holders : List (Option ℕ)

-- the facts of a frame
abbrev pub facts_at : Entries → ℕ → RmpEntry
facts_at rmp slot = slice_index_or rmp.facts slot free_entry

-- the actor that holds the lock of a frame's page
abbrev pub holder_at : Entries → ℕ → Option ℕ
holder_at rmp slot = slice_index_or rmp.holders slot None

-- the facts of a frame within a page of 2 MB, by those of the page's first frame
abbrev pub facts_within : RmpEntry → ℕ → RmpEntry
facts_within head place = record head { gpn = head.gpn + place }

-- the facts of frames once the entry of a page that begins at one of them is written
abbrev pub with_entry : ℕ → RmpEntry → (ℕ → RmpEntry) → ℕ → RmpEntry
with_entry slot entry facts = over slot (frames_in entry.size) (λ place old. facts_within entry place) facts

-- the holders once an actor has taken a lock
abbrev pub with_lock : PageLock → ℕ → (ℕ → Option ℕ) → ℕ → Option ℕ
with_lock lock actor holder = over_lock lock (λ old. Some actor) holder

-- who holds a lock once an actor's locks are released
abbrev pub released : ℕ → Option ℕ → Option ℕ
released actor None = None
released actor (Some holder) = if holder == actor then None else Some holder

-- the holders once an actor's locks are released
abbrev pub without_locks : ℕ → (ℕ → Option ℕ) → ℕ → Option ℕ
without_locks actor holder frame = released actor (holder frame)

-- the answer where a lock is asked for: it is in use where there is a holder
abbrev pub lock_answer : Option ℕ → Result (Unit {0}) InUse
lock_answer None = Ok tt
lock_answer (Some holder) = Err (record { holder = holder })

-- the answer where a refusal may stand in the way
abbrev pub refusal_answer : Option Refusal → Result (Unit {0}) Refusal
refusal_answer None = Ok tt
refusal_answer (Some refusal) = Err refusal

-- the pages of a region, by slot
abbrev pub region_pages : List (List ℕ) → Entries → Pages
region_pages memory rmp slot = record { facts = facts_at rmp slot; words = page_at memory slot }

-- one holder has the locks of all frames, or none is locked
abbrev pub HasOneHolder : Entries → Type 0
HasOneHolder rmp = (slot : ℕ) → slot < 512 → holder_at rmp slot ≡ holder_at rmp 0

-- an entry of a page of 2 MB may be written: the page is the whole region
pub record IsRegionEntry (rmp : Entries) (slot : ℕ) (entry : RmpEntry) : Type 0 where
  pub assigned : entry.assigned ≡ true
  pub first : slot ≡ 0
  pub aligned : entry.gpn % 512 ≡ 0
  pub one_holder : HasOneHolder rmp

-- the region is one page of 2 MB: its frames have the first one's facts, with page numbers that follow each other, and one holder
pub record IsOnePage (rmp : Entries) : Type 0 where
  pub large : (facts_at rmp 0).size ≡ Large
  pub assigned : (facts_at rmp 0).assigned ≡ true
  pub aligned : (facts_at rmp 0).gpn % 512 ≡ 0
  pub follow : (slot : ℕ) → slot < 512 → facts_at rmp slot ≡ facts_within (facts_at rmp 0) slot
  pub one_holder : HasOneHolder rmp

-- there are 512 frames, of pages of 4 KB or of one page of 2 MB
pub record IsTable (rmp : Entries) : Type 0 where
  pub facts_count : length rmp.facts ≡ 512
  pub holders_count : length rmp.holders ≡ 512
  pub one_page : (slot : ℕ) → slot < 512 → (facts_at rmp slot).size ≡ Large → IsOnePage rmp
