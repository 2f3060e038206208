-- RMPUPDATE and PSMASH in one region of memory: which region they name, and the rows of their tables with the frames' places in it.
use Rattle.std.specs.Prelude.{◌≡◌, ℕ, ◌+◌, ◌/◌, ◌%◌, ◌<◌, ◌≤◌, Bool, true, false, not, ◌&&◌, if◌then◌else◌, List, Option, Some, None, Result, Ok, Err}
use Rattle.snp_model.specs.declared.entry.PageSize.TheVariants.{Small, Large}
use Rattle.snp_model.specs.declared.event.Refusal.{Refusal}
use Rattle.snp_model.specs.declared.event.Refusal.TheVariants.{Status}
use Rattle.snp_model.specs.declared.item.Update.{Update}
use Rattle.snp_model.specs.Entries.{Entries, HasOneHolder, facts_at, holder_at}
use Rattle.snp_model.specs.Facts.{frames_in, some_frame}
use Rattle.snp_model.specs.Locks.{range_holder}
use Rattle.snp_model.specs.RegionWords.{page_at}
use Rattle.snp_model.specs.RmpUpdate.{in_use_or, is_bad_update, update_range_refusal, updated_words}
use Rattle.snp_model.specs.State.{zero_words}
use Rattle.snp_model.specs.Verdicts.{is_large}

-- the region of a frame, or status 1
abbrev pub region_answer : Bool → ℕ → Result ℕ ℕ
region_answer bad frame = if bad then Err 1 else Ok (frame / 512)

-- what is tested before any entry is looked at has passed, in some memory
abbrev pub IsAccepted : Update → Type 0
IsAccepted update = (frames : ℕ) × (is_bad_update frames update ≡ false)

-- the first slot of the range
abbrev pub first_slot : Update → ℕ
first_slot update = update.frame % 512

-- the refusal of the rows that look at the region
abbrev pub region_refusal : Update → Entries → Option Refusal
region_refusal update rmp =
    update_range_refusal update (λ place. facts_at rmp (first_slot update + place)) (λ place. holder_at rmp (first_slot update + place))

-- those rows for a range of one frame
abbrev pub small_refusal : Entries → ℕ → Option Refusal
small_refusal rmp slot =
    in_use_or (holder_at rmp slot) (
    if is_large (facts_at rmp slot).size then Some (Status 4)
    else if (facts_at rmp slot).immutable then Some (Status 2)
    else None)

-- those rows for the range that is the whole region
abbrev pub large_refusal : Entries → Option Refusal
large_refusal rmp =
    in_use_or (range_holder (holder_at rmp) 0 512) (
    if not (is_large (facts_at rmp 0).size) && some_frame (λ slot. (facts_at rmp slot).assigned) 0 512 then Some (Status 4)
    else if some_frame (λ slot. (facts_at rmp slot).immutable) 0 512 then Some (Status 2)
    else None)

-- an actor holds the locks of the range
abbrev pub HoldsRange : Entries → Update → ℕ → Type 0
HoldsRange rmp update actor = (place : ℕ) → place < frames_in update.size → holder_at rmp (first_slot update + place) ≡ Some actor

-- what was tested as the locks were taken still holds of the entries
abbrev pub IsTested : Entries → Update → Type 0
IsTested rmp update = update_range_refusal update (λ place. facts_at rmp (first_slot update + place)) (λ _. None) ≡ None

-- the range lies in the region, and its new entries may be written there
pub record IsRange (rmp : Entries) (update : Update) (slot : ℕ) : Type 0 where
  pub inside : slot + frames_in update.size ≤ 512
  pub first : update.size ≡ Large → slot ≡ 0
  pub aligned : update.size ≡ Large → update.assigned ≡ true → update.gpn % 512 ≡ 0
  pub small : update.size ≡ Small → (facts_at rmp slot).size ≡ Small
  pub one_holder : update.size ≡ Large → HasOneHolder rmp

-- the words of a page that is cleared where it is assigned
abbrev pub cleared : Bool → List ℕ → List ℕ
cleared assigned words = if assigned then zero_words else words

-- so many pages from a first one on are cleared where they are assigned; the others stay
pub record AreCleared (rmp : Entries) (first count : ℕ) (old new : List (List ℕ)) : Type 0 where
  pub here : (k : ℕ) → first ≤ k → k < first + count → page_at new k ≡ cleared (facts_at rmp k).assigned (page_at old k)
  pub there : (k : ℕ) → (first ≤ k → k < first + count → ⊥) → page_at new k ≡ page_at old k

-- the words of the range's pages are changed as the commit does; the others stay
pub record AreUpdated (rmp : Entries) (update : Update) (slot : ℕ) (old new : List (List ℕ)) : Type 0 where
  pub here : (k : ℕ) → slot ≤ k → k < slot + frames_in update.size → page_at new k ≡ updated_words update (facts_at rmp slot) (facts_at rmp k) (page_at old k)
  pub there : (k : ℕ) → (slot ≤ k → k < slot + frames_in update.size → ⊥) → page_at new k ≡ page_at old k
