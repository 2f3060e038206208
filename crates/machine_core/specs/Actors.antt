-- What an actor keeps of its open attempt beside its deeds: the words that its walks have read, where its guest walk stands, the locks that it has taken, and the page that its compute has made.
use Rattle.std.specs.Prelude.{◌≡◌, ℕ, ◌<◌, ◌≤◌, ◌^◌, Bool, true, false, if◌then◌else◌, List, [], ◌∷◌, ◌++◌, length, Option, Some, None}
use Rattle.snp_model.specs.declared.event.Deed.{Deed}
use Rattle.snp_model.specs.declared.event.Deed.TheVariants.{Nested, Table}
use Rattle.snp_model.specs.declared.item.Line.{Line}
use Rattle.snp_model.specs.declared.scenario.Role.{Role}
use Rattle.snp_model.specs.declared.walk.GuestEnd.{GuestEnd}
use Rattle.snp_model.specs.Step.{line_at}
use Rattle.snp_model.specs.Walking.{guest_words, nested_words}
use Rattle.snp_model.specs.Bounds.{IsGuestInside}
use Rattle.snp_model.specs.State.{Computed, PageLock}
use Rattle.machine_core.specs.declared.made_page.MadePage.{MadePage}
use Rattle.machine_core.specs.declared.taken_lock.TakenLock.{TakenLock}
use Rattle.machine_core.specs.Walks.{stands_of}

-- a lock that it has taken, as the model sees it
abbrev pub page_lock_of : TakenLock → PageLock
page_lock_of taken = record { frame = taken.frame; base = taken.base; count = taken.count }

-- a page that a compute has made, as the model sees it
abbrev pub computed_of : MadePage → Computed
computed_of page = record { words = page.words; entry = Some page.entry }

-- what stands at the place for such a page, if it was made
abbrev pub made_in : Bool → MadePage → Option Computed
made_in has_made page = if has_made then Some (computed_of page) else None

-- the words of guest tables after one more deed
abbrev pub guest_words_with : Deed → List ℕ → List ℕ
guest_words_with (Table gpn index frame (Some value)) words = words ++ value ∷ []
guest_words_with deed words = words

-- those of the nested walk under way
abbrev pub nested_words_with : Deed → List ℕ → List ℕ
nested_words_with (Nested frame index value) words = words ++ value ∷ []
nested_words_with (Table gpn index frame value) words = []
nested_words_with deed words = words

-- whether a deed reads a word of a nested table, which leaves the guest walk where it stands
abbrev pub is_nested_read : Deed → Bool
is_nested_read (Nested frame index value) = true
is_nested_read deed = false

-- an attempt is open
abbrev pub IsBegun : List Deed → Type 0
IsBegun made = length made ≡ 0 → ⊥

-- the script isn't long, the words are those of the deeds, and once an attempt is open its guest walk stands where they lead
pub record IsActorState (role : Role) (script : List Line) (item : ℕ) (made : List Deed) (guest nested : List ℕ) (stands : GuestEnd) : Type 0 where
  pub short : length script < 2 ^ 32
  pub guest_are : guest ≡ guest_words made
  pub nested_are : nested ≡ nested_words made
  pub guest_few : length guest ≤ length made
  pub nested_few : length nested ≤ length made
  pub stands_are : IsBegun made → stands ≡ stands_of role (line_at script item).item guest
  pub inside : IsGuestInside stands
