-- The bounds that every scenario has which a text can say, as facts on its lists. They are this project's own.
use Rattle.std.specs.Prelude.{◌≡◌, ℕ, ◌%◌, ◌^◌, ◌<◌, ◌≤◌, ◌≢◌, true, List, [], ◌∷◌, length}
use Rattle.std.specs.List.{AllByRecursion}
use Rattle.snp_model.specs.declared.entry.PageSize.TheVariants.{Large}
use Rattle.snp_model.specs.declared.scenario.Scenario.{Scenario}
use Rattle.snp_model.specs.declared.scenario.GuestSpec.{GuestSpec}
use Rattle.snp_model.specs.declared.scenario.PageSpec.{PageSpec}
use Rattle.snp_model.specs.declared.scenario.WordSpec.{WordSpec}
use Rattle.snp_model.specs.declared.scenario.Turn.{Turn}
use Rattle.snp_model.specs.declared.scenario.Actor.{Actor}
use Rattle.snp_model.specs.declared.reading.Quantity.TheVariants.{Regions, Guests, Actors, Attempts, Order}
use Rattle.snp_model.specs.Bounds.{IsRole, IsLineOf}
use Rattle.snp_model.specs.Facts.{frames_in}
use Rattle.snp_model.specs.Locks.{in_range}
use Rattle.snp_model.specs.Metadata.{AreBytes}
use Rattle.snp_model.specs.ScenarioLines.{frames_of}
use Rattle.snp_model.specs.Attempts.{attempts_of}
use Rattle.snp_model.specs.Limits.{most}
use Rattle.snp_model.specs.Reading.{order_of}

-- a relation between each element and each later one
abbrev pub Pairwise : {X : Type 0} → (X → X → Type 0) → List X → Type 0
Pairwise R [] = Unit {0}
Pairwise R (x ∷ xs) = AllByRecursion (R x) xs × Pairwise R xs

-- a guest, which has an ASID of its own
pub record IsGuest (guest : GuestSpec) : Type 0 where
  pub asid_some : 0 < guest.asid
  pub asid_below : guest.asid < 1024
  pub iv : guest.iv < 2 ^ 64
  pub key : AreBytes guest.key

abbrev pub AsidsDiffer : GuestSpec → GuestSpec → Type 0
AsidsDiffer guest other = guest.asid ≢ other.asid

-- a page in a memory of so many frames, of one of so many guests; one of 2 MB begins at a multiple of 512, and so do its guest page numbers
pub record IsPage (frames guests : ℕ) (page : PageSpec) : Type 0 where
  pub frame : page.frame < frames
  pub guest_some : 0 < page.guest
  pub guest_most : page.guest ≤ guests
  pub gpn : page.gpn < 2 ^ 36
  pub aligned : page.size ≡ Large → (page.frame % 512 ≡ 0) × (page.gpn % 512 ≡ 0)
  pub perms_three : length page.perms ≡ 3
  pub perms : AllByRecursion (λ p. p < 16) page.perms

-- two pages have no frame in common
abbrev pub FramesDiffer : PageSpec → PageSpec → Type 0
FramesDiffer page other =
    (frame : ℕ) → in_range page.frame (frames_in page.size) frame ≡ true → in_range other.frame (frames_in other.size) frame ≡ true → ⊥

-- nor a guest page number of one guest
abbrev pub GpnsDiffer : PageSpec → PageSpec → Type 0
GpnsDiffer page other =
    page.guest ≡ other.guest → (gpn : ℕ) → in_range page.gpn (frames_in page.size) gpn ≡ true → in_range other.gpn (frames_in other.size) gpn ≡ true → ⊥

-- a word of a memory of so many frames
pub record IsWord (frames : ℕ) (word : WordSpec) : Type 0 where
  pub frame : word.frame < frames
  pub index : word.index < 512
  pub value : word.value < 2 ^ 64

-- an actor
pub record IsActor (frames guests : ℕ) (actor : Actor) : Type 0 where
  pub role : IsRole frames guests actor.role
  pub script : AllByRecursion (IsLineOf frames actor.role) actor.script

-- a turn
pub record IsTurn (turn : Turn) : Type 0 where
  pub actor : turn.actor < 2 ^ 32
  pub count_some : 0 < turn.count
  pub count_most : turn.count ≤ 262144

-- a scenario
pub record IsSound (c : Scenario) : Type 0 where
  pub version_some : 1 ≤ c.version
  pub version_most : c.version ≤ 2
  pub regions_some : 0 < c.regions
  pub regions_most : c.regions ≤ most Regions
  pub guests_most : length c.guests ≤ most Guests
  pub guests : AllByRecursion IsGuest c.guests
  pub asids_differ : Pairwise AsidsDiffer c.guests
  pub pages : AllByRecursion (IsPage (frames_of c) (length c.guests)) c.pages
  pub frames_differ : Pairwise FramesDiffer c.pages
  pub gpns_differ : Pairwise GpnsDiffer c.pages
  pub words : AllByRecursion (IsWord (frames_of c)) c.words
  pub actors_most : length c.actors ≤ most Actors
  pub actors : AllByRecursion (IsActor (frames_of c) (length c.guests)) c.actors
  pub attempts_most : attempts_of c ≤ most Attempts
  pub order : AllByRecursion IsTurn c.order
  pub order_most : length (order_of c) ≤ most Order
