-- The runs in which each page of a guest has one holder at most, and the private accesses that pass in them (this project's own; the checks are those of APM volume 2, 15.36.10).
use Rattle.std.specs.Prelude.{◌≡◌, ◌⊎◌, ℕ, ◌<◌, ◌≤◌, true, List, [], ◌∷◌, length, Option, Some}
use Rattle.std.specs.List.{AllByRecursion}
use Rattle.snp_model.specs.declared.event.Deed.{Deed}
use Rattle.snp_model.specs.declared.event.Deed.TheVariants as deeds
use Rattle.snp_model.specs.declared.event.Outcome.{Outcome}
use Rattle.snp_model.specs.declared.event.Outcome.TheVariants as outcomes
use Rattle.snp_model.specs.declared.firmware.MetaEntry.{MetaEntry}
use Rattle.snp_model.specs.declared.scenario.Role.{Role}
use Rattle.snp_model.specs.declared.scenario.Role.TheVariants.{Cpu}
use Rattle.snp_model.specs.declared.scenario.Scenario.{Scenario}
use Rattle.snp_model.specs.Holders.{Holder, Holds}
use Rattle.snp_model.specs.Live.{Vault, vault_of, Spot, InEntry, InRoot, Under, Live, IsLive, live}
use Rattle.snp_model.specs.Past.{archive_of}
use Rattle.snp_model.specs.Premises.{IsDisciplined, NoChanceTag}
use Rattle.snp_model.specs.Run.{IsDefined, state_after}
use Rattle.snp_model.specs.Sound.{IsSound}
use Rattle.snp_model.specs.State.{State, part_of}
use Rattle.snp_model.specs.Step.{event_of}

-- a run of a sound scenario, in which a declared guest is disciplined, and no ciphertext meets the tag of another where a page is opened for it
pub record MeetsPremises (scenario : Scenario) (schedule : List ℕ) (guest : ℕ) : Type 0 where
  pub sound : IsSound scenario
  pub defined : IsDefined scenario schedule
  pub some : 0 < guest
  pub most : guest ≤ length scenario.guests
  pub disciplined : IsDisciplined scenario schedule guest
  pub no_chance : NoChanceTag scenario schedule guest

-- all that tells the guest's live entries at its end
abbrev pub vault_after : Scenario → List ℕ → ℕ → Vault
vault_after scenario schedule guest = vault_of guest (state_after scenario schedule).contents (archive_of scenario schedule guest)

-- an element stands in a list
unfoldable pub IsListed : Live → List Live → Type 0
IsListed one [] = ⊥
IsListed one (first ∷ others) = (one ≡ first) ⊎ IsListed one others

-- a place is in a memory of so many frames or in the context, or in what an entry at such a place keeps
unfoldable pub IsInMemory : ℕ → Spot → Type 0
IsInMemory frames (InEntry frame number) = frame < frames
IsInMemory frames InRoot = Unit {0}
IsInMemory frames (Under above number) = IsInMemory frames above

-- the list of live entries has just the entries that are live, and each that is live at a place in memory
pub record HasAllLive (asid : ℕ) (vault : Vault) (frames : ℕ) : Type 0 where
  pub lives : AllByRecursion (λ (one : Live). IsLive asid vault one.spot one.entry) (live asid vault frames)
  pub listed : (spot : Spot) (entry : MetaEntry) → IsInMemory frames spot → IsLive asid vault spot entry → IsListed (record { spot = spot; entry = entry }) (live asid vault frames)

-- each page has one place at most at which it is held
abbrev pub HasOnePlace : ℕ → Vault → Type 0
HasOnePlace asid vault =
    (gpn : ℕ) (one other : Holder) (words kept : List ℕ) → Holds asid vault gpn one words → Holds asid vault gpn other kept → one ≡ other

-- a holder has a page, and no other has it
pub record IsOneHolder (asid : ℕ) (vault : Vault) (gpn : ℕ) (holder : Holder) : Type 0 where
  pub words : List ℕ
  pub holds : Holds asid vault gpn holder words
  pub only : (other : Holder) (kept : List ℕ) → Holds asid vault gpn other kept → other ≡ holder

-- a data access with this outcome has passed its check
abbrev pub IsPassed : Outcome → Type 0
IsPassed (outcomes.Loaded found) = Unit {0}
IsPassed outcomes.Stored = Unit {0}
IsPassed (outcomes.Swapped found) = Unit {0}
IsPassed (outcomes.Compared found written) = Unit {0}
IsPassed outcome = ⊥

-- an event is a private access that has passed its check, at this page and frame: a data access, or the read of a word of a guest table
abbrev pub IsPassedAccess : Deed → Option Outcome → ℕ → ℕ → Type 0
IsPassedAccess (deeds.Table page index place (Some value)) outcome gpn frame = (page ≡ gpn) × (place ≡ frame)
IsPassedAccess (deeds.Access page index place true) (Some outcome) gpn frame = (page ≡ gpn) × (place ≡ frame) × IsPassed outcome
IsPassedAccess deed outcome gpn frame = ⊥

-- an actor of this role is a processor of the guest
abbrev pub IsProcessorOf : ℕ → Role → Type 0
IsProcessorOf guest (Cpu owner vmpl npt paging) = owner ≡ guest
IsProcessorOf guest role = ⊥

-- the next event of an actor is such an access of a processor of the guest
abbrev pub Passes : ℕ → State → ℕ → ℕ → ℕ → Type 0
Passes guest m actor gpn frame =
    IsProcessorOf guest (part_of m actor).role × IsPassedAccess (event_of m actor).deed (event_of m actor).outcome gpn frame
