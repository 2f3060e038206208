-- How a use of a guest's memory is answered, and the numbers that tell why one isn't legal. This project's own.
use Rattle.std.specs.Prelude.{◌≡◌, ℕ, ◌<◌, ◌^◌, ◌==◌, Bool, false, not, Option, Some, None, unwrap_or, Result, Ok, Err}
use Rattle.snp_model.specs.declared.event.Deed.{Deed}
use Rattle.snp_model.specs.declared.event.Deed.TheVariants as deeds
use Rattle.snp_model.specs.GuestMemory.{Memory, Use, Untouched, Reads, Writes, Exchanges, Compares, Accepts, Rescinds, Launches, IsHeld, MayRead, IsLegalUse, known, used, with_known}
use Rattle.guest_memory.specs.declared.fault.ApplyFault.{ApplyFault}
use Rattle.guest_memory.specs.declared.fault.ApplyFault.TheVariants.{NotLegal, Memory as NoMemory}

-- the guest page numbers and indexes of a deed are in range
abbrev pub IsInRange : Deed → Type 0
IsInRange deeds.Begin = Unit {0}
IsInRange (deeds.Nested frame index value) = Unit {0}
IsInRange (deeds.Table gpn index frame value) = (gpn < 2 ^ 36) × (index < 512)
IsInRange (deeds.Access gpn index frame private) = (gpn < 2 ^ 36) × (index < 512)
IsInRange (deeds.Host frame index) = Unit {0}
IsInRange (deeds.Lock frame) = Unit {0}
IsInRange (deeds.LockContext guest) = Unit {0}
IsInRange deeds.Compute = Unit {0}
IsInRange (deeds.Commit frame gpn size) = gpn < 2 ^ 36
IsInRange (deeds.CommitContext guest) = Unit {0}
IsInRange deeds.Control = Unit {0}

-- the word that a memory has at the place of a use, where its page is held and the word is known
abbrev pub expected_by : Memory → Use → Option ℕ
expected_by memory Untouched = None
expected_by memory (Reads gpn index found) = known memory gpn index
expected_by memory (Writes gpn index value) = known memory gpn index
expected_by memory (Exchanges gpn index found value) = known memory gpn index
expected_by memory (Compares gpn index found written expected next) = known memory gpn index
expected_by memory (Accepts gpn count) = None
expected_by memory (Rescinds gpn count) = None
expected_by memory (Launches gpn words) = None

-- the word that a use found there, 0 where it reads none
abbrev pub found_by : Use → ℕ
found_by Untouched = 0
found_by (Reads gpn index found) = found
found_by (Writes gpn index value) = 0
found_by (Exchanges gpn index found value) = found
found_by (Compares gpn index found written expected next) = found
found_by (Accepts gpn count) = 0
found_by (Rescinds gpn count) = 0
found_by (Launches gpn words) = 0

-- pages are accepted: of events these alone take memory
abbrev pub IsAcceptance : Use → Type 0
IsAcceptance Untouched = ⊥
IsAcceptance (Reads gpn index found) = ⊥
IsAcceptance (Writes gpn index value) = ⊥
IsAcceptance (Exchanges gpn index found value) = ⊥
IsAcceptance (Compares gpn index found written expected next) = ⊥
IsAcceptance (Accepts gpn count) = Unit {0}
IsAcceptance (Rescinds gpn count) = ⊥
IsAcceptance (Launches gpn words) = ⊥

-- a use doesn't find what it needs, and the numbers that tell why
pub record IsNotLegal (memory : Memory) (act : Use) (expected : Option ℕ) (found : ℕ) : Type 0 where
  pub not_legal : IsLegalUse memory act → ⊥
  pub expected_is : expected ≡ expected_by memory act
  pub found_is : found ≡ found_by act

-- why a use isn't made
abbrev pub IsCause : Memory → Use → ApplyFault → Type 0
IsCause memory act (NotLegal expected found) = IsNotLegal memory act expected found
IsCause memory act (NoMemory error) = IsAcceptance act

-- a use that is made
pub record IsMade (old : Memory) (act : Use) (new : Memory) : Type 0 where
  pub legal : IsLegalUse old act
  pub changed : new ≡ used act old

-- a use that isn't made
pub record IsRefused (old : Memory) (act : Use) (fault : ApplyFault) (new : Memory) : Type 0 where
  pub cause : IsCause old act fault
  pub unchanged : new ≡ old

-- how a use is answered
abbrev pub Answers : Memory → Use → Result (Unit {0}) ApplyFault → Memory → Type 0
Answers old act (Ok done) new = IsMade old act new
Answers old act (Err fault) new = IsRefused old act fault new

-- what a touch of a word needs: its page is held, and a word that is found there is the known one
abbrev pub MayTouch : Memory → ℕ → ℕ → Option ℕ → Type 0
MayTouch memory gpn index None = IsHeld memory gpn
MayTouch memory gpn index (Some found) = MayRead memory gpn index found

pub record IsTouched (old : Memory) (gpn index : ℕ) (found : Option ℕ) (left : ℕ) (new : Memory) : Type 0 where
  pub may : MayTouch old gpn index found
  pub changed : new ≡ with_known gpn index left old

pub record IsUntouched (old : Memory) (gpn index : ℕ) (found : Option ℕ) (fault : ApplyFault) (new : Memory) : Type 0 where
  pub may_not : MayTouch old gpn index found → ⊥
  pub fault_is : fault ≡ NotLegal (known old gpn index) (unwrap_or found 0)
  pub unchanged : new ≡ old

-- how a touch of a word is answered, which finds a word there or none, and leaves one
abbrev pub Touches : Memory → ℕ → ℕ → Option ℕ → ℕ → Result (Unit {0}) ApplyFault → Memory → Type 0
Touches old gpn index found left (Ok done) new = IsTouched old gpn index found left new
Touches old gpn index found left (Err fault) new = IsUntouched old gpn index found fault new

-- whether a word that is known differs from one that was found, where there are both
abbrev pub differ : Option ℕ → Option ℕ → Bool
differ None found = false
differ (Some word) None = false
differ (Some word) (Some found) = not (word == found)
