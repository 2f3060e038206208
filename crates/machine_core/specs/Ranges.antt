-- The ranges of RMPUPDATE and PSMASH and the pages of PVALIDATE and RMPADJUST over what parts can lend: how their locks are refused, who holds them, and what was tested of them (this project's own).
use Rattle.std.specs.Prelude.{◌≡◌, ◌≢◌, ℕ, ◌+◌, ◌%◌, ◌^◌, ◌<◌, true, Option, Some, None}
use Rattle.snp_model.specs.declared.entry.RmpEntry.{RmpEntry}
use Rattle.snp_model.specs.declared.event.Refusal.{Refusal}
use Rattle.snp_model.specs.declared.item.Update.{Update}
use Rattle.snp_model.specs.Locks.{covers, page_lock}
use Rattle.snp_model.specs.RmpUpdate.{smash_page_refusal, smash_refusal, update_range_refusal, update_refusal}
use Rattle.snp_model.specs.State.{PageLock}
use Rattle.rmp_update.specs.Regions.{IsAccepted}
use Rattle.machine_core.specs.Bays.{Stock, holders_of, pages_of}

-- the refusal of the lock of RMPUPDATE, if it is refused
abbrev pub update_refused : ℕ → Update → Stock → Option Refusal
update_refused frames update stock =
    update_refusal frames update (λ place. (pages_of stock.bays (update.frame + place)).facts) (λ place. holders_of stock.bays (update.frame + place))

-- that of PSMASH
abbrev pub smash_refused : ℕ → ℕ → Stock → Option Refusal
smash_refused frames frame stock = smash_refusal frames frame (pages_of stock.bays frame).facts (holders_of stock.bays frame)

-- that of PVALIDATE or RMPADJUST at the frame to which it has come, by what it tests of the frame's facts and holder
abbrev pub page_refused : (RmpEntry → Option ℕ → Option Refusal) → ℕ → Stock → Option Refusal
page_refused test frame stock = test (pages_of stock.bays frame).facts (holders_of stock.bays frame)

-- a lock is that of the page in which a frame stands
abbrev pub IsLockOfPage : Stock → ℕ → PageLock → Type 0
IsLockOfPage stock frame lock = lock ≡ page_lock (pages_of stock.bays frame).facts.size frame

-- an actor has locked no frame
abbrev pub HoldsNone : ℕ → Stock → Type 0
HoldsNone actor stock = (frame : ℕ) → holders_of stock.bays frame ≢ Some actor

-- an actor has locked the frames that a lock covers, and no others
pub record HoldsLock (actor : ℕ) (lock : PageLock) (stock : Stock) : Type 0 where
  pub has : (frame : ℕ) → covers frame lock ≡ true → holders_of stock.bays frame ≡ Some actor
  pub only : (frame : ℕ) → holders_of stock.bays frame ≡ Some actor → covers frame lock ≡ true

-- a range of RMPUPDATE, and what its tests asked of it still holds
pub record IsTestedRange (update : Update) (stock : Stock) : Type 0 where
  pub accepted : IsAccepted update
  pub below : update.frame < 2 ^ 32
  pub passes : update_range_refusal update (λ place. (pages_of stock.bays (update.frame + place)).facts) (λ _. None) ≡ None

-- the first frame of a page of PSMASH, and what its tests asked of it still holds
pub record IsTestedPage (frame : ℕ) (stock : Stock) : Type 0 where
  pub first : frame % 512 ≡ 0
  pub below : frame < 2 ^ 32
  pub passes : smash_page_refusal (pages_of stock.bays frame).facts None ≡ None
