-- The pages of a command of the firmware over what parts can lend: who holds their locks, what was tested of them, and how the locks are released region by region (this project's own).
use Rattle.std.specs.Prelude.{◌≡◌, ℕ, ◌/◌, ◌^◌, ◌<◌, ◌==◌, true, if◌then◌else◌, List, Option, Some}
use Rattle.std.specs.List.{list_any}
use Rattle.snp_model.specs.declared.entry.PageSize.TheVariants.{Small}
use Rattle.snp_model.specs.Entries.{released}
use Rattle.snp_model.specs.Locks.{covers}
use Rattle.snp_model.specs.State.{PageLock}
use Rattle.machine_core.specs.Bays.{HasFrame, Stock, holders_of, pages_of}

-- an actor has locked the frames that these locks cover, and no others
pub record HoldsLocks (actor : ℕ) (locks : List PageLock) (stock : Stock) : Type 0 where
  pub has : (frame : ℕ) → list_any (covers frame) locks ≡ true → holders_of stock.bays frame ≡ Some actor
  pub only : (frame : ℕ) → holders_of stock.bays frame ≡ Some actor → list_any (covers frame) locks ≡ true

-- a frame of memory that is in no page of 2 MB, as the tests of its lock asked
pub record IsTestedFrame (frame : ℕ) (stock : Stock) : Type 0 where
  pub below : frame < 2 ^ 32
  pub small : (pages_of stock.bays frame).facts.size ≡ Small

-- the holders once an actor's locks in one region are released
abbrev pub released_in : ℕ → ℕ → (ℕ → Option ℕ) → ℕ → Option ℕ
released_in region actor holder frame = if frame / 512 == region then released actor (holder frame) else holder frame

-- all frames that are there stay there
abbrev pub StillHas : Stock → Stock → Type 0
StillHas old new = (frame : ℕ) → HasFrame old frame → HasFrame new frame
