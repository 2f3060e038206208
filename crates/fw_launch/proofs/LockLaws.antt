-- The holder of a page that was locked, and that a page without one is.
use Rattle.std.proofs.Common.{◌≡◌, ℕ, ◌*◌, ◌/◌, Option, None, Some, IsOk, refl, arith}
use Rattle.snp_model.specs.declared.entry.PageSize.{PageSize}
use Rattle.snp_model.specs.declared.entry.PageSize.TheVariants.{Small, Large}
use Rattle.snp_model.specs.Entries.{lock_answer, with_lock}
use Rattle.snp_model.specs.Locks.{page_lock}
use Rattle.snp_model.proofs.EntriesLaws.{over_in}

-- the frame whose page is locked has its holder
pub lock_holds : (size : PageSize) (slot actor : ℕ) (holder : ℕ → Option ℕ) → with_lock (page_lock size slot) actor holder slot ≡ Some actor
lock_holds Small slot actor holder = over_in slot 1 (λ place old. Some actor) holder slot (omega arith) (omega arith)
lock_holds Large slot actor holder = over_in (slot / 512 * 512) 512 (λ place old. Some actor) holder slot (omega arith) (omega arith)

-- a lock that no actor holds is taken
pub free_taken : (holder : Option ℕ) → holder ≡ None → IsOk (lock_answer holder)
free_taken None free = refl
free_taken (Some actor) free = absurd cc
