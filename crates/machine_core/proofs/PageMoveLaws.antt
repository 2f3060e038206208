-- The commit of SNP_PAGE_MOVE: its two pages and their locks, which lie in one region or in two.
use Rattle.std.proofs.Common.{◌≡◌, ◌≢◌, ℕ, ◌/◌, Bool, true, false, is_some, cond, List, [], ◌∷◌, IsSome, Option, None, Some, sym, ap, ◌∙◌, ◌⊎◌, inl, inr, ⊎_elim, arith}
use Rattle.std.proofs.lemmas.Bool.{cases_eq}
use Rattle.std.proofs.lemmas.Bool.Decides.{nat_tests}
use Rattle.std.specs.List.{list_any}
use Rattle.std.specs.Prelude.{◌==◌}
use Rattle.snp_model.specs.declared.entry.PageSize.TheVariants.{Small}
use Rattle.snp_model.specs.declared.entry.RmpEntry.{RmpEntry}
use Rattle.snp_model.specs.declared.event.Deed.TheVariants as deeds
use Rattle.snp_model.specs.declared.event.Outcome.TheVariants as outcomes
use Rattle.snp_model.specs.FirmwareCommits.{at_frame, placed, taken, taken_facts}
use Rattle.snp_model.specs.FirmwareStep.{pages_moved, small_shown}
use Rattle.snp_model.specs.Locks.{covers, page_lock}
use Rattle.snp_model.specs.State.{Page, PageLock, Pages}
use Rattle.run_laws.specs.KeptLocks.{relocked}
use Rattle.machine_core.specs.declared.shown.Shown.{Shown}
use Rattle.machine_core.specs.Bays.{Stock, holders_of}
use Rattle.machine_core.specs.CommandPages.{HoldsLocks, released_in}
use Rattle.machine_core.proofs.PageCommitLaws.{frame_own, two_released}

-- the locks of two pages of 4 KB
abbrev two_locks : ℕ → ℕ → List PageLock
two_locks source target = page_lock Small source ∷ page_lock Small target ∷ []

covers_source : (source target : ℕ) → list_any (covers source) (two_locks source target) ≡ true
covers_source source target = grind (arith, nat_tests)

covers_target : (source target : ℕ) → list_any (covers target) (two_locks source target) ≡ true
covers_target source target = grind (arith, nat_tests)

covers_only : (source target f : ℕ) → f ≢ source → list_any (covers f) (two_locks source target) ≡ true → f ≡ target
covers_only source target f other covered = grind (arith, nat_tests)

-- both are locked
pub source_locked : (actor source target : ℕ) (stock : Stock) → HoldsLocks actor (two_locks source target) stock → IsSome (holders_of stock.bays source)
source_locked actor source target stock holds = ap is_some (holds.has source (covers_source source target))

pub target_locked : (actor source target : ℕ) (stock : Stock) (holder : ℕ → Option ℕ) → HoldsLocks actor (two_locks source target) stock → holder ≡ holders_of stock.bays → IsSome (holder target)
target_locked actor source target stock holder holds same = (λ i. is_some (same i target)) ∙ ap is_some (holds.has target (covers_target source target))

-- the actor has no other lock, so all are released
pub both_released : (actor source target : ℕ) (stock : Stock) → HoldsLocks actor (two_locks source target) stock
    → released_in (target / 512) actor (released_in (source / 512) actor (holders_of stock.bays)) ≡ relocked actor [] (holders_of stock.bays)
both_released actor source target stock holds =
    two_released (source / 512) (target / 512) actor (holders_of stock.bays) (λ f held. lies_in f (holds.only f held))
  where
    lies_in : (f : ℕ) → list_any (covers f) (two_locks source target) ≡ true → (f / 512 ≡ source / 512) ⊎ (f / 512 ≡ target / 512)
    lies_in f covered =
        ⊎_elim
        (λ (here : f ≡ source). inl (ap (λ (n : ℕ). n / 512) here))
        (λ (other : f ≢ source). inr (ap (λ (n : ℕ). n / 512) (covers_only source target f other covered)))
        (cases_eq f source)

-- the target is of 4 KB still, once the source is taken out
sized : (here : Bool) (p q : Page) → p.facts.size ≡ Small → q.facts.size ≡ Small → (cond here p q).facts.size ≡ Small
sized true p q small small' = small
sized false p q small small' = small'

pub still_small : (source target : ℕ) (pages left : Pages) → (pages source).facts.size ≡ Small → (pages target).facts.size ≡ Small → left ≡ at_frame source (taken (pages source)) pages → (left target).facts.size ≡ Small
unfolding at_frame taken_facts
still_small source target pages left small small' is =
    (λ i. (is i target).facts.size) ∙ sized (source == target) (taken (pages source)) (pages target) small small'

-- the target gets what the source was
pub move_pages : (source target : ℕ) (pages left after : Pages) (moved : RmpEntry) (words : List ℕ) → moved ≡ (pages source).facts → words ≡ (pages source).words
    → left ≡ at_frame source (taken (pages source)) pages → after ≡ at_frame target (placed moved words) left → after ≡ pages_moved source target pages
unfolding pages_moved
move_pages source target pages left after moved words moved_is words_are left_is is =
    is ∙ (λ i. at_frame target (placed (moved_is i) (words_are i)) (left_is i))

-- and the commit shows its guest page number
pub move_shown : (target : ℕ) (left after last : Pages) (moved : RmpEntry) (words : List ℕ) (shown : Shown) → after ≡ at_frame target (placed moved words) left → last ≡ after
    → shown ≡ record { deed = deeds.Commit target moved.gpn Small; outcome = Some (outcomes.Firmware 0); lock = None }
    → shown ≡ record { deed = small_shown target (last target).facts.gpn; outcome = Some (outcomes.Firmware 0); lock = None }
move_shown target left after last moved words shown is same shown_is =
    let placed_there = (λ i. same i target) ∙ (λ i. is i target) ∙ frame_own target (placed moved words) left in
    shown_is ∙ ap (λ (page : Page). let s : Shown = record { deed = small_shown target page.facts.gpn; outcome = Some (outcomes.Firmware 0); lock = None } in s) (sym placed_there)
