-- What an actor knows once its locks are taken: it holds those of the range, and what was tested still holds.
use Rattle.std.proofs.Common.{◌≡◌, ℕ, zero, suc, ◌+◌, Option, Some, None, Result, IsOk, is_ok, if◌then◌else◌, refl, sym, ap, ◌∙◌, arith}
use Rattle.std.proofs.lemmas.Bool.{false≢true}
use Rattle.snp_model.specs.declared.entry.PageSize.{PageSize}
use Rattle.snp_model.specs.declared.entry.PageSize.TheVariants.{Small, Large}
use Rattle.snp_model.specs.declared.entry.RmpEntry.{RmpEntry}
use Rattle.snp_model.specs.declared.event.Refusal.{Refusal}
use Rattle.snp_model.specs.declared.event.Refusal.TheVariants.{Status}
use Rattle.snp_model.specs.declared.item.Update.{Update}
use Rattle.snp_model.specs.Entries.{Entries, facts_at, holder_at, refusal_answer, with_lock}
use Rattle.snp_model.specs.Facts.{frames_in, some_frame}
use Rattle.snp_model.specs.Locks.{page_lock, range_holder, range_lock}
use Rattle.snp_model.specs.RmpUpdate.{in_use_or, overlaps, update_range_refusal}
use Rattle.snp_model.proofs.EntriesLaws.{over_in, same_facts}
use Rattle.rmp_update.specs.Regions.{HoldsRange, IsTested, first_slot, region_refusal}
use Rattle.rmp_update.proofs.RowLaws.{some≢none}

-- an answer of Ok is that of no refusal
pub ok_none : (refusal : Option Refusal) (answer : Result (Unit {0}) Refusal) → IsOk answer → answer ≡ refusal_answer refusal → refusal ≡ None
ok_none None answer ok is = refl
ok_none (Some refusal) answer ok is = absurd (false≢true (ap (λ (r : Result (Unit {0}) Refusal). is_ok r) (sym is) ∙ ok))

-- the rows that follow, where no actor holds a lock
later_none : (holder : Option ℕ) (later : Option Refusal) → in_use_or holder later ≡ None → later ≡ None
later_none None later none = none
later_none (Some holder) later none = absurd (some≢none _ none)

none_held : (base count : ℕ) → range_holder (λ _. None) base count ≡ None
unfolding range_holder
none_held base zero = refl
none_held base (suc count) = none_held (base + 1) count

-- the rows that follow that of the locks
after_locks : Update → (ℕ → RmpEntry) → Option Refusal
after_locks update facts =
    if overlaps update.size facts then Some (Status 4)
    else if some_frame (λ place. (facts place).immutable) 0 (frames_in update.size) then Some (Status 2)
    else None

still : (update : Update) (facts : ℕ → RmpEntry) (holder : ℕ → Option ℕ) → update_range_refusal update facts holder ≡ None → update_range_refusal update facts (λ _. None) ≡ None
unfolding update_range_refusal after_locks
still update facts holder none =
    ap (λ (o : Option ℕ). in_use_or o (after_locks update facts)) (none_held 0 (frames_in update.size))
    ∙ later_none (range_holder holder 0 (frames_in update.size)) (after_locks update facts) none

pub tested_is : (update : Update) (old new : Entries) → new.facts ≡ old.facts → region_refusal update old ≡ None → IsTested new update
tested_is update old new same none =
    ap (λ (facts : ℕ → RmpEntry). update_range_refusal update (λ place. facts (first_slot update + place)) (λ _. None)) (same_facts new old same)
    ∙ still update (λ place. facts_at old (first_slot update + place)) (λ place. holder_at old (first_slot update + place)) none

pub range_held : (update : Update) (old new : Entries) (actor : ℕ) → holder_at new ≡ with_lock (range_lock update.size (first_slot update)) actor (holder_at old) → HoldsRange new update actor
range_held update old new actor is = λ place low.
    ap (λ (h : ℕ → Option ℕ). h (first_slot update + place)) is
    ∙ over_in (first_slot update) (frames_in update.size) (λ place old. Some actor) (holder_at old) (first_slot update + place) (omega arith) (omega (arith, low))

-- PSMASH
page_held_at : (size : PageSize) (actor : ℕ) (holder : ℕ → Option ℕ) → with_lock (page_lock size 0) actor holder 0 ≡ Some actor
page_held_at Small actor holder = refl
page_held_at Large actor holder = refl

pub page_held : (size : PageSize) (old new : Entries) (actor : ℕ) → holder_at new ≡ with_lock (page_lock size 0) actor (holder_at old) → holder_at new 0 ≡ Some actor
page_held size old new actor is = ap (λ (h : ℕ → Option ℕ). h 0) is ∙ page_held_at size actor (holder_at old)
