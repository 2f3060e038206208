-- What the locks of RMPUPDATE, PSMASH, PVALIDATE and RMPADJUST have found where they refuse nothing.
use Rattle.std.proofs.Common.{◌≡◌, ℕ, zero, suc, ◌+◌, ◌%◌, Bool, true, false, not, ◌&&◌, ◌||◌, cond, eqb, Option, Some, None, refl, sym, subst, ⊎_elim, arith}
use Rattle.std.proofs.lemmas.Bool.{cases_eq, true≢false}
use Rattle.std.proofs.lemmas.Bool.Decides.{nat_tests}
use Rattle.std.specs.List.{list_any, range_with_len}
use Rattle.snp_model.specs.declared.access.Place.{Place}
use Rattle.snp_model.specs.declared.entry.PageSize.{PageSize}
use Rattle.snp_model.specs.declared.entry.RmpEntry.{RmpEntry}
use Rattle.snp_model.specs.declared.event.Refusal.{Refusal}
use Rattle.snp_model.specs.declared.event.Refusal.TheVariants.{Status}
use Rattle.snp_model.specs.declared.item.Update.{Update}
use Rattle.snp_model.specs.Facts.{frames_in, some_frame}
use Rattle.snp_model.specs.Locks.{in_range, range_holder}
use Rattle.snp_model.specs.RmpUpdate.{is_bad_update, overlaps, in_use_or, update_range_refusal, update_refusal, is_bad_smash, smash_page_refusal, smash_refusal}
use Rattle.snp_model.specs.Validation.{validate_refusal, adjust_further, adjust_refusal}
use Rattle.snp_model.specs.Verdicts.{is_large}
use Rattle.run_laws.proofs.LockLaws.{first_none}

-- a test that refuses nothing: it fails, and what comes after it refuses nothing
pub record Let {R : Type 0} (test : Bool) (later : Option R) : Type 0 where
  pub fails : test ≡ false
  pub after_it : later ≡ None

pub let_through : {R : Type 0} (test : Bool) (refusal : R) (later : Option R) → cond test (Some refusal) later ≡ None → Let test later
let_through true refusal later none = absurd cc
let_through false refusal later none = record { fails = refl; after_it = none }

-- a lock that refuses nothing: nobody holds it
pub record Free (holder : Option ℕ) (later : Option Refusal) : Type 0 where
  pub unheld : holder ≡ None
  pub after_it : later ≡ None

pub let_free : (holder : Option ℕ) (later : Option Refusal) → in_use_or holder later ≡ None → Free holder later
let_free (Some actor) later none = absurd cc
let_free None later none = record { unheld = refl; after_it = none }

pub first_fails : (a b : Bool) → (a || b) ≡ false → a ≡ false
first_fails true b none = absurd (true≢false none)
first_fails false b none = refl

others_fail : (a b : Bool) → (a || b) ≡ false → b ≡ false
others_fail true b none = absurd (true≢false none)
others_fail false b none = none

-- no frame of a range passes a test
pub no_frame : (test : ℕ → Bool) (base count : ℕ) → some_frame test base count ≡ false → (frame : ℕ) → in_range base count frame ≡ true → test frame ≡ false
unfolding some_frame
no_frame test base zero none frame inside = absurd (grind (arith, nat_tests))
no_frame test base (suc count) none frame inside =
    ⊎_elim
    (λ (same : frame ≡ base). subst (λ (f : ℕ). test f ≡ false) (sym same) (first_fails (test base) (list_any test (range_with_len (base + 1) count)) none))
    (λ (other : frame ≡ base → ⊥). no_frame test (base + 1) count (others_fail (test base) (list_any test (range_with_len (base + 1) count)) none) frame (grind (arith, nat_tests)))
    (cases_eq frame base)

-- RMPUPDATE

pub record UpdatePasses (frames : ℕ) (update : Update) (facts : ℕ → RmpEntry) (holder : ℕ → Option ℕ) : Type 0 where
  pub fine : is_bad_update frames update ≡ false
  pub unheld : range_holder holder 0 (frames_in update.size) ≡ None
  pub fits : overlaps update.size facts ≡ false
  pub mutable : some_frame (λ place. (facts place).immutable) 0 (frames_in update.size) ≡ false

pub update_passes : (frames : ℕ) (update : Update) (facts : ℕ → RmpEntry) (holder : ℕ → Option ℕ) → update_refusal frames update facts holder ≡ None → UpdatePasses frames update facts holder
unfolding update_refusal update_range_refusal
update_passes frames update facts holder none =
    let input = let_through (is_bad_update frames update) (Status 1) _ none in
    let free = let_free (range_holder holder 0 (frames_in update.size)) _ input.after_it in
    let sizes = let_through (overlaps update.size facts) (Status 4) _ free.after_it in
    let frozen = let_through (some_frame (λ place. (facts place).immutable) 0 (frames_in update.size)) (Status 2) None sizes.after_it in
    record { fine = input.fails; unheld = free.unheld; fits = sizes.fails; mutable = frozen.fails }

-- PSMASH

pub record SmashPasses (frames frame : ℕ) (facts : RmpEntry) (holder : Option ℕ) : Type 0 where
  pub fine : is_bad_smash frames frame ≡ false
  pub unheld : holder ≡ None
  pub large : is_large facts.size ≡ true
  pub mutable : facts.immutable ≡ false

pub not_false : (b : Bool) → not b ≡ false → b ≡ true
not_false true none = refl
not_false false none = absurd (true≢false none)

pub smash_passes : (frames frame : ℕ) (facts : RmpEntry) (holder : Option ℕ) → smash_refusal frames frame facts holder ≡ None → SmashPasses frames frame facts holder
unfolding smash_refusal smash_page_refusal
smash_passes frames frame facts holder none =
    let input = let_through (is_bad_smash frames frame) (Status 1) _ none in
    let free = let_free holder _ input.after_it in
    let sizes = let_through (not (is_large facts.size)) (Status 1) _ free.after_it in
    let frozen = let_through facts.immutable (Status 2) None sizes.after_it in
    record { fine = input.fails; unheld = free.unheld; large = not_false (is_large facts.size) sizes.fails; mutable = frozen.fails }

-- PVALIDATE and RMPADJUST

pub validate_unheld : (at : Place) (size : PageSize) (facts : RmpEntry) (holder : Option ℕ) → validate_refusal at size facts holder ≡ None → holder ≡ None
unfolding validate_refusal
validate_unheld at size facts holder none =
    let input = let_through (is_large size && not (eqb (at.gpn % 512) 0)) (Status 1) _ none in
    (let_free holder _ input.after_it).unheld

pub adjust_unheld : (at : Place) (size : PageSize) (mask : ℕ) (vmsa : Bool) (facts : RmpEntry) (holder : Option ℕ) → adjust_refusal at size mask vmsa facts holder ≡ None → holder ≡ None
unfolding adjust_refusal
adjust_unheld at size mask vmsa facts holder none = validate_unheld at size facts holder (first_none (validate_refusal at size facts holder) (adjust_further at mask vmsa facts) none)
