-- What the lock of a PVALIDATE or an RMPADJUST has tested holds of each frame of its page at the commit: the page is of the size that is asked for, and its guest page numbers follow that of the walk.
use Rattle.std.proofs.Common.{◌≡◌, ℕ, ◌+◌, ◌%◌, Bool, true, false, not, ◌&&◌, ◌||◌, eqb, None, refl, sym, ap, ◌∙◌, subst, arith}
use Rattle.std.proofs.lemmas.Bool.{true≢false}
use Rattle.std.proofs.lemmas.Bool.Decides.{nat_tests}
use Rattle.snp_model.specs.declared.access.Place.{Place}
use Rattle.snp_model.specs.declared.entry.PageSize.{PageSize}
use Rattle.snp_model.specs.declared.entry.PageSize.TheVariants.{Small, Large}
use Rattle.snp_model.specs.declared.entry.RmpEntry.{RmpEntry}
use Rattle.snp_model.specs.declared.event.Refusal.TheVariants.{Status}
use Rattle.snp_model.specs.Facts.{frames_in, page_base}
use Rattle.snp_model.specs.Locks.{covers, page_lock}
use Rattle.snp_model.specs.State.{Pages, PageLock}
use Rattle.snp_model.specs.Validation.{validate_refusal, validation_fault, adjust_further, adjust_refusal}
use Rattle.snp_model.specs.Verdicts.{is_large}
use Rattle.run_laws.proofs.LargePages.{AreLargeWhole, CoversWhole, base_region}
use Rattle.run_laws.proofs.LockLaws.{first_none, small_not_large, small_covered, page_region, page_whole}
use Rattle.run_laws.proofs.TestedLaws.{let_through}

-- a frame that the tests of either instruction refuse nothing for
pub record ValidatePasses (place : Place) (size : PageSize) (facts : RmpEntry) : Type 0 where
  pub aligned : size ≡ Large → place.gpn % 512 ≡ 0
  pub assigned : facts.assigned ≡ true
  pub asid_is : facts.asid ≡ place.asid
  pub gpn_is : facts.gpn ≡ place.gpn
  pub size_is : facts.size ≡ size

asked_aligned : (size : PageSize) (gpn : ℕ) → (is_large size && not (eqb (gpn % 512) 0)) ≡ false → size ≡ Large → gpn % 512 ≡ 0
asked_aligned Small gpn fails large = absurd (small_not_large Small refl large)
asked_aligned Large gpn fails large = grind (arith, nat_tests)

asked_size : (size own leaf : PageSize) → (not (is_large size) && (is_large own || is_large leaf)) ≡ false → (is_large size && not (is_large own)) ≡ false → own ≡ size
asked_size Small Small leaf small large = refl
asked_size Small Large leaf small large = absurd (true≢false small)
asked_size Large Small leaf small large = absurd (true≢false large)
asked_size Large Large leaf small large = refl

pub validate_passes : (place : Place) (size : PageSize) (facts : RmpEntry) → validate_refusal place size facts None ≡ None → ValidatePasses place size facts
unfolding validate_refusal
validate_passes place size facts none =
    let named = not facts.assigned || not (eqb facts.asid place.asid) || not (eqb facts.gpn place.gpn) || facts.immutable in
    let input = let_through (is_large size && not (eqb (place.gpn % 512) 0)) (Status 1) _ none in
    let own = let_through named (validation_fault false) _ input.after_it in
    let small = let_through (not (is_large size) && (is_large facts.size || is_large place.leaf)) (validation_fault true) _ own.after_it in
    let large = let_through (is_large size && not (is_large facts.size)) (Status 6) None small.after_it in
    let fails : (not facts.assigned || not (eqb facts.asid place.asid) || not (eqb facts.gpn place.gpn) || facts.immutable) ≡ false = own.fails in
    record {
      aligned = asked_aligned size place.gpn input.fails;
      assigned = grind (arith, nat_tests, fails);
      asid_is = grind (arith, nat_tests, fails);
      gpn_is = grind (arith, nat_tests, fails);
      size_is = asked_size size facts.size place.leaf small.fails large.fails;
    }

pub adjust_passes : (place : Place) (size : PageSize) (mask : ℕ) (vmsa : Bool) (facts : RmpEntry) → adjust_refusal place size mask vmsa facts None ≡ None → ValidatePasses place size facts
unfolding adjust_refusal
adjust_passes place size mask vmsa facts none = validate_passes place size facts (first_none (validate_refusal place size facts None) (adjust_further place mask vmsa facts) none)

-- a frame that a lock covers has the facts of the one to which the walk has led
pub record IsTestedFrame (facts own : RmpEntry) (asid : ℕ) : Type 0 where
  pub assigned : facts.assigned ≡ true
  pub asid_is : facts.asid ≡ asid
  pub validated : facts.validated ≡ own.validated

-- a lock covers as many frames as are asked for, from that of the walk on; so do their guest page numbers, from that of the walk on
pub record IsTestedPage (pages : Pages) (asid gpn : ℕ) (size : PageSize) (lock : PageLock) : Type 0 where
  pub base_is : lock.base ≡ lock.frame
  pub count_is : lock.count ≡ frames_in size
  pub alike : (f : ℕ) → covers f lock ≡ true → IsTestedFrame (pages f).facts (pages lock.frame).facts asid
  pub follow : (f : ℕ) → covers f lock ≡ true → (pages f).facts.gpn + lock.base ≡ gpn + f

-- a page of 2 MB whose frame has an aligned guest page number begins at that frame
large_base : (pages : Pages) (frame : ℕ) → AreLargeWhole pages → (pages frame).facts.size ≡ Large → (pages frame).facts.gpn % 512 ≡ 0 → page_base Large frame ≡ frame
large_base pages frame whole large aligned =
    let follow = (whole.together frame (page_base Large frame) large (base_region frame)).follow in
    let base = whole.aligned frame large in
    omega arith

-- of 4 KB, and of 2 MB
page_tested : (pages : Pages) (place : Place) (frame : ℕ) (size : PageSize) → AreLargeWhole pages → ValidatePasses place size (pages frame).facts → IsTestedPage pages place.asid place.gpn size (page_lock size frame)
page_tested pages place frame Small whole passes = record {
  base_is = refl;
  count_is = refl;
  alike = λ f inside. subst (λ (k : ℕ). IsTestedFrame (pages k).facts (pages frame).facts place.asid) (sym (small_covered frame f inside)) (record { assigned = passes.assigned; asid_is = passes.asid_is; validated = refl });
  follow = λ f inside. subst (λ (k : ℕ). (pages k).facts.gpn + frame ≡ place.gpn + k) (sym (small_covered frame f inside)) (ap (λ (q : ℕ). q + frame) passes.gpn_is);
}
page_tested pages place frame Large whole passes =
    let first : page_base Large frame ≡ frame = large_base pages frame whole passes.size_is (ap (λ (q : ℕ). q % 512) passes.gpn_is ∙ passes.aligned refl) in
    let together = λ (f : ℕ) (inside : covers f (page_lock Large frame) ≡ true). whole.together frame f passes.size_is (page_region frame f inside) in
    record {
      base_is = first;
      count_is = refl;
      alike = λ f inside.
          let same = (together f inside).alike in
          record {
            assigned = ap (λ (x : RmpEntry). x.assigned) same ∙ passes.assigned;
            asid_is = ap (λ (x : RmpEntry). x.asid) same ∙ passes.asid_is;
            validated = ap (λ (x : RmpEntry). x.validated) same;
          };
      follow = λ f inside. ap (λ (b : ℕ). (pages f).facts.gpn + b) first ∙ (together f inside).follow ∙ ap (λ (q : ℕ). q + f) passes.gpn_is;
    }

-- so of a lock that covers its page
pub lock_tested : (pages : Pages) (place : Place) (size : PageSize) (lock : PageLock) → lock ≡ page_lock (pages lock.frame).facts.size lock.frame → AreLargeWhole pages → ValidatePasses place size (pages lock.frame).facts
    → IsTestedPage pages place.asid place.gpn size lock
lock_tested pages place size lock covering whole passes =
    subst (IsTestedPage pages place.asid place.gpn size) (sym (covering ∙ ap (λ (s : PageSize). page_lock s lock.frame) passes.size_is)) (page_tested pages place lock.frame size whole passes)

-- and such a lock covers pages of 2 MB as a whole
pub lock_covers_whole : (pages : Pages) (lock : PageLock) → lock ≡ page_lock (pages lock.frame).facts.size lock.frame → CoversWhole pages lock
lock_covers_whole pages lock covering = subst (CoversWhole pages) (sym covering) (page_whole pages lock.frame (pages lock.frame).facts.size refl)
