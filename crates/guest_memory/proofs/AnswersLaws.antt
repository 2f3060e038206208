-- How uses of a guest's memory are answered.
use Rattle.std.proofs.Common.{◌≡◌, ℕ, Bool, true, false, eqb, Option, Some, None, unwrap_or, Result, Ok, Err, if◌then◌else◌, not, refl, sym, ap, ◌∙◌, subst}
use Rattle.snp_model.specs.GuestMemory.{Memory, Use, Untouched, Reads, Writes, Exchanges, Compares, IsLegalUse, known, used, with_known}
use Rattle.guest_memory.specs.declared.fault.ApplyFault.{ApplyFault}
use Rattle.guest_memory.specs.Answers.{Answers, IsMade, IsCause, Touches, MayTouch, expected_by, found_by}

-- nothing is done
pub untouched : (memory : Memory) → IsMade memory Untouched memory
unfolding used
untouched memory = record { legal = tt; changed = refl }

-- a touch of a word as the answer of a use
record IsTouchOf (old : Memory) (act : Use) (gpn index : ℕ) (found : Option ℕ) (left : ℕ) : Type 0 where
  legal : MayTouch old gpn index found → IsLegalUse old act
  needs : IsLegalUse old act → MayTouch old gpn index found
  leaves : used act old ≡ with_known gpn index left old
  expects : expected_by old act ≡ known old gpn index
  finds : found_by act ≡ unwrap_or found 0

by_touch : (old : Memory) (act : Use) (gpn index : ℕ) (found : Option ℕ) (left : ℕ) (answer : Result (Unit {0}) ApplyFault) (new : Memory) → IsTouchOf old act gpn index found left
    → Touches old gpn index found left answer new → Answers old act answer new
by_touch old act gpn index found left (Ok done) new is touched = record { legal = is.legal touched.may; changed = touched.changed ∙ sym is.leaves }
by_touch old act gpn index found left (Err fault) new is touched = record {
  cause = subst (IsCause old act) (sym touched.fault_is) (record { not_legal = λ legal. touched.may_not (is.needs legal); expected_is = sym is.expects; found_is = sym is.finds });
  unchanged = touched.unchanged;
}

pub reads : (old : Memory) (gpn index found : ℕ) (answer : Result (Unit {0}) ApplyFault) (new : Memory) → Touches old gpn index (Some found) found answer new → Answers old (Reads gpn index found) answer new
unfolding used
reads old gpn index found answer new touched =
    by_touch old (Reads gpn index found) gpn index (Some found) found answer new (record { legal = λ may. may; needs = λ may. may; leaves = refl; expects = refl; finds = refl }) touched

pub writes : (old : Memory) (gpn index value : ℕ) (answer : Result (Unit {0}) ApplyFault) (new : Memory) → Touches old gpn index None value answer new → Answers old (Writes gpn index value) answer new
unfolding used
writes old gpn index value answer new touched =
    by_touch old (Writes gpn index value) gpn index None value answer new (record { legal = λ may. may; needs = λ may. may; leaves = refl; expects = refl; finds = refl }) touched

pub exchanges : (old : Memory) (gpn index found value : ℕ) (answer : Result (Unit {0}) ApplyFault) (new : Memory) → Touches old gpn index (Some found) value answer new
    → Answers old (Exchanges gpn index found value) answer new
unfolding used
exchanges old gpn index found value answer new touched =
    by_touch old (Exchanges gpn index found value) gpn index (Some found) value answer new (record { legal = λ may. may; needs = λ may. may; leaves = refl; expects = refl; finds = refl }) touched

says_rightly : (written same : Bool) → (if same then written else not written) ≡ true → written ≡ same
says_rightly true true e = refl
says_rightly true false e = sym e
says_rightly false true e = e
says_rightly false false e = refl

pub compares : (old : Memory) (gpn index found : ℕ) (written : Bool) (expected next left : ℕ) (answer : Result (Unit {0}) ApplyFault) (new : Memory)
    → (if eqb found expected then written else not written) ≡ true → left ≡ (if written then next else found) → Touches old gpn index (Some found) left answer new
    → Answers old (Compares gpn index found written expected next) answer new
unfolding used
compares old gpn index found written expected next left answer new rightly is touched =
    by_touch old (Compares gpn index found written expected next) gpn index (Some found) left answer new (record {
      legal = λ may. (may, says_rightly written (eqb found expected) rightly);
      needs = λ legal. legal.0;
      leaves = ap (λ (word : ℕ). with_known gpn index word old) (sym is);
      expects = refl;
      finds = refl;
    }) touched
