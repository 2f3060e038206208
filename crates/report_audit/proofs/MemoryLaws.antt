-- The test of a use of a guest's memory.
use Rattle.std.proofs.Common.{◌≡◌, ◌≢◌, ℕ, eqb, Bool, true, false, ◌&&◌, Option, Some, None, unwrap_or, Ok, Err, refl, sym, ap, subst, ◌∙◌}
use Rattle.std.specs.FinMap.{get}
use Rattle.std.proofs.lemmas.Bool.{eqb-true, eq-eqb, true≢false}
use Rattle.snp_model.specs.GuestMemory.{Memory, Use, Untouched, Reads, Writes, Exchanges, Compares, Accepts, Rescinds, Launches, MayRead, IsLegalUse, known, used}
use Rattle.guest_memory.specs.Answers.{IsNotLegal}
use Rattle.report_audit.specs.Audit.{not_legal, memory_by}
use Rattle.report_audit.specs.Legality.{is_there, agrees, may_read, says_written, is_legal_use}

abbrev IsThere : {A : Type 0} → Option A → Type 0
IsThere None = ⊥
IsThere (Some x) = Unit {0}

-- a page is held where it is there
there : {A : Type 0} (page : Option A) → page ≢ None → is_there page ≡ true
there None held = absurd (held refl)
there (Some page) held = refl

held : {A : Type 0} (page : Option A) → is_there page ≡ true → page ≢ None
held None is none = absurd (true≢false (sym is))
held (Some page) is none = subst IsThere none tt

agreed : (word : Option ℕ) (found : ℕ) → ((w : ℕ) → word ≡ Some w → w ≡ found) → agrees word found ≡ true
agreed None found same = refl
agreed (Some w) found same = eq-eqb w found (same w refl)

agrees_is : (word : Option ℕ) (found : ℕ) → agrees word found ≡ true → (w : ℕ) → word ≡ Some w → w ≡ found
agrees_is None found is w known_is = absurd (subst IsThere (sym known_is) tt)
agrees_is (Some v) found is w known_is = sym (ap (λ (o : Option ℕ). unwrap_or o 0) known_is) ∙ eqb-true v found is

read_may : (memory : Memory) (gpn index found : ℕ) → MayRead memory gpn index found → may_read memory gpn index found ≡ true
read_may memory gpn index found may =
    rw (there (get memory gpn) may.held) (agreed (known memory gpn index) found may.agrees)

may_left : (a b : Bool) → (a && b) ≡ true → a ≡ true
may_left true b is = refl
may_left false b is = is

may_right : (a b : Bool) → (a && b) ≡ true → b ≡ true
may_right true b is = is
may_right false b is = absurd (true≢false (sym is))

may_is : (memory : Memory) (gpn index found : ℕ) → may_read memory gpn index found ≡ true → MayRead memory gpn index found
may_is memory gpn index found is = record {
  held = held (get memory gpn) (may_left _ _ is);
  agrees = agrees_is (known memory gpn index) found (may_right (is_there (get memory gpn)) _ is);
}

said : (written same : Bool) → written ≡ same → says_written written same ≡ true
said true true is = refl
said false false is = refl
said true false is = sym is
said false true is = is

said_is : (written same : Bool) → says_written written same ≡ true → written ≡ same
said_is true true is = refl
said_is false false is = refl
said_is true false is = sym is
said_is false true is = is

pub legal_test : (memory : Memory) (act : Use) → IsLegalUse memory act → is_legal_use memory act ≡ true
legal_test memory Untouched legal = refl
legal_test memory (Reads gpn index found) legal = read_may memory gpn index found legal
legal_test memory (Writes gpn index value) legal = there (get memory gpn) legal
legal_test memory (Exchanges gpn index found value) legal = read_may memory gpn index found legal
legal_test memory (Compares gpn index found written expected next) legal =
    rw (read_may memory gpn index found legal.0) (said written (eqb found expected) legal.1)
legal_test memory (Accepts gpn count) legal = refl
legal_test memory (Rescinds gpn count) legal = refl
legal_test memory (Launches gpn words) legal = refl

pub test_legal : (memory : Memory) (act : Use) → is_legal_use memory act ≡ true → IsLegalUse memory act
test_legal memory Untouched is = tt
test_legal memory (Reads gpn index found) is = may_is memory gpn index found is
test_legal memory (Writes gpn index value) is = held (get memory gpn) is
test_legal memory (Exchanges gpn index found value) is = may_is memory gpn index found is
test_legal memory (Compares gpn index found written expected next) is =
    (may_is memory gpn index found (may_left _ _ is), said_is written (eqb found expected) (may_right (may_read memory gpn index found) _ is))
test_legal memory (Accepts gpn count) is = tt
test_legal memory (Rescinds gpn count) is = tt
test_legal memory (Launches gpn words) is = tt

pub made_by : (old new : Memory) (act : Use) → IsLegalUse old act → new ≡ used act old → memory_by old act ≡ Ok new
unfolding memory_by
made_by old new act legal changed = rw (legal_test old act legal) (ap Ok (sym changed))

not_true : (b : Bool) → (b ≡ true → ⊥) → b ≡ false
not_true true not_so = absurd (not_so refl)
not_true false not_so = refl

pub refused_by : (old : Memory) (act : Use) (expected : Option ℕ) (found : ℕ) → IsNotLegal old act expected found → memory_by old act ≡ Err (not_legal expected found)
unfolding memory_by
refused_by old act expected found fault =
    rw (not_true (is_legal_use old act) (λ is. fault.not_legal (test_legal old act is)), sym fault.expected_is, sym fault.found_is) refl
