-- At the opening of a valid scenario all that ties a guest's pages to their holders holds.
use Rattle.std.proofs.Common.{◌≡◌, ℕ, zero, suc, ◌+◌, ◌-◌, ◌<◌, ◌≤◌, ◌⊎◌, Bool, true, false, cond, eqb, List, [], ◌∷◌, ◌++◌, length, slice_get, None, refl, sym, ap, ◌∙◌, subst, ⊎_elim, inl, inr, arith}
use Rattle.std.specs.Prelude.{◌&&◌}
use Rattle.std.proofs.lemmas.Bool.{cond_both}
use Rattle.std.proofs.lemmas.Bool.Decides.{nat_tests}
use Rattle.std.proofs.lemmas.List.{length-append}
use Rattle.snp_model.specs.declared.entry.Kind.TheVariants as kinds
use Rattle.snp_model.specs.declared.scenario.Scenario.{Scenario}
use Rattle.snp_model.specs.GuestMemory.{Memory, opening_memory}
use Rattle.snp_model.specs.Holders.{Holder, InFrame, IsHeldAs, Core, frame_holder, sealed_holders, holders}
use Rattle.snp_model.specs.Live.{Vault, vault_of, is_metadata_kind, rows, page_live, root_live, live}
use Rattle.snp_model.specs.Opening.{asid_of, words_from, opening}
use Rattle.snp_model.specs.Past.{Past}
use Rattle.snp_model.specs.Sound.{Pairwise, IsSound}
use Rattle.snp_model.specs.State.{zero_words}
use Rattle.run_laws.specs.Invariant.{IsUnique}
use Rattle.run_laws.specs.Uniqueness.{Seals, CountersDiffer, IsSingle}
use Rattle.run_laws.proofs.CoreLaws.{IsDead}
use Rattle.run_laws.proofs.OpeningHolders.{opening_holders}
use Rattle.run_laws.proofs.OpeningLaws.{opening_plain, no_root, some_none, plain_metadata, opening_dead}
use Rattle.run_laws.proofs.OpeningParts.{opening_locked, opening_made, opening_shaped}
use Rattle.run_laws.proofs.SealOutCommit.{Ties}

-- no frame is of kind Metadata, and there is no root
pub record IsPlain (vault : Vault) : Type 0 where
  pub kinds_are : (frame : ℕ) → (vault.pages frame).facts.kind ≡ kinds.Plain
  pub no_root : vault.context.root ≡ None

-- so no entry is listed
rows_none : {X : Type 0} (of : ℕ → List X) (first count : ℕ) → ((k : ℕ) → of k ≡ []) → rows of first count ≡ []
unfolding rows
rows_none of first zero none = refl
rows_none of first (suc count) none = ap (λ xs. xs ++ rows of (first + 1) count) (none first) ∙ rows_none of (first + 1) count none

none_if : {X : Type 0} (test : Bool) (xs : List X) → test ≡ false → cond test xs [] ≡ []
none_if true xs is = absurd (cc)
none_if false xs is = refl

page_none : (asid : ℕ) (vault : Vault) → IsPlain vault → (frame : ℕ) → page_live asid vault frame ≡ []
unfolding page_live
page_none asid vault plain frame = none_if _ _ (ap is_metadata_kind (plain.kinds_are frame))

root_none : (asid : ℕ) (vault : Vault) → IsPlain vault → root_live asid vault.archive vault.context.root ≡ []
unfolding root_live
root_none asid vault plain = ap (root_live asid vault.archive) plain.no_root

live_none : (asid : ℕ) (vault : Vault) (frames : ℕ) → IsPlain vault → live asid vault frames ≡ []
unfolding live
live_none asid vault frames plain =
    ap (λ xs. xs ++ root_live asid vault.archive vault.context.root) (rows_none (page_live asid vault) 0 frames (page_none asid vault plain)) ∙ root_none asid vault plain

-- rows of which one at most has an element have one at most
rows_length : {X : Type 0} (of : ℕ → List X) (first count : ℕ) → length (rows of first (suc count)) ≡ length (of first) + length (rows of (first + 1) count)
unfolding rows
rows_length of first count = length-append (of first) (rows of (first + 1) count)

rows_empty : {X : Type 0} (of : ℕ → List X) (first count : ℕ) → ((k : ℕ) → first ≤ k → length (of k) ≡ 0) → length (rows of first count) ≡ 0
unfolding rows
rows_empty of first zero none = refl
rows_empty of first (suc count) none =
    let here = none first (omega arith) in
    let later = rows_empty of (first + 1) count (λ k above. none k (omega arith)) in
    let both = rows_length of first count in
    omega arith

rows_one : {X : Type 0} (of : ℕ → List X) (first count : ℕ) → ((k : ℕ) → length (of k) ≤ 1) → ((k l : ℕ) → 0 < length (of k) → 0 < length (of l) → k ≡ l) → length (rows of first count) ≤ 1
unfolding rows
rows_one of first zero each one = omega arith
rows_one of first (suc count) each one =
    let both = rows_length of first count in
    let most = each first in
    let later = rows_one of (first + 1) count each one in
    ⊎_elim
    (λ (some : 0 < length (of first)).
    let none = rows_empty of (first + 1) count (λ k above. empty_from of first k above some (each k) (one first k)) in
    omega arith)
    (λ (none : length (of first) ≡ 0). omega arith)
    (some_or_none (length (of first)))
  where
    some_or_none : (n : ℕ) → (0 < n) ⊎ (n ≡ 0)
    some_or_none zero = inr refl
    some_or_none (suc n) = inl (omega arith)

    empty_from : {X : Type 0} (of : ℕ → List X) (first k : ℕ) → first + 1 ≤ k → 0 < length (of first) → length (of k) ≤ 1 → (0 < length (of first) → 0 < length (of k) → first ≡ k) → length (of k) ≡ 0
    empty_from of first k above some most same =
        ⊎_elim (λ (other : 0 < length (of k)). absurd (let e = same some other in omega arith)) (λ (none : length (of k) ≡ 0). none) (some_or_none (length (of k)))

-- the holders are the frames that hold the page
one_most : {X : Type 0} (test : Bool) (x : X) → length (cond test (x ∷ []) []) ≤ 1
one_most true x = omega arith
one_most false x = omega arith

frame_most : (asid : ℕ) (vault : Vault) (gpn frame : ℕ) → length (frame_holder asid vault gpn frame) ≤ 1
unfolding frame_holder
frame_most asid vault gpn frame = one_most _ (InFrame frame)

held_if : (asid gpn : ℕ) (vault : Vault) (frame : ℕ) → 0 < length (frame_holder asid vault gpn frame) → IsHeldAs (vault.pages frame).facts asid gpn
unfolding frame_holder
held_if asid gpn vault frame =
    let facts = (vault.pages frame).facts in
    cond_both (facts.assigned && facts.validated && eqb facts.asid asid && eqb facts.gpn gpn) _ _ (λ (xs : List Holder). 0 < length xs → IsHeldAs facts asid gpn)
    (λ is some. record { assigned = grind (arith, nat_tests, is); validated = grind (arith, nat_tests, is); asid_is = grind (arith, nat_tests, is); gpn_is = grind (arith, nat_tests, is) })
    (λ no some. absurd (omega arith))

in_frames : (k l : ℕ) → InFrame k ≡ InFrame l → k ≡ l
in_frames k l e = cc

one_holder : (asid : ℕ) (vault : Vault) (memory : Memory) (frames gpn : ℕ) → IsPlain vault → Core asid vault memory → length (holders asid vault frames gpn) ≤ 1
unfolding holders sealed_holders
one_holder asid vault memory frames gpn plain core =
    let one = rows_one (frame_holder asid vault gpn) 0 frames (frame_most asid vault gpn)
    (λ k l x y. in_frames k l (core.unique gpn (InFrame k) (InFrame l) (vault.pages k).words (vault.pages l).words (held_if asid gpn vault k x, refl) (held_if asid gpn vault l y, refl))) in
    let none : length (sealed_holders gpn (live asid vault frames)) ≡ 0 = ap (λ xs. length (sealed_holders gpn xs)) (live_none asid vault frames plain) in
    let both = length-append (rows (frame_holder asid vault gpn) 0 frames) (sealed_holders gpn (live asid vault frames)) in
    omega arith

plain_single : (asid : ℕ) (vault : Vault) (memory : Memory) (frames : ℕ) → IsPlain vault → Core asid vault memory → IsSingle asid vault frames
plain_single asid vault memory frames plain core = record {
  one_holder = λ gpn. one_holder asid vault memory frames gpn plain core;
  counters_differ = subst (Pairwise CountersDiffer) (sym (live_none asid vault frames plain)) tt;
}

plain_seals : (asid : ℕ) (vault : Vault) → IsPlain vault → IsDead asid vault → Seals asid vault
plain_seals asid vault plain dead = record {
  counters = λ s t x y a b same. absurd (dead s x a);
  sealed = λ s x a. absurd (dead s x a);
  inner = λ s x archived number y a kind kept is. absurd (dead s x a);
  low = λ frame number x is. absurd (plain_metadata _ is.metadata (plain.kinds_are frame));
  root = λ x is. absurd (some_none x _ is plain.no_root);
}

opening_is_plain : (c : Scenario) (guest : ℕ) (past : Past) → IsPlain (vault_of guest (opening c).contents (past.archive guest))
unfolding opening
opening_is_plain c guest past = record { kinds_are = opening_plain c.guests c.pages; no_root = no_root (slice_get c.guests (guest - 1)) }

opening_is_dead : (c : Scenario) (guest : ℕ) (past : Past) → IsDead (asid_of (opening c).guests guest) (vault_of guest (opening c).contents (past.archive guest))
unfolding opening
opening_is_dead c guest past = opening_dead c.guests guest c.pages (words_from (λ _. zero_words) c.words) (asid_of c.guests guest) (past.archive guest)

opening_core_of : (c : Scenario) (guest : ℕ) (past : Past) → IsSound c → 0 < guest → guest ≤ length c.guests
    → Core (asid_of (opening c).guests guest) (vault_of guest (opening c).contents (past.archive guest)) (opening_memory c guest)
unfolding opening
opening_core_of c guest past sound some most = opening_holders c guest (past.archive guest) sound some most

pub opening_ties : (c : Scenario) (guest : ℕ) (past : Past) → IsSound c → 0 < guest → guest ≤ length c.guests
    → Ties (asid_of (opening c).guests guest) (vault_of guest (opening c).contents (past.archive guest)) (opening_memory c guest)
opening_ties c guest past sound some most = record {
  core = opening_core_of c guest past sound some most;
  seals = plain_seals (asid_of (opening c).guests guest) (vault_of guest (opening c).contents (past.archive guest)) (opening_is_plain c guest past) (opening_is_dead c guest past);
}

pub opening_unique : (c : Scenario) (guest : ℕ) (past : Past) → IsSound c → 0 < guest → guest ≤ length c.guests → IsUnique guest (opening c) past (opening_memory c guest)
opening_unique c guest past sound some most =
    let m = opening c in
    let asid = asid_of m.guests guest in
    let vault = vault_of guest m.contents (past.archive guest) in
    let ties = opening_ties c guest past sound some most in
    record {
      single = plain_single asid vault (opening_memory c guest) m.frames (opening_is_plain c guest past) ties.core;
      held = ties.core.held;
      known_words = ties.core.agree;
      seals = ties.seals;
      locks = opening_locked c;
      made = opening_made guest c past;
      shapes = opening_shaped c sound;
    }
