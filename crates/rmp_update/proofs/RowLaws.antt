-- The rows of RMPUPDATE that look at a region, by the size of the range, and what the tests tell.
use Rattle.std.proofs.Common.{◌≡◌, ℕ, zero, suc, ◌+◌, ◌%◌, ◌<◌, ◌≤◌, Bool, true, false, not, cond, if◌then◌else◌, ◌&&◌, ◌||◌, Option, Some, None, Result, Err, eqb, refl, sym, ap, ◌∙◌, inl, inr, arith}
use Rattle.std.specs.List.{list_any, range_with_len}
use Rattle.std.specs.Option.{option_or}
use Rattle.std.proofs.lemmas.Bool.{cases_eq, eqb-true, false≢true, not-false, or_parts, or_right}
use Rattle.snp_model.specs.declared.entry.RmpEntry.{RmpEntry}
use Rattle.snp_model.specs.declared.entry.PageSize.{PageSize}
use Rattle.snp_model.specs.declared.entry.PageSize.TheVariants.{Small, Large}
use Rattle.snp_model.specs.declared.event.Refusal.{Refusal}
use Rattle.snp_model.specs.declared.event.Refusal.TheVariants.{Status, InUse}
use Rattle.snp_model.specs.declared.item.Update.{Update}
use Rattle.snp_model.specs.Entries.{Entries, facts_at, holder_at}
use Rattle.snp_model.specs.Facts.{frames_in, some_frame}
use Rattle.snp_model.specs.Locks.{range_holder}
use Rattle.snp_model.specs.RmpUpdate.{in_use_or, is_bad_update, overlaps, smash_page_refusal, update_range_refusal}
use Rattle.snp_model.specs.Verdicts.{is_large}
use Rattle.rmp_update.specs.Regions.{HoldsRange, IsAccepted, IsRange, IsTested, first_slot, large_refusal, region_refusal, small_refusal}

-- a frame that passes a test, and none that does
pub frame_is : (test : ℕ → Bool) (a n k : ℕ) → a ≤ k → k < a + n → test k ≡ true → true ≡ list_any test (range_with_len a n)
frame_is test a zero k low high is = absurd (omega arith)
frame_is test a (suc n) k low high is = elim (cases_eq k a) [
  | inl e ↦ ap (λ (b : Bool). b || list_any test (range_with_len (a + 1) n)) (sym is ∙ ap test e)
  | inr o ↦ sym (or_right (test a) _ (sym (frame_is test (a + 1) n k (omega (arith, o)) (omega arith) is)))
]

pub no_frame : (test : ℕ → Bool) (a n : ℕ) → ((k : ℕ) → a ≤ k → k < a + n → test k ≡ false) → false ≡ list_any test (range_with_len a n)
no_frame test a zero none = refl
no_frame test a (suc n) none =
    no_frame test (a + 1) n (λ k low high. none k (omega arith) (omega arith)) ∙ ap (λ (b : Bool). b || list_any test (range_with_len (a + 1) n)) (sym (none a (omega arith) (omega arith)))

pub some_frame_is : (test : ℕ → Bool) (k : ℕ) → k < 512 → test k ≡ true → true ≡ some_frame test 0 512
unfolding some_frame
some_frame_is test k low is = frame_is test 0 512 k (omega arith) (omega arith) is

pub some_frame_none : (test : ℕ → Bool) → ((k : ℕ) → k < 512 → test k ≡ false) → false ≡ some_frame test 0 512
unfolding some_frame
some_frame_none test none = no_frame test 0 512 (λ k low high. none k (omega arith))

pub some≢none : {X : Type 0} (x : X) → Some x ≡ None → ⊥
some≢none x e = cc

-- a row that doesn't apply
cond_none : {X : Type 0} (b : Bool) (x : X) (y : Option X) → cond b (Some x) y ≡ None → b ≡ false
cond_none true x y none = absurd (some≢none x none)
cond_none false x y none = refl

is_small : (size : PageSize) → is_large size ≡ false → size ≡ Small
is_small Small e = refl
is_small Large e = absurd (false≢true (sym e))

is_big : (size : PageSize) → is_large size ≡ true → size ≡ Large
is_big Small e = absurd (false≢true e)
is_big Large e = refl

-- what is tested before any entry is looked at
pub accepted_frame : (frames : ℕ) (update : Update) → is_bad_update frames update ≡ false → update.size ≡ Large → update.frame % 512 ≡ 0
unfolding is_bad_update
accepted_frame frames update ok large =
    let row = (or_parts _ _ (or_parts _ _ (or_parts _ _ (or_parts _ _ ok).0).0).0).1 in
    let odd : not (eqb (update.frame % 512) 0) ≡ false = ap (λ (s : PageSize). is_large s && not (eqb (update.frame % 512) 0)) (sym large) ∙ row in
    eqb-true _ _ (not-false _ odd)

pub accepted_gpn : (frames : ℕ) (update : Update) → is_bad_update frames update ≡ false → update.size ≡ Large → update.assigned ≡ true → update.gpn % 512 ≡ 0
unfolding is_bad_update
accepted_gpn frames update ok large assigned =
    let row = (or_parts _ _ (or_parts _ _ (or_parts _ _ ok).0).0).1 in
    let odd : (not (eqb (update.gpn % 512) 0) || eqb update.asid 0) ≡ false =
    ap (λ (s : PageSize). (is_large s && true) && (not (eqb (update.gpn % 512) 0) || eqb update.asid 0)) (sym large)
    ∙ ap (λ (b : Bool). (is_large update.size && b) && (not (eqb (update.gpn % 512) 0) || eqb update.asid 0)) (sym assigned)
    ∙ row in
    eqb-true _ _ (not-false _ (or_parts _ _ odd).0)

-- the rows, by the size of the range
sized : PageSize → Update → (ℕ → RmpEntry) → (ℕ → Option ℕ) → Option Refusal
sized size update facts holder = update_range_refusal (record update { size = size }) facts holder

one_row : Entries → ℕ → Option Refusal
one_row rmp slot =
    in_use_or (option_or (holder_at rmp slot) None) (
    if is_large (facts_at rmp slot).size then Some (Status 4)
    else if (facts_at rmp slot).immutable || false then Some (Status 2)
    else None)

sized_small : (update : Update) (rmp : Entries) (slot : ℕ) → sized Small update (λ place. facts_at rmp (slot + place)) (λ place. holder_at rmp (slot + place)) ≡ one_row rmp (slot + 0)
unfolding sized one_row update_range_refusal overlaps some_frame range_holder
sized_small update rmp slot = refl

or_none : {X : Type 0} (o : Option X) → option_or o None ≡ o
or_none None = refl
or_none (Some x) = refl

or_false : (b : Bool) → (b || false) ≡ b
or_false true = refl
or_false false = refl

one_row_is : (rmp : Entries) (slot : ℕ) → one_row rmp slot ≡ small_refusal rmp slot
unfolding one_row
one_row_is rmp slot =
    ap (λ (o : Option ℕ). in_use_or o (cond (is_large (facts_at rmp slot).size) (Some (Status 4)) (cond ((facts_at rmp slot).immutable || false) (Some (Status 2)) None))) (or_none (holder_at rmp slot))
    ∙ ap (λ (b : Bool). in_use_or (holder_at rmp slot) (cond (is_large (facts_at rmp slot).size) (Some (Status 4)) (cond b (Some (Status 2)) None))) (or_false (facts_at rmp slot).immutable)

sized_as : (update : Update) (facts : ℕ → RmpEntry) (holder : ℕ → Option ℕ) (size : PageSize) → update.size ≡ size → update_range_refusal update facts holder ≡ sized size update facts holder
unfolding sized
sized_as update facts holder size is = ap (λ (s : PageSize). update_range_refusal (record update { size = s }) facts holder) is

pub small_rows : (update : Update) (rmp : Entries) → update.size ≡ Small → region_refusal update rmp ≡ small_refusal rmp (first_slot update)
small_rows update rmp small =
    let slot = first_slot update in
    let here : slot + 0 ≡ slot = omega arith in
    sized_as update (λ place. facts_at rmp (slot + place)) (λ place. holder_at rmp (slot + place)) Small small
    ∙ sized_small update rmp slot
    ∙ ap (one_row rmp) here
    ∙ one_row_is rmp slot

sized_large : (update : Update) (rmp : Entries) → sized Large update (facts_at rmp) (holder_at rmp) ≡ large_refusal rmp
unfolding sized update_range_refusal overlaps
sized_large update rmp = refl

pub large_rows : (update : Update) (rmp : Entries) → update.size ≡ Large → first_slot update ≡ 0 → region_refusal update rmp ≡ large_refusal rmp
large_rows update rmp large first =
    let same : (place : ℕ) → first_slot update + place ≡ place = λ place. omega (arith, first) in
    (λ i. update_range_refusal update (λ place. facts_at rmp (same place i)) (λ place. holder_at rmp (same place i)))
    ∙ sized_as update (facts_at rmp) (holder_at rmp) Large large
    ∙ sized_large update rmp

-- what the commit asks, from what was tested
tested_small : (rmp : Entries) (update : Update) (slot : ℕ) → update_range_refusal update (λ place. facts_at rmp (slot + place)) (λ _. None) ≡ None → update.size ≡ Small → is_large (facts_at rmp (slot + 0)).size ≡ false
unfolding sized update_range_refusal overlaps range_holder
tested_small rmp update slot tested small =
    cond_none _ _ _ (sym (sized_as update (λ place. facts_at rmp (slot + place)) (λ _. None) Small small) ∙ tested)

holds_all : (rmp : Entries) (update : Update) (actor : ℕ) → HoldsRange rmp update actor → update.size ≡ Large → first_slot update ≡ 0 → (slot : ℕ) → slot < 512 → holder_at rmp slot ≡ Some actor
holds_all rmp update actor held large first slot low =
    let many : frames_in update.size ≡ 512 = ap frames_in large in
    let same : first_slot update + slot ≡ slot = omega (arith, first) in
    ap (holder_at rmp) (sym same) ∙ held slot (omega (arith, many))

inside_is : (slot : ℕ) (size : PageSize) → slot < 512 → (size ≡ Large → slot ≡ 0) → slot + frames_in size ≤ 512
inside_is slot Small low first = omega arith
inside_is slot Large low first = let none = first refl in omega arith

pub range_is : (rmp : Entries) (update : Update) (actor : ℕ) → IsAccepted update → HoldsRange rmp update actor → IsTested rmp update → IsRange rmp update (first_slot update)
range_is rmp update actor accepted held tested = record {
  inside = inside_is (first_slot update) update.size (omega arith) (λ large. accepted_frame accepted.0 update accepted.1 large);
  first = λ large. accepted_frame accepted.0 update accepted.1 large;
  aligned = λ large assigned. accepted_gpn accepted.0 update accepted.1 large assigned;
  small = λ small.
      let here : first_slot update + 0 ≡ first_slot update = omega arith in
      is_small _ (ap (λ (s : ℕ). is_large (facts_at rmp s).size) (sym here) ∙ tested_small rmp update (first_slot update) tested small);
  one_holder = λ large slot low.
      let all = holds_all rmp update actor held large (accepted_frame accepted.0 update accepted.1 large) in
      all slot low ∙ sym (all 0 (omega arith));
}

-- PSMASH
pub smash_large : (facts : RmpEntry) → smash_page_refusal facts None ≡ None → facts.size ≡ Large
unfolding smash_page_refusal
smash_large facts tested = is_big facts.size (not-false _ (cond_none _ _ _ tested))

-- the holder that a refusal names
same_error : (x y : Refusal) → ◌≡◌ {A = Result (Unit {0}) Refusal} (Err x) (Err y) → x ≡ y
same_error x y same = cc

same_in_use : (x y : ℕ) → InUse x ≡ InUse y → x ≡ y
same_in_use x y same = cc

pub same_holder : (x y : ℕ) → ◌≡◌ {A = Result (Unit {0}) Refusal} (Err (InUse x)) (Err (InUse y)) → x ≡ y
same_holder x y same = same_in_use x y (same_error (InUse x) (InUse y) same)

-- a holder of a lock is no actor that holds none
pub not_holding : (rmp : Entries) (actor holder : ℕ) → ((slot : ℕ) → slot < 512 → holder_at rmp slot ≡ Some actor → ⊥) → ((slot : ℕ) × (slot < 512) × (holder_at rmp slot ≡ Some holder)) → holder ≡ actor → ⊥
not_holding rmp actor holder none at own = none at.0 at.1 (at.2 ∙ ap (λ (h : ℕ). let o : Option ℕ = Some h in o) own)
