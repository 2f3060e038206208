-- Pages of a region of the RMP that are changed as a whole.
use Rattle.std.proofs.Common.{◌≡◌, ℕ, None, get_or, ◌+◌, ◌-◌, ◌*◌, ◌/◌, ◌<◌, ◌≤◌, true, false, refl, sym, ap, ◌∙◌, inl, inr, arith}
use Rattle.std.proofs.lemmas.Bool.{cases_Bool, cond-true, cond-false}
use Rattle.std.proofs.lemmas.Bool.Decides.{nat_tests}
use Rattle.snp_model.specs.declared.entry.RmpEntry.{RmpEntry}
use Rattle.snp_model.specs.declared.entry.PageSize.{PageSize}
use Rattle.snp_model.specs.declared.entry.PageSize.TheVariants.{Small, Large}
use Rattle.snp_model.specs.Entries.{Entries, IsTable, facts_at, facts_within, holder_at, with_entry}
use Rattle.snp_model.specs.Facts.{free_entry, frames_in, page_base}
use Rattle.snp_model.specs.Locks.{in_range, over, over_lock, page_lock}

inside : (base count k : ℕ) → in_range base count k ≡ true → (base ≤ k) × (k < base + count)
inside base count k is = (grind (arith, nat_tests), grind (arith, nat_tests))

outside : (base count k : ℕ) → in_range base count k ≡ false → base ≤ k → k < base + count → ⊥
outside base count k is low high = grind (arith, nat_tests)

over_at : {X : Type 0} (new kept : ℕ → X) (base count : ℕ) (change : ℕ → X → X) → ((k : ℕ) → base ≤ k → k < base + count → new k ≡ change (k - base) (kept k)) → ((k : ℕ) → (base ≤ k → k < base + count → ⊥) → new k ≡ kept k) → (k : ℕ) → new k ≡ over base count change kept k
over_at new kept base count change here there k = elim (cases_Bool (in_range base count k)) [
  | inl is ↦ let at = inside base count k is in here k at.0 at.1 ∙ sym (cond-true _ _ _ is)
  | inr is ↦ there k (outside base count k is) ∙ sym (cond-false _ _ _ is)
]

-- a range is changed, where each frame in it is and each other stays
pub over_is : {X : Type 0} (new kept : ℕ → X) (base count : ℕ) (change : ℕ → X → X) → ((k : ℕ) → base ≤ k → k < base + count → new k ≡ change (k - base) (kept k)) → ((k : ℕ) → (base ≤ k → k < base + count → ⊥) → new k ≡ kept k) → new ≡ over base count change kept
over_is new kept base count change here there = λ i k. over_at new kept base count change here there k i

-- each frame of a range
pub over_in : {X : Type 0} (base count : ℕ) (change : ℕ → X → X) (kept : ℕ → X) (k : ℕ) → base ≤ k → k < base + count → over base count change kept k ≡ change (k - base) (kept k)
over_in base count change kept k low high = cond-true _ _ _ (let is : in_range base count k ≡ true = grind (arith, nat_tests) in is)

-- and each other frame
pub over_out : {X : Type 0} (base count : ℕ) (change : ℕ → X → X) (kept : ℕ → X) (k : ℕ) → (base ≤ k → k < base + count → ⊥) → over base count change kept k ≡ kept k
over_out base count change kept k out = elim (cases_Bool (in_range base count k)) [
  | inl is ↦ let at = inside base count k is in absurd (out at.0 at.1)
  | inr is ↦ cond-false _ _ _ is
]

-- two changes that do the same to each frame of a range
pub over_alike : {X : Type 0} (base count : ℕ) (change change' : ℕ → X → X) (kept : ℕ → X) → ((k : ℕ) → base ≤ k → k < base + count → change (k - base) (kept k) ≡ change' (k - base) (kept k)) → over base count change kept ≡ over base count change' kept
over_alike base count change change' kept same =
    over_is (over base count change kept) kept base count change' (λ k low high. over_in base count change kept k low high ∙ same k low high) (λ k out. over_out base count change kept k out)

-- a change of facts that doesn't look at the page number, and leaves the size
pub record IsOfPage (change : RmpEntry → RmpEntry) : Type 0 where
  pub same_size : (entry : RmpEntry) → (change entry).size ≡ entry.size
  pub follows : (entry : RmpEntry) (place : ℕ) → facts_within (change entry) place ≡ change (facts_within entry place)

pub within_first : (entry : RmpEntry) → facts_within entry 0 ≡ entry
within_first entry = let e : entry.gpn + 0 ≡ entry.gpn = omega arith in λ i. record entry { gpn = e i }

-- where the first entry of a page is so changed, all of the page's frames are
changed_by : (rmp : Entries) (slot : ℕ) (size : PageSize) (change : RmpEntry → RmpEntry) → IsTable rmp → slot < 512 → IsOfPage change → (facts_at rmp slot).size ≡ size
    → over (page_base size slot) (frames_in size) (λ place old. facts_within (change (facts_at rmp (page_base size slot))) place) (facts_at rmp) ≡ over_lock (page_lock size slot) change (facts_at rmp)
changed_by rmp slot Small change table low of is =
    over_alike slot 1 (λ place old. facts_within (change (facts_at rmp slot)) place) (λ place old. change old) (facts_at rmp)
    (λ k h l.
    let none : k - slot ≡ 0 = omega arith in
    let here : slot ≡ k = omega arith in
    ap (facts_within (change (facts_at rmp slot))) none ∙ within_first (change (facts_at rmp slot)) ∙ ap (λ (j : ℕ). change (facts_at rmp j)) here)
changed_by rmp slot Large change table low of is =
    let page = table.one_page slot low is in
    over_alike (slot / 512 * 512) 512 (λ place old. facts_within (change (facts_at rmp (slot / 512 * 512))) place) (λ place old. change old) (facts_at rmp)
    (λ k h l.
    let first : slot / 512 * 512 ≡ 0 = omega arith in
    let same : k - slot / 512 * 512 ≡ k = omega arith in
    ap (facts_within (change (facts_at rmp (slot / 512 * 512)))) same
    ∙ ap (λ (j : ℕ). facts_within (change (facts_at rmp j)) k) first
    ∙ of.follows (facts_at rmp 0) k
    ∙ ap change (sym (page.follow k (omega arith))))

pub page_changed : (rmp : Entries) (slot : ℕ) (change : RmpEntry → RmpEntry) (entry : RmpEntry) → IsTable rmp → slot < 512 → IsOfPage change → entry ≡ change (facts_at rmp (page_base (facts_at rmp slot).size slot)) → entry.size ≡ (facts_at rmp slot).size
    → with_entry (page_base entry.size slot) entry (facts_at rmp) ≡ over_lock (page_lock (facts_at rmp slot).size slot) change (facts_at rmp)
page_changed rmp slot change entry table low of is size =
    ap (λ (s : PageSize). over (page_base s slot) (frames_in s) (λ place old. facts_within entry place) (facts_at rmp)) size
    ∙ ap (λ (e : RmpEntry). over (page_base (facts_at rmp slot).size slot) (frames_in (facts_at rmp slot).size) (λ place old. facts_within e place) (facts_at rmp)) is
    ∙ changed_by rmp slot (facts_at rmp slot).size change table low of refl

-- what is told by frame stays where the lists stay
pub same_facts : (new old : Entries) → new.facts ≡ old.facts → facts_at new ≡ facts_at old
same_facts new old same = λ i k. get_or (same i) k free_entry

pub same_holders : (new old : Entries) → new.holders ≡ old.holders → holder_at new ≡ holder_at old
same_holders new old same = λ i k. get_or (same i) k None
