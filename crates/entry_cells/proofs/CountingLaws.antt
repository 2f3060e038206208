-- Counting the entries that name a cell, and what a pass holds after a step.
use Rattle.std.proofs.Common.{◌≡◌, ◌≢◌, ◌⊎◌, ℕ, ◌+◌, ◌<◌, ◌≤◌, Bool, true, false, ◌==◌, List, [], ◌∷◌, ◌++◌, length, set, sym, refl, ap, ◌∙◌, subst, append-nil, inl, inr, ⊎_elim, true≢false, eq-eqb, arith}
use mathlib.Core.Option.{some}
use lib.ListN.{get_elem?}
use Rattle.atomic_table.proofs.Lists.{at_set, set_else}
use Rattle.std.specs.Bool.{OnTrue, OnFalse}
use Rattle.entry_cells.specs.Views.{Holds, Adds}
use Rattle.entry_cells.specs.Counting.{counted, named, AreInside, Names, named_append}
use Rattle.entry_cells.specs.declared.board.View.{View}

pub inside_push : (c : ℕ) (xs ys : List (ℕ × ℕ)) (a k : ℕ) → ys ≡ xs ++ (a, k) ∷ [] → k < c → AreInside c xs → AreInside c ys
inside_push c xs ys a k e near h = subst (AreInside c) (sym e) (longer xs h)
  where
    longer : (zs : List (ℕ × ℕ)) → AreInside c zs → AreInside c (zs ++ (a, k) ∷ [])
    longer [] t = (near, tt)
    longer (z ∷ zs) t = (t.0, longer zs t.1)

pub named_push : (k a : ℕ) (xs ys : List (ℕ × ℕ)) → ys ≡ xs ++ (a, k) ∷ [] → named k ys ≡ named k xs + 1
named_push k a xs ys e = let whole : named k ys ≡ named k (xs ++ (a, k) ∷ []) = ap (named k) e in let both = named_append k xs ((a, k) ∷ []) in let one : counted (k == k) ≡ 1 = ap (λ (b : Bool). counted b) (eq-eqb k k refl) in omega arith

at_most_one : (b : Bool) → counted b ≤ 1
at_most_one true = omega arith
at_most_one false = omega arith

pub named_below : (k : ℕ) (xs : List (ℕ × ℕ)) → named k xs ≤ length xs
named_below k [] = omega arith
named_below k (x ∷ xs) = let one = at_most_one (x.1 == k) in let h : named k xs ≤ length xs = named_below k xs in omega arith

-- one more cell is held
pub held_more : (bs : List Bool) (k j : ℕ) → get_elem? (set bs k true) j ≡ some true → (j ≡ k) ⊎ (get_elem? bs j ≡ some true)
held_more bs k j h = ⊎_elim (λ t. inl t.0) (λ t. inr t.1) (at_set bs k j true true h)

-- one cell less is held
pub held_less : (bs : List Bool) (k j : ℕ) → get_elem? (set bs k false) j ≡ some true → (j ≢ k) × (get_elem? bs j ≡ some true)
held_less bs k j h = ⊎_elim (λ t. absurd (true≢false (sym t.1))) (λ t. t) (at_set bs k j false true h)

-- another cell is taken
pub still_held : (bs cs : List Bool) (k n : ℕ) → cs ≡ set bs n true → k < n → get_elem? bs k ≡ some true → get_elem? cs k ≡ some true
still_held bs cs k n e near here = ap (λ (ds : List Bool). get_elem? ds k) e ∙ set_else bs n k true (λ is. absurd (omega arith)) ∙ here

-- another cell is taken and given back
pub held_as_before : (bs cs : List Bool) (k n : ℕ) → cs ≡ set (set bs n true) n false → k < n → get_elem? bs k ≡ some true → ((j : ℕ) → get_elem? bs j ≡ some true → j ≡ k)
    → (get_elem? cs k ≡ some true) × ((j : ℕ) → get_elem? cs j ≡ some true → j ≡ k)
held_as_before bs cs k n e near here only = let ne : k ≢ n = (λ is. absurd (omega arith)) in subst (λ (ds : List Bool). (get_elem? ds k ≡ some true) × ((j : ℕ) → get_elem? ds j ≡ some true → j ≡ k)) (sym e) (
  set_else (set bs n true) n k false ne ∙ set_else bs n k true ne ∙ here,
  λ j h. let less = held_less (set bs n true) n j h in ⊎_elim (λ is. absurd (less.0 is)) (λ t. only j t) (held_more bs n j less.1),
)

-- the list of a journal after a pass that holds the cell k added an entry of k, or none
pub adds_one : (b : Bool) (n c k a : ℕ) (v : View ℕ ℕ) (ys : List (ℕ × ℕ)) → v.actor ≡ a → OnTrue b (ys ≡ v.seen ++ (a, k) ∷ []) → OnFalse b (ys ≡ v.seen) → Holds v k → Adds Names n c v ys
adds_one true n c k a v ys is added same h = (k ∷ [], added ∙ ap (λ (x : ℕ). v.seen ++ (x, k) ∷ []) (sym is), λ j near free. ((λ e. free (subst (λ (i : ℕ). Holds v i) e h)), tt))
adds_one false n c k a v ys is added same h = ([], same ∙ sym (append-nil v.seen), λ j near free. tt)

pub inside_one : (b : Bool) (c k a : ℕ) (xs ys : List (ℕ × ℕ)) → OnTrue b (ys ≡ xs ++ (a, k) ∷ []) → OnFalse b (ys ≡ xs) → k < c → AreInside c xs → AreInside c ys
inside_one true c k a xs ys added same near h = inside_push c xs ys a k added near h
inside_one false c k a xs ys added same near h = subst (AreInside c) (sym same) h
