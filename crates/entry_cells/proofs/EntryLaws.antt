-- Lists of pairs of actor and entry, and lists read by place.
use Rattle.std.proofs.Common.{◌≡◌, ◌≢◌, ◌⊎◌, ℕ, zero, suc, ◌<◌, Bool, true, false, ◌==◌, List, [], ◌∷◌, ◌++◌, length, set, replicate, slice_index, Option, Some, unwrap_or, sym, refl, ap, ◌∙◌, subst, inl, inr, ⊎_elim, append_assoc, append-nil, true≢false, get_or-set_other, get_or-set_same, arith}
use mathlib.Core.Option.{some, some-injective, some-ne-none}
use lib.ListN.{get_elem?}
use Rattle.std.proofs.lemmas.Bool.{ne_eqb}
use Rattle.std.proofs.Common.{eq-eqb}
use Rattle.std.specs.Prelude.{if◌then◌else◌}
use Rattle.entry_cells.specs.Entries.{Untouched, with_entry, entries_of, all_of}

pub some_is : {A : Type 0} (a b : A) → Some a ≡ Some b → a ≡ b
some_is {A} a b e = ap (λ (o : Option A). unwrap_or o a) e

module _ {E : Type 0} where
  pub untouched_append : (P : List (ℕ × E) → ℕ × E → ℕ → Type 0) (xs ys zs : List (ℕ × E)) (k : ℕ) → Untouched P xs ys k → Untouched P (xs ++ ys) zs k → Untouched P xs (ys ++ zs) k
  untouched_append P xs [] zs k h g = subst (λ (us : List (ℕ × E)). Untouched P us zs k) (append-nil xs) g
  untouched_append P xs (y ∷ ys) zs k h g = (h.0, untouched_append P (xs ++ y ∷ []) ys zs k h.1 (subst (λ (us : List (ℕ × E)). Untouched P us zs k) (sym (append_assoc xs (y ∷ []) ys)) g))

  entry_before : (a : ℕ) (x : ℕ × E) (b : Bool) (es fs : List E) → (if b then x.1 ∷ (es ++ fs) else es ++ fs) ≡ (if b then x.1 ∷ es else es) ++ fs
  entry_before a x true es fs = refl
  entry_before a x false es fs = refl

  pub entries_append : (a : ℕ) (xs ys : List (ℕ × E)) → entries_of a (xs ++ ys) ≡ entries_of a xs ++ entries_of a ys
  entries_append a [] ys = refl
  entries_append a (x ∷ xs) ys = ap (with_entry a x) (entries_append a xs ys) ∙ entry_before a x (x.0 == a) (entries_of a xs) (entries_of a ys)

  one_same : (b : Bool) (e : E) (es : List E) → b ≡ true → (if b then e ∷ es else es) ≡ e ∷ es
  one_same b e es h = ap (λ (d : Bool). if d then e ∷ es else es) h

  one_other : (b : Bool) (e : E) (es : List E) → b ≡ false → (if b then e ∷ es else es) ≡ es
  one_other b e es h = ap (λ (d : Bool). if d then e ∷ es else es) h

  pub entries_same : (a : ℕ) (es : List E) → entries_of a (all_of a es) ≡ es
  entries_same a [] = refl
  entries_same a (e ∷ es) = one_same (a == a) e (entries_of a (all_of a es)) (eq_itself a) ∙ ap (λ (fs : List E). e ∷ fs) (entries_same a es)
    where
      eq_itself : (n : ℕ) → (n == n) ≡ true
      eq_itself n = eq-eqb n n refl

  pub entries_other : (a b : ℕ) (es : List E) → a ≢ b → entries_of b (all_of a es) ≡ []
  entries_other a b [] ne = refl
  entries_other a b (e ∷ es) ne = one_other (a == b) e (entries_of b (all_of a es)) (ne_eqb a b ne) ∙ entries_other a b es ne

  pub left_empty : (xs ys : List E) → xs ++ ys ≡ [] → xs ≡ []
  left_empty [] ys e = refl
  left_empty (x ∷ xs) ys e = absurd (cc)

module _ {A : Type 0} where
  pub in_range : (l : List A) (i : ℕ) (a : A) → get_elem? l i ≡ some a → i < length l
  in_range [] i a e = absurd (some-ne-none a (sym e))
  in_range (x ∷ xs) zero a e = omega arith
  in_range (x ∷ xs) (suc i) a e = let h : i < length xs = in_range xs i a e in omega arith

  pub at_last_or : (l : List A) (a b : A) (j : ℕ) → get_elem? (l ++ a ∷ []) j ≡ some b → (get_elem? l j ≡ some b) ⊎ ((j ≡ length l) × (a ≡ b))
  at_last_or [] a b zero e = inr (refl, some-injective a b e)
  at_last_or [] a b (suc j) e = absurd (some-ne-none b (sym e))
  at_last_or (x ∷ xs) a b zero e = inl e
  at_last_or (x ∷ xs) a b (suc j) e = ⊎_elim (λ t. inl t) (λ t. inr (ap suc t.0, t.1)) (at_last_or xs a b j e)

  pub at_replicated : (n : ℕ) (a b : A) (j : ℕ) → get_elem? (replicate n a) j ≡ some b → a ≡ b
  at_replicated zero a b j e = absurd (some-ne-none b (sym e))
  at_replicated (suc n) a b zero e = some-injective a b e
  at_replicated (suc n) a b (suc j) e = at_replicated n a b j e

pub index_here : (l : List ℕ) (k x : ℕ) → k < length l → slice_index (set l k x) k ≡ x
index_here l k x h = get_or-set_same l k x 0 h

pub index_else : (l : List ℕ) (k j x : ℕ) → j ≢ k → slice_index (set l k x) j ≡ slice_index l j
index_else l k j x ne = get_or-set_other l k j x 0 ne

-- an actor's own entries, after it has added some
pub own_more : {E : Type 0} (a : ℕ) (log seen : List (ℕ × E)) (mine es : List E) → log ≡ seen ++ all_of a es → entries_of a seen ≡ mine → entries_of a log ≡ mine ++ es
own_more a log seen mine es e own = ap (entries_of a) e ∙ entries_append a seen (all_of a es) ∙ ap (λ us. us ++ entries_of a (all_of a es)) own ∙ ap (λ us. mine ++ us) (entries_same a es)

pub nothing_held : (m k : ℕ) → get_elem? (replicate m false) k ≡ some true → ⊥
nothing_held m k e = true≢false (sym (at_replicated m false true k e))
