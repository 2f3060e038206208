-- Lists of pairs of actor and entry. This project's own.
use Rattle.std.specs.Prelude.{ℕ, ◌==◌, if◌then◌else◌, List, [], ◌∷◌, ◌++◌, map, ◌≡◌}

module _ {E : Type 0} where
  -- no entry of ys, which stand after xs, touches k
  abbrev pub Untouched : (List (ℕ × E) → ℕ × E → ℕ → Type 0) → List (ℕ × E) → List (ℕ × E) → ℕ → Type 0
  Untouched touches xs [] k = Unit {0}
  Untouched touches xs (y ∷ ys) k = (touches xs y k → ⊥) × Untouched touches (xs ++ y ∷ []) ys k

  -- an entry where it is of the actor
  abbrev pub with_entry : ℕ → ℕ × E → List E → List E
  with_entry actor x es = if x.0 == actor then x.1 ∷ es else es

  -- the entries of one actor, in their order
  abbrev pub entries_of : ℕ → List (ℕ × E) → List E
  entries_of actor [] = []
  entries_of actor (x ∷ xs) = with_entry actor x (entries_of actor xs)

  -- entries of one actor, as they stand in a journal
  abbrev pub all_of : ℕ → List E → List (ℕ × E)
  all_of actor es = map (λ e. (actor, e)) es

  -- ys begins with xs
  abbrev pub BeginsWith : List (ℕ × E) → List (ℕ × E) → Type 0
  BeginsWith xs ys = (more : List (ℕ × E)) × (ys ≡ xs ++ more)
