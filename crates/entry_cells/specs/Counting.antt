-- A journal whose entries each name a cell, and values that count the entries of their cells. This project's own.
use Rattle.std.specs.Prelude.{◌≡◌, ℕ, ◌+◌, ◌<◌, ◌==◌, Bool, if◌then◌else◌, List, [], ◌∷◌, ◌++◌}
use Rattle.std.proofs.Common.{refl, ap, arith}
use Rattle.std.proofs.lemmas.Bool.{ne_eqb}
use Rattle.entry_cells.specs.Entries.{Untouched}
use Rattle.entry_cells.specs.Views.{Holds}
use Rattle.entry_cells.specs.Passes.{CellsView, PassView, IsPassOf, HoldsNothing}

-- an entry counts where it names the cell
abbrev pub counted : Bool → ℕ
counted b = if b then 1 else 0

-- how many entries name the cell k
abbrev pub named : ℕ → List (ℕ × ℕ) → ℕ
named k [] = 0
named k (x ∷ xs) = counted (x.1 == k) + named k xs

-- each entry names one of the cells
abbrev pub AreInside : ℕ → List (ℕ × ℕ) → Type 0
AreInside cells [] = Unit {0}
AreInside cells (x ∷ xs) = (x.1 < cells) × AreInside cells xs

-- an entry touches the cell that it names
abbrev pub Names : ℕ → List (ℕ × ℕ) → ℕ × ℕ → ℕ → Type 0
Names c xs x k = x.1 ≡ k

-- the pass of this actor holds no cell
abbrev pub IsFree : CellsView ℕ → ℕ → PassView ℕ ℕ → Type 0
IsFree cells actor pass = IsPassOf cells pass × HoldsNothing pass.view × (pass.view.actor ≡ actor)

-- the pass of this actor holds the cell k and no other
abbrev pub HoldsOnly : CellsView ℕ → ℕ → ℕ → PassView ℕ ℕ → Type 0
HoldsOnly cells actor k pass = IsPassOf cells pass × Holds pass.view k × ((j : ℕ) → Holds pass.view j → j ≡ k) × (pass.view.actor ≡ actor)

-- the laws that a kept value owes
pub inside_prefix : (c : ℕ) (xs ys : List (ℕ × ℕ)) → AreInside c (xs ++ ys) → AreInside c xs
inside_prefix c [] ys h = tt
inside_prefix c (x ∷ xs) ys h = (h.0, inside_prefix c xs ys h.1)

pub named_append : (k : ℕ) (xs ys : List (ℕ × ℕ)) → named k (xs ++ ys) ≡ named k xs + named k ys
named_append k [] ys = omega arith
named_append k (x ∷ xs) ys = let h : named k (xs ++ ys) ≡ named k xs + named k ys = named_append k xs ys in omega arith

none_named : (c k : ℕ) (xs ys : List (ℕ × ℕ)) → Untouched (Names c) xs ys k → named k ys ≡ 0
none_named c k xs [] h = refl
none_named c k xs (y ∷ ys) h = let other : counted (y.1 == k) ≡ 0 = ap (λ (b : Bool). counted b) (ne_eqb y.1 k h.0) in let rest : named k ys ≡ 0 = none_named c k (xs ++ y ∷ []) ys h.1 in omega arith

pub named_untouched : (k c : ℕ) (xs ys : List (ℕ × ℕ)) (n : ℕ) → Untouched (Names c) xs ys k → n ≡ named k xs → n ≡ named k (xs ++ ys)
named_untouched k c xs ys n h e = let both = named_append k xs ys in let rest : named k ys ≡ 0 = none_named c k xs ys h in omega arith
