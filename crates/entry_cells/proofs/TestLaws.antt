-- The passes of two actors, before their first calls and when they are closed.
use Rattle.std.proofs.Common.{◌≡◌, ℕ, ◌+◌, Bool, true, List, [], ◌∷◌, ◌++◌, length, set, sym, refl, ap, ◌∙◌, ⊎_elim, length-append, arith}
use mathlib.Core.Option.{some}
use mathlib.Core.Logic.{dite}
use native.Mathlib.Decide.{ℕ_discrete}
use lib.ListN.{get_elem?}
use Rattle.atomic_table.proofs.Lists.{at_last, at_longer}
use Rattle.entry_cells.specs.Passes.{CellsView, PassView, AreAll, AreNew}
use Rattle.entry_cells.specs.Counting.{IsFree}
use Rattle.entry_cells.specs.declared.tally.Count.{Count}
use Rattle.entry_cells.proofs.EntryLaws.{nothing_held, at_last_or}
use Rattle.entry_cells.proofs.CountingLaws.{held_more}

longer_by_one : {A : Type 0} (xs ys : List A) (x : A) → xs ≡ ys ++ x ∷ [] → length xs ≡ length ys + 1
longer_by_one {A} xs ys x e = ap (λ (zs : List A). length zs) e ∙ length-append ys (x ∷ [])

pub free_last : (cells : CellsView ℕ) (xs ys : List (PassView ℕ ℕ)) (x : PassView ℕ ℕ) (a : ℕ) → xs ≡ ys ++ x ∷ [] → length xs ≡ a → AreNew cells xs → IsFree cells a x
free_last cells xs ys x a e is new = let h = new (length ys) x (ap (λ (zs : List (PassView ℕ ℕ)). get_elem? zs (length ys)) e ∙ at_last ys x (length ys) refl) in
    ((h.0, h.1.live, h.1.many), (λ k t. nothing_held _ k (ap (λ (bs : List Bool). get_elem? bs k) (sym h.1.held) ∙ t)), h.1.actor ∙ sym (longer_by_one xs ys x e) ∙ is)

pub rest_long : (xs ys : List (PassView ℕ ℕ)) (x : PassView ℕ ℕ) (m : ℕ) → xs ≡ ys ++ x ∷ [] → length xs ≡ m + 1 → length ys ≡ m
rest_long xs ys x m e is = let h = longer_by_one xs ys x e in omega arith

pub new_rest : (cells : CellsView ℕ) (xs ys : List (PassView ℕ ℕ)) (x : PassView ℕ ℕ) → xs ≡ ys ++ x ∷ [] → AreNew cells xs → AreNew cells ys
new_rest cells xs ys x e h i p g = h i p (ap (λ (zs : List (PassView ℕ ℕ)). get_elem? zs i) e ∙ at_longer ys (x ∷ []) i p g)

pub all_two : (xs : List (PassView ℕ ℕ)) (x y : PassView ℕ ℕ) (m : ℕ) → xs ≡ x ∷ y ∷ [] → m ≡ 2 → x.view.actor ≡ 1 → y.view.actor ≡ 2 → AreAll m xs
all_two xs x y m e is first second a pos most = dite (ℕ_discrete a 1)
    (λ at. (0, x, ap (λ (zs : List (PassView ℕ ℕ)). get_elem? zs 0) e, first ∙ sym at))
    (λ ne. let at : 2 ≡ a = omega arith in (1, y, ap (λ (zs : List (PassView ℕ ℕ)). get_elem? zs 1) e, second ∙ at))

-- the cell 1 is taken, and the cell 0 isn't held
pub first_lacked : (bs cs ds : List Bool) → ((k : ℕ) → get_elem? bs k ≡ some true → ⊥) → cs ≡ bs → ds ≡ set cs 1 true → get_elem? ds 0 ≡ some true → ⊥
first_lacked bs cs ds none same e h = ⊎_elim (λ is. absurd (omega arith)) (λ t. none 0 (ap (λ (es : List Bool). get_elem? es 0) (sym same) ∙ t)) (held_more cs 1 0 (ap (λ (es : List Bool). get_elem? es 0) (sym e) ∙ h))

pub zero_next : (xs ys : List Count) (x : Count) → ys ≡ xs ++ x ∷ [] → x.entries ≡ 0 → ((k : ℕ) (y : Count) → get_elem? xs k ≡ some y → y.entries ≡ 0) → (k : ℕ) (y : Count) → get_elem? ys k ≡ some y → y.entries ≡ 0
zero_next xs ys x e zero h k y g = ⊎_elim (λ t. h k y t) (λ t. ap (λ (z : Count). z.entries) (sym t.1) ∙ zero) (at_last_or xs x y k (ap (λ (zs : List Count). get_elem? zs k) (sym e) ∙ g))
