-- What each step tells the pass that makes it. This project's own.
use Rattle.std.specs.Prelude.{◌≡◌, ◌≢◌, ℕ, ◌+◌, ◌^◌, ◌<◌, ◌≤◌, List, ◌∷◌, Option, Some, None}
use Rattle.atomic_table.specs.Table.{Me, Step, rest}
use Rattle.entry_cells.specs.Entries.{entries_of}
use Rattle.entry_cells.specs.Views.{Holds, Grows, Adds, with_out, with_none_out, taking, refused, given}
use Rattle.entry_cells.specs.Rule.{Lies}
use Rattle.entry_cells.specs.declared.board.View.{View}
use Rattle.entry_cells.specs.declared.board.Lodged.{Lodged}
use Rattle.entry_cells.specs.declared.board.Lodged.TheVariants.{Cell, Journal}

abbrev pub Seated : Type 0 → Type 0 → Type 0 → Type 0 → Type 0
Seated T J O E = Me (Option (Lodged T J)) (View O E)

module _ {T J O E : Type 0} (legal : O → List (ℕ × E) → Type 0) (stands : ℕ → O → List (ℕ × E) → T → Type 0) (touches : O → List (ℕ × E) → ℕ × E → ℕ → Type 0) (opening : J → O) (list : J → List (ℕ × E)) where
  -- the cell was at home: the pass has it now, and has seen the journal as it is
  abbrev pub Comes : ℕ → ℕ → O → Seated T J O E → Seated T J O E → Type 0
  Comes n k c m m' = (log : List (ℕ × E)) × (m'.0 ≡ taking m.0 k log) × legal c log × Grows touches n c m.0 log × (entries_of m.0.actor log ≡ m.0.mine) × Holds (taking m.0 k log) k × ((y : Lodged T J) × (m'.1 ≡ (k, Some y) ∷ m.1) × Lies stands opening list n c log k y)

  -- of a compare and exchange that found r: the cell comes where r is 0, and else r is another of the passes
  abbrev pub takes : Step (Option (Lodged T J)) → Seated T J O E → ℕ → Seated T J O E → Type 0
  takes st m r m' = (r ≡ 0 → (n : ℕ) (c : O) → st.slots ≡ n + 1 → m.0.opening ≡ Some c → Comes n st.word c m m')
      × (r ≢ 0 → (m' ≡ (refused m.0 st.word r, m.1)) × (r ≢ m.0.actor) × (r < 2 ^ 32) × (r ≤ m.0.actors))

  -- what may be given back as cell k
  abbrev pub Fits : ℕ → O → View O E → ℕ → Lodged T J → Type 0
  Fits n c v k (Cell x) = (k < n) × stands k c v.seen x
  Fits n c v k (Journal j) = (k ≡ n) × (opening j ≡ c) × legal c (list j) × Adds touches n c v (list j)

module _ {T J O E : Type 0} where
  -- the empty slot goes home
  abbrev pub shuts : Step (Option (Lodged T J)) → Seated T J O E → ℕ → Seated T J O E → Type 0
  shuts st m r m' = m' ≡ (with_none_out m.0, rest m.1)

  -- the empty slot comes out
  abbrev pub opens : Step (Option (Lodged T J)) → Seated T J O E → ℕ → Seated T J O E → Type 0
  opens st m r m' = m' ≡ (with_out m.0 st.word, (st.word, None) ∷ m.1)

  -- the full slot goes home
  abbrev pub gives : (J → List (ℕ × E)) → Step (Option (Lodged T J)) → Seated T J O E → ℕ → Seated T J O E → Type 0
  gives list st m r m' = (y : Lodged T J) → m.1 ≡ (st.word, Some y) ∷ rest m.1 → m' ≡ (given list m.0 st.word y, rest m.1)
