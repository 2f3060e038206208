-- The rule of the table: what holds of its words, of the values at home and of what the passes know, between any two steps.
-- Word k is 0 where cell k is at home, or the number of the pass that holds it. Cell n is the journal. This project's own.
use Rattle.std.specs.Prelude.{◌≡◌, ◌≢◌, ◌⊎◌, ℕ, ◌+◌, ◌^◌, ◌<◌, ◌≤◌, List, [], ◌++◌, length, slice_index, Option, Some, None}
use mathlib.Core.Option.{some}
use lib.ListN.{get_elem?}
use Rattle.atomic_table.specs.Table.{State}
use Rattle.entry_cells.specs.Entries.{Untouched, entries_of, BeginsWith}
use Rattle.entry_cells.specs.Views.{Holds}
use Rattle.entry_cells.specs.declared.board.View.{View}
use Rattle.entry_cells.specs.declared.board.Absorbed.{Absorbed}
use Rattle.entry_cells.specs.declared.board.Lodged.{Lodged}
use Rattle.entry_cells.specs.declared.board.Lodged.TheVariants.{Cell, Journal}
pub use Rattle.entry_cells.specs.Views.{opener}

-- what a closed pass had seen and added, in the journal log
abbrev pub AbsorbedOk : {E : Type 0} → List (ℕ × E) → Absorbed E → Type 0
AbsorbedOk log x = BeginsWith x.seen log × (entries_of x.actor log ≡ x.mine)

module _ {T J O E : Type 0} (stands : ℕ → O → List (ℕ × E) → T → Type 0) (opening : J → O) (list : J → List (ℕ × E)) (n : ℕ) (c : O) (log : List (ℕ × E)) where
  -- the value is the part of cell k, or the journal itself
  abbrev pub Lies : ℕ → Lodged T J → Type 0
  Lies k (Cell x) = (k < n) × stands k c log x
  Lies k (Journal j) = (k ≡ n) × (opening j ≡ c) × (list j ≡ log)

module _ {O E : Type 0} (touches : O → List (ℕ × E) → ℕ × E → ℕ → Type 0) (n : ℕ) (c : O) (log : List (ℕ × E)) where
  -- what a pass that isn't closed knows of the journal
  pub record ViewOk (v : View O E) : Type 0 where
    pub since : List (ℕ × E)
    pub begins : log ≡ v.seen ++ since
    pub real : 0 < v.actor
    pub small : v.actor < 2 ^ 32
    pub wide : length v.held ≡ n + 1
    pub has_out : (k : ℕ) → v.out ≡ Some k → Holds v k
    pub own : entries_of v.actor log ≡ v.mine
    pub own_seen : entries_of v.actor v.seen ≡ v.mine
    pub quiet : (k : ℕ) → k < n → Holds v k → Untouched (touches c) v.seen since k
    pub newest : Holds v n → since ≡ []
    pub closed : (p : ℕ) (x : Absorbed E) → get_elem? v.taken_in p ≡ some x → AbsorbedOk log x

module _ {S O E : Type 0} (c : O) (s : State S (View O E)) where
  -- the pass i, which isn't closed
  abbrev pub Live : ℕ → View O E → Type 0
  Live i v = (get_elem? s.views i ≡ some v) × (v.opening ≡ Some c)

  -- no pass has a number, has had it, or has added an entry under it
  pub record Fresh (log : List (ℕ × E)) (a : ℕ) : Type 0 where
    pub unused : (j : ℕ) (v : View O E) → Live j v → v.actor ≢ a
    pub unknown : (j : ℕ) (v : View O E) (p : ℕ) (x : Absorbed E) → Live j v → get_elem? v.taken_in p ≡ some x → x.actor ≢ a
    pub silent : entries_of a log ≡ []

module _ {T J O E : Type 0} (c : O) (s : State (Option (Lodged T J)) (View O E)) where
  -- the pass i holds cell k, and the slot is empty, or out with the pass
  abbrev pub HeldBy : ℕ → ℕ → View O E → Type 0
  HeldBy k i v = Live c s i v × Holds v k × (slice_index s.words k ≡ v.actor) × ((get_elem? s.homes k ≡ some (some None)) ⊎ (v.out ≡ Some k))

  abbrev pub Away : ℕ → Type 0
  Away k = (i : ℕ) × (v : View O E) × HeldBy k i v

module _ {T J O E : Type 0} (legal : O → List (ℕ × E) → Type 0) (stands : ℕ → O → List (ℕ × E) → T → Type 0) (touches : O → List (ℕ × E) → ℕ × E → ℕ → Type 0) (opening : J → O) (list : J → List (ℕ × E)) (n actors : ℕ) (c : O) (s : State (Option (Lodged T J)) (View O E)) where
  abbrev pub AtHome : List (ℕ × E) → ℕ → Type 0
  AtHome log k = (slice_index s.words k ≡ 0) × ((y : Lodged T J) × (get_elem? s.homes k ≡ some (some (Some y))) × Lies stands opening list n c log k y)

  pub record Sound : Type 0 where
    pub log : List (ℕ × E)
    pub legal_log : legal c log
    pub many_words : length s.words ≡ n + 1
    pub many_homes : length s.homes ≡ n + 1
    pub views_ok : (i : ℕ) (v : View O E) → Live c s i v → ViewOk touches n c log v
    pub each_word : (k : ℕ) → k < n + 1 → AtHome log k ⊎ Away c s k
    pub each_hold : (i : ℕ) (v : View O E) (k : ℕ) → Live c s i v → Holds v k → slice_index s.words k ≡ v.actor
    pub apart : (i : ℕ) (v : View O E) (j : ℕ) (w : View O E) → Live c s i v → Live c s j w → v.actor ≡ w.actor → i ≡ j
    pub below : (i : ℕ) (v : View O E) → Live c s i v → v.actor ≤ actors
    pub counted : (i : ℕ) (v : View O E) → Live c s i v → v.actors ≡ actors
    pub gone : (i : ℕ) (v : View O E) (j : ℕ) (w : View O E) (p : ℕ) (x : Absorbed E) → Live c s i v → Live c s j w → get_elem? v.taken_in p ≡ some x → x.actor ≢ w.actor
    pub fresh : (i : ℕ) (m : View O E) (a : ℕ) → Live c s i m → m.actor ≡ 1 → m.made < a → Fresh c s log a
