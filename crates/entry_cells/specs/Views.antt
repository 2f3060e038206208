-- What a pass knows, and how a step changes it. This project's own.
use Rattle.std.specs.Prelude.{◌≡◌, ℕ, ◌+◌, ◌<◌, true, false, List, [], ◌∷◌, ◌++◌, slice_set, length, replicate, Some, None}
use mathlib.Core.Option.{some}
use lib.ListN.{get_elem?}
use Rattle.entry_cells.specs.Entries.{Untouched, entries_of, all_of}
use Rattle.entry_cells.specs.declared.board.View.{View}
use Rattle.entry_cells.specs.declared.board.Absorbed.{Absorbed}
use Rattle.entry_cells.specs.declared.board.Lodged.{Lodged}
use Rattle.entry_cells.specs.declared.board.Lodged.TheVariants.{Cell, Journal}

module _ {O E : Type 0} where
  -- the pass holds the cell k
  abbrev pub Holds : View O E → ℕ → Type 0
  Holds v k = get_elem? v.held k ≡ some true

  -- the slot k is out with the pass
  abbrev pub with_out : View O E → ℕ → View O E
  with_out v k = record v { out = Some k }

  abbrev pub with_none_out : View O E → View O E
  with_none_out v = record v { out = None }

  -- the cell k is held, its slot is out, and the whole journal is seen
  abbrev pub taking : View O E → ℕ → List (ℕ × E) → View O E
  taking v k log = record v { seen = log; held = slice_set v.held k true; out = Some k }

  abbrev pub took : View O E → ℕ → List (ℕ × E) → View O E
  took v k log = record v { seen = log; held = slice_set v.held k true; out = None }

  -- the cell k was found with another holder
  abbrev pub refused : View O E → ℕ → ℕ → View O E
  refused v k holder = record v { refusals = v.refusals ++ record { cell = k; holder = holder; had = v.held } ∷ [] }

  -- the cell k is given back
  abbrev pub gave : View O E → ℕ → View O E
  gave v k = record v { held = slice_set v.held k false; out = None }

  -- the journal, which is the cell n, is given back with another list
  abbrev pub gave_journal : View O E → ℕ → List (ℕ × E) → View O E
  gave_journal v n log = record v { seen = log; mine = entries_of v.actor log; held = slice_set v.held n false; out = None }

  -- the view of the first pass
  abbrev pub opener : O → List (ℕ × E) → ℕ → ℕ → View O E
  opener c log n actors = record { actor = 1; opening = Some c; seen = log; mine = entries_of 1 log; held = replicate (n + 1) false; refusals = []; out = None; made = 1; actors = actors; taken_in = [] }

  -- the first pass makes one more
  abbrev pub making : View O E → View O E
  making v = record v { made = v.made + 1 }

  -- the pass that it makes
  abbrev pub newcomer : View O E → View O E
  newcomer v = record { actor = v.made + 1; opening = v.opening; seen = v.seen; mine = []; held = replicate (length v.held) false; refusals = []; out = None; made = 0; actors = v.actors; taken_in = [] }

  abbrev pub absorbed : View O E → Absorbed E
  absorbed v = record { actor = v.actor; seen = v.seen; mine = v.mine }

  -- a pass is closed into another
  abbrev pub absorbing : View O E → View O E → View O E
  absorbing v w = record v { taken_in = v.taken_in ++ absorbed w ∷ [] }

  -- the view of a pass that was closed
  abbrev pub spent : View O E
  spent = record { actor = 0; opening = None; seen = []; mine = []; held = []; refusals = []; out = None; made = 0; actors = 0; taken_in = [] }

module _ {T J E : Type 0} (list : J → List (ℕ × E)) where
  -- what a pass has seen, and what it has added, after it gave back a slot's value
  abbrev pub seen_after : List (ℕ × E) → Lodged T J → List (ℕ × E)
  seen_after seen (Cell x) = seen
  seen_after seen (Journal j) = list j

  abbrev pub mine_after : ℕ → List E → Lodged T J → List E
  mine_after actor mine (Cell x) = mine
  mine_after actor mine (Journal j) = entries_of actor (list j)

module _ {T J O E : Type 0} (list : J → List (ℕ × E)) where
  -- a slot's value is given back
  abbrev pub given : View O E → ℕ → Lodged T J → View O E
  given v k y = record v { seen = seen_after list v.seen y; mine = mine_after list v.actor v.mine y; held = slice_set v.held k false; out = None }

module _ {O E : Type 0} (touches : O → List (ℕ × E) → ℕ × E → ℕ → Type 0) (n : ℕ) (c : O) where
  -- the journal goes on from what the pass has seen, by entries that touch no cell that it holds
  abbrev pub Grows : View O E → List (ℕ × E) → Type 0
  Grows v log = (more : List (ℕ × E)) × (log ≡ v.seen ++ more) × ((k : ℕ) → k < n → Holds v k → Untouched (touches c) v.seen more k)

  -- the list goes on from what the pass has seen, by entries of the pass that touch no cell that it doesn't hold
  abbrev pub Adds : View O E → List (ℕ × E) → Type 0
  Adds v log = (es : List E) × (log ≡ v.seen ++ all_of v.actor es) × ((k : ℕ) → k < n → (Holds v k → ⊥) → Untouched (touches c) v.seen (all_of v.actor es) k)
