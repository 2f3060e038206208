-- What clauses see of cells and of passes, and what a call does to a pass. This project's own.
use Rattle.std.specs.Prelude.{◌≡◌, ◌≢◌, ◌⊎◌, ℕ, ◌+◌, ◌<◌, ◌≤◌, false, List, [], replicate, Option, Some, None}
use mathlib.Core.Option.{some}
use lib.ListN.{get_elem?}
use Rattle.atomic_table.specs.Seated.{TableId}
use Rattle.atomic_table.specs.Table.{Me}
use Rattle.entry_cells.specs.Entries.{entries_of, BeginsWith}
use Rattle.entry_cells.specs.Views.{Holds, Grows, took, refused, absorbed}
use Rattle.entry_cells.specs.Rule.{Lies, AbsorbedOk}
use Rattle.entry_cells.specs.declared.board.View.{View}
use Rattle.entry_cells.specs.declared.board.Absorbed.{Absorbed}
use Rattle.entry_cells.specs.declared.board.Lodged.{Lodged}

-- which table it is, how many cells it has beside the journal, its actors, and the journal's opening
pub record CellsView (O : Type 0) : Type 0 where
  pub table : TableId
  pub cells : ℕ
  pub actors : ℕ
  pub opening : O

-- whose table a pass is for, and what it knows
pub record PassView (O E : Type 0) : Type 0 where
  pub table : TableId
  pub view : View O E

-- the table has as many words and slots as there are cells with the journal
pub record IsTable (table : TableId) (cells actors key_cells key_actors : ℕ) : Type 0 where
  pub many_words : table.words ≡ cells + 1
  pub many_slots : table.slots ≡ cells + 1
  pub cells_known : key_cells ≡ cells
  pub actors_known : key_actors ≡ actors
  pub some_actor : 0 < actors
  pub few_cells : cells < 4294967295
  pub few_actors : actors < 4294967296

-- between two calls no slot is out with the pass
pub record IsReady {S O E : Type 0} (actor : ℕ) (me : Me S (View O E)) : Type 0 where
  pub number : me.0.actor ≡ actor
  pub real : 0 < actor
  pub nothing_out : me.0.out ≡ None
  pub no_slot : me.1 ≡ []
  pub own : entries_of me.0.actor me.0.seen ≡ me.0.mine

-- a seat of the table with n cells, between two calls
pub record IsSeated {S O E : Type 0} (table : TableId) (n : ℕ) (c : O) (of : TableId) (me : Me S (View O E)) : Type 0 where
  pub same : of ≡ table
  pub many_words : table.words ≡ n + 1
  pub many_slots : table.slots ≡ n + 1
  pub live : me.0.opening ≡ Some c
  pub nothing_out : me.0.out ≡ None
  pub no_slot : me.1 ≡ []

module _ {T J O E : Type 0} (legal : O → List (ℕ × E) → Type 0) (stands : ℕ → O → List (ℕ × E) → T → Type 0) (touches : O → List (ℕ × E) → ℕ × E → ℕ → Type 0) (opening : J → O) (list : J → List (ℕ × E)) (n : ℕ) (c : O) where
  -- y was taken out of the cell k
  pub record Takes (v : View O E) (k : ℕ) (y : Lodged T J) (me : Me (Option (Lodged T J)) (View O E)) : Type 0 where
    pub log : List (ℕ × E)
    pub view : me.0 ≡ took v k log
    pub no_slot : me.1 ≡ []
    pub legal_log : legal c log
    pub grows : Grows touches n c v log
    pub own : entries_of v.actor log ≡ v.mine
    pub holds : Holds (took v k log) k
    pub lies : Lies stands opening list n c log k y

  -- each slot holds its cell's part of the journal
  abbrev pub Laid : List (ℕ × E) → List (Option (Lodged T J)) → Type 0
  Laid log slots = (k : ℕ) → k < n + 1 → (y : Lodged T J) × (get_elem? slots k ≡ some (Some y)) × Lies stands opening list n c log k y

  -- what is found when the table is closed by a pass with the view v
  pub record Closes (v : View O E) (slots : List (Option (Lodged T J))) : Type 0 where
    pub log : List (ℕ × E)
    pub legal_log : legal c log
    pub laid : Laid log slots
    pub own : BeginsWith v.seen log × (entries_of v.actor log ≡ v.mine)
    pub others : (p : ℕ) (x : Absorbed E) → get_elem? v.taken_in p ≡ some x → AbsorbedOk log x

-- the cell k was found with the pass r
pub record Refuses {S O E : Type 0} (me : Me S (View O E)) (k r : ℕ) (after : Me S (View O E)) : Type 0 where
  pub view : after.0 ≡ refused me.0 k r
  pub no_slot : after.1 ≡ []
  pub real : 0 < r
  pub other : r ≢ me.0.actor
  pub below : r ≤ me.0.actors

module _ {O E : Type 0} where
  -- the pass is of these cells, and knows how many passes they have
  abbrev pub IsPassOf : CellsView O → PassView O E → Type 0
  IsPassOf cells pass = (pass.table ≡ cells.table) × (pass.view.opening ≡ Some cells.opening) × (pass.view.actors ≡ cells.actors)

  -- the pass of the actor a, of so many, before its first call, among n cells
  pub record IsNew (n actors a : ℕ) (c : O) (v : View O E) : Type 0 where
    pub actor : v.actor ≡ a
    pub many : v.actors ≡ actors
    pub live : v.opening ≡ Some c
    pub seen : v.seen ≡ []
    pub mine : v.mine ≡ []
    pub held : v.held ≡ replicate (n + 1) false
    pub refusals : v.refusals ≡ []

  -- the pass holds no cell, nor the journal
  abbrev pub HoldsNothing : View O E → Type 0
  HoldsNothing v = (k : ℕ) → Holds v k → ⊥

  -- these are passes of the cells, and none holds a cell
  abbrev pub AreIdle : CellsView O → List (PassView O E) → Type 0
  AreIdle cells passes = (i : ℕ) (p : PassView O E) → get_elem? passes i ≡ some p → IsPassOf cells p × HoldsNothing p.view

  -- there is a pass of each actor
  abbrev pub AreAll : ℕ → List (PassView O E) → Type 0
  AreAll actors passes = (a : ℕ) → 0 < a → a ≤ actors → (i : ℕ) × (p : PassView O E) × (get_elem? passes i ≡ some p) × (p.view.actor ≡ a)

  -- what a pass has seen begins the journal, and its actor's entries there are those that it has added
  abbrev pub Shown : List (ℕ × E) → View O E → Type 0
  Shown log v = BeginsWith v.seen log × (entries_of v.actor log ≡ v.mine)

  -- the passes of the actors from 1 on, in their order, before their first calls
  abbrev pub AreNew : CellsView O → List (PassView O E) → Type 0
  AreNew cells passes = (i : ℕ) (p : PassView O E) → get_elem? passes i ≡ some p → (p.table ≡ cells.table) × IsNew cells.cells cells.actors (i + 1) cells.opening p.view

  -- w was closed into v
  abbrev pub Absorbs : View O E → View O E → Type 0
  Absorbs v w = (p : ℕ) × (get_elem? v.taken_in p ≡ some (absorbed w))

  -- v is w, or w was closed into it
  abbrev pub Knows : View O E → View O E → Type 0
  Knows v w = (absorbed w ≡ absorbed v) ⊎ Absorbs v w

  -- the passes of all other actors were closed into v
  abbrev pub TookAll : ℕ → View O E → Type 0
  TookAll actors v = (a : ℕ) → 0 < a → a ≤ actors → (v.actor ≡ a) ⊎ ((p : ℕ) × (x : Absorbed E) × (get_elem? v.taken_in p ≡ some x) × (x.actor ≡ a))
