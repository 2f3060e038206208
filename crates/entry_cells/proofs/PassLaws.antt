-- Lists of passes, and what lies in the slots when they are closed.
use Rattle.std.proofs.Common.{◌≡◌, ◌⊎◌, ℕ, zero, suc, ◌+◌, ◌<◌, Bool, false, List, [], ◌∷◌, ◌++◌, map, length, set, replicate, slice_index_or, Option, Some, sym, refl, ap, ◌∙◌, subst, inl, inr, ⊎_elim, get_or-set_other, get_or-set_same, length-set, arith}
use mathlib.Core.Option.{some, some-injective, some-ne-none}
use mathlib.Core.Logic.{dite}
use native.Mathlib.Decide.{ℕ_discrete}
use lib.ListN.{get_elem?, length-replicate, length-map}
use Rattle.std.specs.Mem.Slots.Ownership.{Filled}
use Rattle.atomic_table.proofs.Lists.{at_longer, at_last, at_set, set_here, at_map}
use Rattle.entry_cells.specs.Views.{absorbed, absorbing, making, newcomer, opener}
use Rattle.entry_cells.specs.Rule.{Lies, AbsorbedOk}
use Rattle.entry_cells.specs.Passes.{CellsView, PassView, IsPassOf, HoldsNothing, AreIdle, AreAll, AreNew, IsNew, Knows, TookAll, Shown, Laid, Closes}
use Rattle.entry_cells.specs.declared.board.View.{View}
use Rattle.entry_cells.specs.declared.board.Absorbed.{Absorbed}
use Rattle.entry_cells.specs.declared.board.Lodged.{Lodged}
use Rattle.entry_cells.specs.declared.board.Lodged.TheVariants.{Cell, Journal}
use Rattle.entry_cells.proofs.EntryLaws.{some_is, in_range, at_last_or}

module _ {O E : Type 0} where
  pub idle_last : (cells : CellsView O) (xs ys : List (PassView O E)) (x : PassView O E) → xs ≡ ys ++ x ∷ [] → AreIdle cells xs → IsPassOf cells x × HoldsNothing x.view
  idle_last cells xs ys x e h = h (length ys) x (ap (λ (zs : List (PassView O E)). get_elem? zs (length ys)) e ∙ at_last ys x (length ys) refl)

  pub idle_rest : (cells : CellsView O) (xs ys : List (PassView O E)) (x : PassView O E) → xs ≡ ys ++ x ∷ [] → AreIdle cells xs → AreIdle cells ys
  idle_rest cells xs ys x e h i p g = h i p (ap (λ (zs : List (PassView O E)). get_elem? zs i) e ∙ at_longer ys (x ∷ []) i p g)

  pub known_last : (xs ys : List (PassView O E)) (x : PassView O E) → xs ≡ ys ++ x ∷ [] → (i : ℕ) (p : PassView O E) → get_elem? xs i ≡ some p → (get_elem? ys i ≡ some p) ⊎ Knows x.view p.view
  known_last xs ys x e i p g = ⊎_elim (λ h. inl h) (λ h. inr (inl (ap (λ (z : PassView O E). absorbed z.view) (sym h.1)))) (at_last_or ys x p i (ap (λ (zs : List (PassView O E)). get_elem? zs i) (sym e) ∙ g))

  knows_more : (v w u : View O E) → Knows v u → Knows (absorbing v w) u
  knows_more v w u h = ⊎_elim (λ e. inl e) (λ t. inr (t.0, at_longer v.taken_in (absorbed w ∷ []) t.0 (absorbed u) t.1)) h

  knows_it : (v w : View O E) → Knows (absorbing v w) w
  knows_it v w = inr (length v.taken_in, at_last v.taken_in (absorbed w) (length v.taken_in) refl)

  -- one more pass is closed into v
  pub knows_next : (all xs ys : List (PassView O E)) (v : View O E) (x : PassView O E) (v' : View O E) → v' ≡ absorbing v x.view → xs ≡ ys ++ x ∷ []
      → ((i : ℕ) (p : PassView O E) → get_elem? all i ≡ some p → (get_elem? xs i ≡ some p) ⊎ Knows v p.view)
      → (i : ℕ) (p : PassView O E) → get_elem? all i ≡ some p → (get_elem? ys i ≡ some p) ⊎ Knows v' p.view
  knows_next all xs ys v x v' is e h i p g = ⊎_elim (λ t. ⊎_elim (λ q. inl q) (λ q. inr (subst (λ (z : View O E). Knows z p.view) (sym is) (subst (λ (z : PassView O E). Knows (absorbing v x.view) z.view) q.1 (knows_it v x.view))))
      (at_last_or ys x p i (ap (λ (zs : List (PassView O E)). get_elem? zs i) (sym e) ∙ t)))
      (λ t. inr (subst (λ (z : View O E). Knows z p.view) (sym is) (knows_more v x.view p.view t))) (h i p g)

  pub knows_all : (all ys : List (PassView O E)) (v : View O E) → ys ≡ [] → ((i : ℕ) (p : PassView O E) → get_elem? all i ≡ some p → (get_elem? ys i ≡ some p) ⊎ Knows v p.view)
      → (i : ℕ) (p : PassView O E) → get_elem? all i ≡ some p → Knows v p.view
  knows_all all ys v e h i p g = ⊎_elim (λ t. absurd (some-ne-none p (sym (ap (λ (zs : List (PassView O E)). get_elem? zs i) (sym e) ∙ t)))) (λ t. t) (h i p g)

  pub all_some : (actors : ℕ) (xs : List (PassView O E)) → 0 < actors → AreAll actors xs → 0 < length xs
  all_some actors xs pos all = let h = all 1 (omega arith) (omega arith) in let b : h.0 < length xs = in_range xs h.0 h.1 h.2 in omega arith

  pub took_all : (actors : ℕ) (xs : List (PassView O E)) (v : View O E) → AreAll actors xs → ((i : ℕ) (p : PassView O E) → get_elem? xs i ≡ some p → Knows v p.view) → TookAll actors v
  took_all actors xs v all knows a pos most = let h = all a pos most in let p = h.1 in
      ⊎_elim (λ e. inl (ap (λ (z : Absorbed E). z.actor) (sym e) ∙ h.3)) (λ t. inr (t.0, absorbed p.view, t.1, h.3)) (knows h.0 p h.2)

  first_new : (c : O) (n actors : ℕ) → IsNew n actors 1 c (opener {E = E} c [] n actors)
  first_new c n actors = record { actor = refl; many = refl; live = refl; seen = refl; mine = refl; held = refl; refusals = refl }

  -- the list of the first pass alone
  pub new_first : (cells : CellsView O) (x : PassView O E) → x ≡ record { table = cells.table; view = opener cells.opening [] cells.cells cells.actors } → AreNew cells (x ∷ [])
  new_first cells x e zero p g = let is = sym (some-injective x p g) ∙ e in subst (λ (z : PassView O E). (z.table ≡ cells.table) × IsNew cells.cells cells.actors 1 cells.opening z.view) (sym is) (refl, first_new cells.opening cells.cells cells.actors)
  new_first cells x e (suc i) p g = absurd (some-ne-none p (sym g))

  made_new : (n actors a : ℕ) (c : O) (v : View O E) → IsNew n actors a c v → IsNew n actors a c (making v)
  made_new n actors a c v h = record { actor = h.actor; many = h.many; live = h.live; seen = h.seen; mine = h.mine; held = h.held; refusals = h.refusals }

  next_new : (n actors a b : ℕ) (c : O) (v : View O E) → IsNew n actors a c v → v.made + 1 ≡ b → IsNew n actors b c (newcomer v)
  next_new n actors a b c v h e = record { actor = e; many = h.many; live = h.live; seen = h.seen; mine = refl; held = ap (λ (m : ℕ). replicate m false) (ap (λ (bs : List Bool). length bs) h.held ∙ length-replicate (n + 1) false); refusals = refl }

  -- the list after one more pass
  pub new_next : (cells : CellsView O) (xs ys : List (PassView O E)) (x y : PassView O E) (m : ℕ) → AreNew cells xs → get_elem? xs 0 ≡ some x → x.view.made ≡ m → length xs ≡ m
      → y ≡ record { table = x.table; view = newcomer x.view } → ys ≡ set xs 0 record { table = x.table; view = making x.view } ++ y ∷ [] → AreNew cells ys
  new_next cells xs ys x y m h first made long is e i p g = ⊎_elim (λ t. ⊎_elim (λ q. subst (λ (z : PassView O E). (z.table ≡ cells.table) × IsNew cells.cells cells.actors (i + 1) cells.opening z.view) q.1
      (let old = h 0 x first in (old.0, subst (λ (k : ℕ). IsNew cells.cells cells.actors (k + 1) cells.opening (making x.view)) (sym q.0) (made_new cells.cells cells.actors 1 cells.opening x.view old.1))))
      (λ q. h i p q.1) (at_set xs 0 i record { table = x.table; view = making x.view } p t))
      (λ t. subst (λ (z : PassView O E). (z.table ≡ cells.table) × IsNew cells.cells cells.actors (i + 1) cells.opening z.view) (sym is ∙ t.1)
      (let old = h 0 x first in (old.0, next_new cells.cells cells.actors 1 (i + 1) cells.opening x.view old.1 (made' t.0))))
      (at_last_or (set xs 0 record { table = x.table; view = making x.view }) y p i (ap (λ (zs : List (PassView O E)). get_elem? zs i) (sym e) ∙ g))
    where
      made' : i ≡ length (set xs 0 record { table = x.table; view = making x.view }) → x.view.made + 1 ≡ i + 1
      made' q = ap (λ (k : ℕ). k + 1) (made ∙ sym long ∙ sym (length-set xs 0 record { table = x.table; view = making x.view }) ∙ sym q)

  pub first_made : (xs ys : List (PassView O E)) (x y : PassView O E) (m : ℕ) → get_elem? xs 0 ≡ some x → x.view.made ≡ m → ys ≡ set xs 0 record { table = x.table; view = making x.view } ++ y ∷ []
      → (p : PassView O E) → get_elem? ys 0 ≡ some p → p.view.made ≡ m + 1
  first_made xs ys x y m first made e p g = let x' : PassView O E = record { table = x.table; view = making x.view } in
      let is : x' ≡ p = some-injective x' p (sym (at_longer (set xs 0 x') (y ∷ []) 0 x' (set_here xs 0 x' (in_range xs 0 x first))) ∙ ap (λ (zs : List (PassView O E)). get_elem? zs 0) (sym e) ∙ g) in
      ap (λ (z : PassView O E). z.view.made) (sym is) ∙ ap (λ (k : ℕ). k + 1) made

module _ {T J O E : Type 0} (legal : O → List (ℕ × E) → Type 0) (stands : ℕ → O → List (ℕ × E) → T → Type 0) (touches : O → List (ℕ × E) → ℕ × E → ℕ → Type 0) (opening : J → O) (list : J → List (ℕ × E)) (n : ℕ) (c : O) where
  abbrev S : Type 0
  S = Option (Lodged T J)

  pub lies_at : (log : List (ℕ × E)) (xs : List S) (k : ℕ) (y : Lodged T J) → Laid legal stands touches opening list n c log xs → k < n + 1 → get_elem? xs k ≡ some (Some y) → Lies stands opening list n c log k y
  lies_at log xs k y laid near e = let h = laid k near in subst (λ (z : Lodged T J). Lies stands opening list n c log k z) (some_is h.0 y (some-injective (Some h.0) (Some y) (sym h.1 ∙ e))) h.2

  cell_of : (log : List (ℕ × E)) (xs : List S) (k : ℕ) (y : Lodged T J) → k < n → get_elem? xs k ≡ some (Some y) → Lies stands opening list n c log k y → (x : T) × (get_elem? xs k ≡ some (Some (Cell x)))
  cell_of log xs k (Cell x) near e h = (x, e)
  cell_of log xs k (Journal j) near e h = let is : k ≡ n = h.0 in absurd (omega arith)

  journal_of : (log : List (ℕ × E)) (xs : List S) (y : Lodged T J) → get_elem? xs n ≡ some (Some y) → Lies stands opening list n c log n y → (j : J) × (get_elem? xs n ≡ some (Some (Journal j)))
  journal_of log xs (Cell x) e h = let is : n < n = h.0 in absurd (omega arith)
  journal_of log xs (Journal j) e h = (j, e)

  pub laid_cells : (log : List (ℕ × E)) (xs : List S) (m : ℕ) → m ≡ n → Laid legal stands touches opening list n c log xs → (k : ℕ) → k < m → (x : T) × (get_elem? xs k ≡ some (Some (Cell x)))
  laid_cells log xs m is laid k near = let h = laid k (omega arith) in cell_of log xs k h.0 (omega arith) h.1 h.2

  pub laid_journal : (log : List (ℕ × E)) (xs : List S) (m : ℕ) → m ≡ n → Laid legal stands touches opening list n c log xs → (j : J) × (get_elem? xs m ≡ some (Some (Journal j)))
  laid_journal log xs m is laid = let h = laid n (omega arith) in subst (λ (k : ℕ). (j : J) × (get_elem? xs k ≡ some (Some (Journal j)))) (sym is) (journal_of log xs h.0 h.1 h.2)

  module _ (v : View O E) (xs : List S) (d : Closes legal stands touches opening list n c v xs) (m : ℕ) (is : m ≡ n) (j : J) (at : get_elem? xs m ≡ some (Some (Journal j))) where
    there : Lies stands opening list n c d.log n (Journal j)
    there = lies_at d.log xs n (Journal j) d.laid (omega arith) (subst (λ (k : ℕ). get_elem? xs k ≡ some (Some (Journal j))) is at)

    pub closed_opening : opening j ≡ c
    closed_opening = there.1

    pub closed_legal : legal c (list j)
    closed_legal = subst (legal c) (sym there.2) d.legal_log

    pub closed_values : (k : ℕ) (x : T) → k < m → get_elem? xs k ≡ some (Some (Cell x)) → stands k c (list j) x
    closed_values k x near e = subst (λ (us : List (ℕ × E)). stands k c us x) (sym there.2) (lies_at d.log xs k (Cell x) d.laid (omega arith) e).1

    pub closed_passes : (w : View O E) → Knows v w → Shown (list j) w
    closed_passes w h = subst (λ (us : List (ℕ × E)). Shown us w) (sym there.2) (⊎_elim (λ e. subst (λ (z : Absorbed E). AbsorbedOk d.log z) (sym e) d.own) (λ t. d.others t.0 (absorbed w) t.1) h)

module _ {T J : Type 0} where
  abbrev lodged : T → Option (Lodged T J)
  lodged x = Some (Cell x)

  -- the values and then the journal, as the slots have them
  abbrev pub row : List T → J → List (Option (Lodged T J))
  row xs j = map lodged xs ++ Some (Journal j) ∷ []

  row_long : (xs : List T) (j : J) → length (row xs j) ≡ length xs + 1
  row_long [] j = refl
  row_long (x ∷ xs) j = let e : length (row xs j) ≡ length xs + 1 = row_long xs j in omega arith

pub emptied_above : (fs : List Bool) (k m : ℕ) → Filled fs k m → Filled (set fs k false) (k + 1) m
emptied_above fs k m h j low high = get_or-set_other fs k j false false (λ e. omega arith) ∙ h j (omega arith) high

pub emptied_below : (fs : List Bool) (k : ℕ) → k < length fs → ((j : ℕ) → j < k → slice_index_or fs j false ≡ false) → (j : ℕ) → j < k + 1 → slice_index_or (set fs k false) j false ≡ false
emptied_below fs k near h j less = dite (ℕ_discrete j k) (λ e. ap (λ (i : ℕ). slice_index_or (set fs k false) i false) e ∙ get_or-set_same fs k false false near) (λ ne. get_or-set_other fs k j false false ne ∙ h j (omega arith))

-- the values up to k, and the next
pub value_next : {T J : Type 0} (xs ys : List T) (slots : List (Option (Lodged T J))) (k : ℕ) {x : T} → length xs ≡ k → ys ≡ xs ++ x ∷ [] → ((j : ℕ) (y : T) → get_elem? xs j ≡ some y → get_elem? slots j ≡ some (Some (Cell y)))
    → get_elem? slots k ≡ some (Some (Cell x)) → (j : ℕ) (y : T) → get_elem? ys j ≡ some y → get_elem? slots j ≡ some (Some (Cell y))
value_next {T} {J} xs ys slots k {x} long e h here j y g = ⊎_elim (λ t. h j y t)
    (λ t. subst (λ (z : T). get_elem? slots j ≡ some (Some (Cell z))) t.1 (ap (λ (i : ℕ). get_elem? slots i) (t.0 ∙ long) ∙ here)) (at_last_or xs x y j (ap (λ (zs : List T). get_elem? zs j) (sym e) ∙ g))

there_is : {A : Type 0} (xs : List A) (k : ℕ) → k < length xs → (x : A) × (get_elem? xs k ≡ some x)
there_is [] k h = absurd (omega arith)
there_is (x ∷ xs) zero h = (x, refl)
there_is (x ∷ xs) (suc k) h = there_is xs k (omega arith)

pub row_length : {T J : Type 0} (xs : List T) (j : J) (slots : List (Option (Lodged T J))) (n : ℕ) → slots ≡ row xs j → n ≡ length xs → length slots ≡ n + 1
row_length {T} {J} xs j slots n e is = ap (λ (ys : List (Option (Lodged T J))). length ys) e ∙ row_long xs j ∙ ap (λ (m : ℕ). m + 1) (sym is)

-- values at home, and a journal with an empty list
pub row_laid : {T J O E : Type 0} (legal : O → List (ℕ × E) → Type 0) (stands : ℕ → O → List (ℕ × E) → T → Type 0) (touches : O → List (ℕ × E) → ℕ × E → ℕ → Type 0) (opening : J → O) (list : J → List (ℕ × E)) (n : ℕ) (c : O)
    (xs : List T) (j : J) (slots : List (Option (Lodged T J))) → slots ≡ row xs j → n ≡ length xs → opening j ≡ c → list j ≡ [] → ((k : ℕ) (x : T) → get_elem? xs k ≡ some x → stands k c [] x) → Laid legal stands touches opening list n c [] slots
row_laid {T} {J} {O} {E} legal stands touches opening list n c xs j slots e is opens empty homes k near = subst (λ (ys : List (Option (Lodged T J))). (y : Lodged T J) × (get_elem? ys k ≡ some (Some y)) × Lies stands opening list n c [] k y) (sym e) (dite (ℕ_discrete k n)
    (λ at. (Journal j, at_last (map lodged xs) (Some (Journal j)) k (length-map xs lodged ∙ sym is ∙ sym at), (at, opens, empty)))
    (λ ne. let below : k < length xs = omega arith in let h = there_is xs k below in (Cell h.0, at_longer (map lodged xs) (Some (Journal j) ∷ []) k (Some (Cell h.0)) (at_map lodged xs k h.0 h.1), ((omega arith), homes k h.0 h.1))))
