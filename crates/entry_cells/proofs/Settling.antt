-- What stays of the table's rule when one word, its slot and the view of one pass change.
use Rattle.std.proofs.Common.{◌≡◌, ◌≢◌, ◌⊎◌, ℕ, ◌+◌, ◌<◌, ◌≤◌, List, length, set, slice_index, Option, Some, sym, refl, ap, ◌∙◌, subst, inl, inr, ⊎_elim, length-set}
use mathlib.Core.Option.{some, none, some-injective, some-ne-none}
use mathlib.Core.Option as maybe
use mathlib.Core.Logic.{dite}
use native.Mathlib.Decide.{ℕ_discrete}
use lib.ListN.{get_elem?}
use Rattle.atomic_table.specs.Table.{State}
use Rattle.atomic_table.proofs.Lists.{at_set, set_here, set_else}
use Rattle.entry_cells.specs.Entries.{entries_of}
use Rattle.entry_cells.specs.Views.{Holds}
use Rattle.entry_cells.specs.Rule.{Lies, ViewOk, Live, Fresh, HeldBy, Away, AtHome, Sound}
use Rattle.entry_cells.specs.declared.board.View.{View}
use Rattle.entry_cells.specs.declared.board.Absorbed.{Absorbed}
use Rattle.entry_cells.specs.declared.board.Lodged.{Lodged}
use Rattle.entry_cells.proofs.EntryLaws.{in_range, index_here, index_else}

-- w is a later view of the pass with the view v
pub record Same {O E : Type 0} (v w : View O E) : Type 0 where
  pub actor : v.actor ≡ w.actor
  pub made : v.made ≡ w.made
  pub actors : v.actors ≡ w.actors
  pub taken_in : v.taken_in ≡ w.taken_in

module _ {T J O E : Type 0} (legal : O → List (ℕ × E) → Type 0) (stands : ℕ → O → List (ℕ × E) → T → Type 0) (touches : O → List (ℕ × E) → ℕ × E → ℕ → Type 0) (opening : J → O) (list : J → List (ℕ × E)) (n actors : ℕ) (c : O) where
  abbrev S : Type 0
  S = Option (Lodged T J)

  abbrev St : Type 0
  St = State S (View O E)

  abbrev Good : St → Type 0
  Good s = Sound legal stands touches opening list n actors c s

  abbrev Home : St → List (ℕ × E) → ℕ → Type 0
  Home s log k = AtHome legal stands touches opening list n actors c s log k

  abbrev after : St → ℕ → ℕ → List (maybe.Option S) → ℕ → View O E → St
  after s k x hs id w = record { words = set s.words k x; homes = hs; views = set s.views id w }

  -- what the step of the pass id, with the view v, on the word k owes
  pub record Step (s : St) (log : List (ℕ × E)) (id : ℕ) (v w : View O E) (k x : ℕ) (hs : List (maybe.Option S)) (log' : List (ℕ × E)) : Type 0 where
    pub live : Live c s id v
    pub stays_live : w.opening ≡ Some c
    pub same : Same v w
    pub near : k < n + 1
    pub homes : length hs ≡ n + 1
    pub others_home : (j : ℕ) → j ≢ k → get_elem? hs j ≡ get_elem? s.homes j
    pub legal_log : legal c log'
    pub view : ViewOk touches n c log' w
    pub views : (j : ℕ) (u : View O E) → j ≢ id → Live c s j u → ViewOk touches n c log' u
    pub lie : (j : ℕ) (y : Lodged T J) → j ≢ k → slice_index s.words j ≡ 0 → Lies stands opening list n c log j y → Lies stands opening list n c log' j y
    pub keeps : (j : ℕ) → j ≢ k → Holds v j → Holds w j
    pub gains : (j : ℕ) → j ≢ k → Holds w j → Holds v j
    pub out_here : (j : ℕ) → v.out ≡ Some j → j ≡ k
    pub here : Home (after s k x hs id w) log' k ⊎ Away c (after s k x hs id w) k
    pub my_word : Holds w k → x ≡ w.actor
    pub other_word : (j : ℕ) (u : View O E) → j ≢ id → Live c s j u → Holds u k → x ≡ u.actor
    pub other_entries : (a : ℕ) → a ≢ v.actor → entries_of a log' ≡ entries_of a log

  pub settle : (s : St) (r : Good s) (id : ℕ) (v w : View O E) (k x : ℕ) (hs : List (maybe.Option S)) (log' : List (ℕ × E)) → Step s r.log id v w k x hs log' → Good (after s k x hs id w)
  settle s r id v w k x hs log' d = record {
    log = log';
    legal_log = d.legal_log;
    many_words = length-set s.words k x ∙ r.many_words;
    many_homes = d.homes;
    views_ok = λ j u l. ⊎_elim (λ t. subst (λ (z : View O E). ViewOk touches n c log' z) t.1 d.view) (λ t. d.views j u t.0 t.1) (found j u l);
    each_word = λ j near. dite (ℕ_discrete j k) (λ e. subst (λ (z : ℕ). Home s' log' z ⊎ Away c s' z) (sym e) d.here) (λ ne. ⊎_elim (λ h. inl (home j ne h)) (λ a. inr (away j ne a)) (r.each_word j near));
    each_hold = λ j u m l h. ⊎_elim (λ t. subst (λ (z : View O E). Holds z m → slice_index s'.words m ≡ z.actor) t.1 (mine m) h) (λ t. other j u m t.0 t.1 h) (found j u l);
    apart = λ i u j t li lj e. let p = before i u li in let q = before j t lj in r.apart i p.0 j q.0 p.1 q.1 (p.2.actor ∙ e ∙ sym q.2.actor);
    below = λ i u l. let p = before i u l in subst (λ (z : ℕ). z ≤ actors) p.2.actor (r.below i p.0 p.1);
    counted = λ i u l. let p = before i u l in sym p.2.actors ∙ r.counted i p.0 p.1;
    gone = λ i u j t p y li lj e. let b = before i u li in let f = before j t lj in λ is. r.gone i b.0 j f.0 p y b.1 f.1 (ap (λ (zs : List (Absorbed E)). get_elem? zs p) b.2.taken_in ∙ e) (is ∙ sym f.2.actor);
    fresh = λ i m a l one less. let b = before i m l in fresh a (r.fresh i b.0 a b.1 (b.2.actor ∙ one) (subst (λ (z : ℕ). z < a) (sym b.2.made) less));
  }
    where
      s' : St
      s' = after s k x hs id w

      found : (j : ℕ) (u : View O E) → Live c s' j u → ((j ≡ id) × (w ≡ u)) ⊎ ((j ≢ id) × Live c s j u)
      found j u l = ⊎_elim (λ t. inl t) (λ t. inr (t.0, (t.1, l.1))) (at_set s.views id j w u l.0)

      before : (j : ℕ) (u : View O E) → Live c s' j u → (u₀ : View O E) × Live c s j u₀ × Same u₀ u
      before j u l = ⊎_elim (λ t. (v, subst (λ (z : ℕ). Live c s z v) (sym t.0) d.live, subst (λ (z : View O E). Same v z) t.1 d.same)) (λ t. (u, t.1, record { actor = refl; made = refl; actors = refl; taken_in = refl })) (found j u l)

      live' : Live c s' id w
      live' = (set_here s.views id w (in_range s.views id v d.live.0), d.stays_live)

      home : (j : ℕ) → j ≢ k → Home s r.log j → Home s' log' j
      home j ne h = (index_else s.words k j x ne ∙ h.0, (h.1.0, d.others_home j ne ∙ h.1.1, d.lie j h.1.0 ne h.0 h.1.2))

      away : (j : ℕ) → j ≢ k → Away c s j → Away c s' j
      away j ne a = let i = a.0 in let u = a.1 in let hb : HeldBy c s j i u = a.2 in dite (ℕ_discrete i id)
          (λ e. let is : u ≡ v = some-injective u v (sym hb.0.0 ∙ ap (λ (z : ℕ). get_elem? s.views z) e ∙ d.live.0) in (
            id,
            w,
            (
              live',
              d.keeps j ne (subst (λ (z : View O E). Holds z j) is hb.1),
              index_else s.words k j x ne ∙ hb.2 ∙ ap (λ (z : View O E). z.actor) is ∙ d.same.actor,
              ⊎_elim (λ t. inl (d.others_home j ne ∙ t)) (λ t. absurd (ne (d.out_here j (ap (λ (z : View O E). z.out) (sym is) ∙ t)))) hb.3,
            ),
          ))
          (λ far. (i, u, ((set_else s.views id i w far ∙ hb.0.0, hb.0.1), hb.1, index_else s.words k j x ne ∙ hb.2, ⊎_elim (λ t. inl (d.others_home j ne ∙ t)) (λ t. inr t) hb.3)))

      word_here : slice_index s'.words k ≡ x
      word_here = index_here s.words k x (subst (λ (z : ℕ). k < z) (sym r.many_words) d.near)

      mine : (m : ℕ) → Holds w m → slice_index s'.words m ≡ w.actor
      mine m h = dite (ℕ_discrete m k) (λ e. ap (λ (z : ℕ). slice_index s'.words z) e ∙ word_here ∙ d.my_word (subst (λ (z : ℕ). Holds w z) e h))
          (λ ne. index_else s.words k m x ne ∙ r.each_hold id v m d.live (d.gains m ne h) ∙ d.same.actor)

      other : (j : ℕ) (u : View O E) (m : ℕ) → j ≢ id → Live c s j u → Holds u m → slice_index s'.words m ≡ u.actor
      other j u m far l h = dite (ℕ_discrete m k) (λ e. ap (λ (z : ℕ). slice_index s'.words z) e ∙ word_here ∙ d.other_word j u far l (subst (λ (z : ℕ). Holds u z) e h))
          (λ ne. index_else s.words k m x ne ∙ r.each_hold j u m l h)

      fresh : (a : ℕ) → Fresh c s r.log a → Fresh c s' log' a
      fresh a f = record {
        unused = λ j u l. let b = before j u l in λ is. f.unused j b.0 b.1 (b.2.actor ∙ is);
        unknown = λ j u p y l e. let b = before j u l in f.unknown j b.0 p y b.1 (ap (λ (zs : List (Absorbed E)). get_elem? zs p) b.2.taken_in ∙ e);
        silent = d.other_entries a (λ is. f.unused id v d.live (sym is)) ∙ f.silent;
      }
