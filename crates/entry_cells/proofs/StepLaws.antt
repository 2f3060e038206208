-- Each step on a word keeps the rule.
use Rattle.std.proofs.Common.{◌≡◌, ◌≢◌, ℕ, ◌+◌, ◌<◌, ◌≤◌, ◌^◌, true, false, eqb, List, [], ◌∷◌, ◌++◌, set, slice_index, Option, Some, None, sym, refl, ap, ◌∙◌, subst, inl, inr, ⊎_elim, length-set, append-nil, append_assoc, true≢false, arith}
use mathlib.Core.Option.{some, none, some-injective, some-ne-none}
use mathlib.Core.Option as maybe
use prog.Atomic.{either}
use lib.ListN.{get_elem?}
use Rattle.std.proofs.lemmas.Option.{none-some}
use Rattle.atomic_table.specs.Table.{State, Act, keeps, takes as taking_act, gives as giving_act, step, stepped, put_back, rest, carried_after, Valid, Allows}
use Rattle.atomic_table.proofs.Lists.{at_set, set_here, set_else, exchanged}
use Rattle.entry_cells.specs.Entries.{Untouched, entries_of, all_of}
use Rattle.entry_cells.specs.Views.{Holds, Adds, with_out, with_none_out, taking, refused, given}
use Rattle.entry_cells.specs.Rule.{Lies, ViewOk, Live, HeldBy, Sound, AbsorbedOk}
use Rattle.entry_cells.specs.Moves.{Seated, Comes, takes, Fits, shuts, opens, gives}
use Rattle.entry_cells.specs.declared.board.View.{View}
use Rattle.entry_cells.specs.declared.board.Absorbed.{Absorbed}
use Rattle.entry_cells.specs.declared.board.Lodged.{Lodged}
use Rattle.entry_cells.specs.declared.board.Lodged.TheVariants.{Cell, Journal}
use Rattle.entry_cells.proofs.EntryLaws.{some_is, in_range, index_here, untouched_append, entries_append, entries_other}
use Rattle.entry_cells.proofs.Settling.{Same, settle}

abbrev first_of : {A : Type 0} → A → List A → A
first_of a [] = a
first_of a (x ∷ xs) = x

pub pair_is : {A B : Type 0} (a a' : A) (b b' : B) → a ≡ a' → b ≡ b' → ◌≡◌ {A = A × B} (a, b) (a', b')
pair_is a a' b b' p q = λ i. (p i, q i)

module _ {S : Type 0} where
  -- a carried slot has one value
  pub same_slot : (l : List (ℕ × S)) (k : ℕ) (x : S) (i : ℕ) (y : S) (m m' : List (ℕ × S)) → l ≡ (k, x) ∷ m → l ≡ (i, y) ∷ m' → x ≡ y
  same_slot l k x i y m m' e f = ap (λ (zs : List (ℕ × S)). (first_of (k, x) zs).1) (sym e ∙ f)

  pub carried_one : (l m : List (ℕ × S)) (x : ℕ × S) → l ≡ x ∷ m → l ≡ x ∷ rest l
  carried_one l m x e = e ∙ ap (λ (zs : List (ℕ × S)). x ∷ rest zs) (sym e)

module _ {T J O E : Type 0} (legal : O → List (ℕ × E) → Type 0) (stands : ℕ → O → List (ℕ × E) → T → Type 0) (touches : O → List (ℕ × E) → ℕ × E → ℕ → Type 0) (opening : J → O) (list : J → List (ℕ × E)) (n actors : ℕ) (c : O) where
  abbrev S : Type 0
  S = Option (Lodged T J)

  abbrev St : Type 0
  St = State S (View O E)

  abbrev Good : St → Type 0
  Good s = Sound legal stands touches opening list n actors c s

  unchanged : (v : View O E) → Same v v
  unchanged v = record { actor = refl; made = refl; actors = refl; taken_in = refl }

  zero_is : (x a : ℕ) → x ≡ a → x ≡ 0 → 0 < a → ⊥
  zero_is x a e z p = omega arith

  -- the views of two passes with one number are one view
  pub alike : (s : St) (r : Good s) (i : ℕ) (v : View O E) (j : ℕ) (w : View O E) → Live c s i v → Live c s j w → v.actor ≡ w.actor → (i ≡ j) × (v ≡ w)
  alike s r i v j w li lj e = let is : i ≡ j = r.apart i v j w li lj e in (is, some-injective v w (sym li.0 ∙ ap (λ (z : ℕ). get_elem? s.views z) is ∙ lj.0))

  -- a cell that one pass holds is held by no other
  pub alone : (s : St) (r : Good s) (i : ℕ) (v : View O E) (k : ℕ) (j : ℕ) (u : View O E) → Live c s i v → Holds v k → j ≢ i → Live c s j u → Holds u k → ⊥
  alone s r i v k j u l h far lu hu = far (r.apart j u i v lu l (sym (r.each_hold j u k lu hu) ∙ r.each_hold i v k l h))

  taken_view : (s : St) (r : Good s) (id : ℕ) (v : View O E) (k : ℕ) → k < n + 1 → Live c s id v → ViewOk touches n c r.log (taking v k r.log)
  taken_view s r id v k near l = let o = r.views_ok id v l in record {
    since = [];
    begins = sym (append-nil r.log);
    real = o.real;
    small = o.small;
    wide = length-set v.held k true ∙ o.wide;
    has_out = λ j e. subst (λ (z : ℕ). Holds (taking v k r.log) z) (some_is k j e) (set_here v.held k true (subst (λ (z : ℕ). k < z) (sym o.wide) near));
    own = o.own;
    own_seen = o.own;
    quiet = λ j a h. tt;
    newest = λ h. refl;
    closed = o.closed;
  }

  take_home : (s : St) (r : Good s) (id : ℕ) (v : View O E) (k : ℕ) → k < n + 1 → Live c s id v → v.out ≡ None → slice_index s.words k ≡ 0
      → Good record { words = set s.words k v.actor; homes = set s.homes k none; views = set s.views id (taking v k r.log) }
  take_home s r id v k near l closed at = let o = r.views_ok id v l in let w = taking v k r.log in let ok = taken_view s r id v k near l in let holds = ok.has_out k refl in
      settle legal stands touches opening list n actors c s r id v w k v.actor (set s.homes k none) r.log record {
        live = l;
        stays_live = l.1;
        same = record { actor = refl; made = refl; actors = refl; taken_in = refl };
        near = near;
        homes = length-set s.homes k none ∙ r.many_homes;
        others_home = λ j ne. set_else s.homes k j none ne;
        legal_log = r.legal_log;
        view = ok;
        views = λ j u far lu. r.views_ok j u lu;
        lie = λ j y ne z h. h;
        keeps = λ j ne h. set_else v.held k j true ne ∙ h;
        gains = λ j ne h. sym (set_else v.held k j true ne) ∙ h;
        out_here = λ j e. absurd (none-some j (sym closed ∙ e));
        here = inr (id, w, ((set_here s.views id w (in_range s.views id v l.0), l.1), holds, index_here s.words k v.actor (subst (λ (z : ℕ). k < z) (sym r.many_words) near), inr refl));
        my_word = λ h. refl;
        other_word = λ j u far lu h. absurd (zero_is _ u.actor (r.each_hold j u k lu h) at (r.views_ok j u lu).real);
        other_entries = λ a ne. refl;
      }

  refuse : (s : St) (r : Good s) (id : ℕ) (v : View O E) (k i : ℕ) (u : View O E) → k < n + 1 → Live c s id v → v.out ≡ None → (Holds v k → ⊥) → HeldBy c s k i u
      → Good record { words = set s.words k (slice_index s.words k); homes = s.homes; views = set s.views id (refused v k (slice_index s.words k)) }
  refuse s r id v k i u near l closed lacks hb = let o = r.views_ok id v l in let x = slice_index s.words k in let w = refused v k x in
      let far : i ≢ id = λ is. lacks (subst (λ (z : View O E). Holds z k) (some-injective u v (sym hb.0.0 ∙ ap (λ (z : ℕ). get_elem? s.views z) is ∙ l.0)) hb.1) in
      settle legal stands touches opening list n actors c s r id v w k x s.homes r.log record {
        live = l;
        stays_live = l.1;
        same = record { actor = refl; made = refl; actors = refl; taken_in = refl };
        near = near;
        homes = r.many_homes;
        others_home = λ j ne. refl;
        legal_log = r.legal_log;
        view = record { since = o.since; begins = o.begins; real = o.real; small = o.small; wide = o.wide; has_out = o.has_out; own = o.own; own_seen = o.own_seen; quiet = o.quiet; newest = o.newest; closed = o.closed };
        views = λ j t ne lt. r.views_ok j t lt;
        lie = λ j y ne z h. h;
        keeps = λ j ne h. h;
        gains = λ j ne h. h;
        out_here = λ j e. absurd (none-some j (sym closed ∙ e));
        here = inr (i, u, ((set_else s.views id i w far ∙ hb.0.0, hb.0.1), hb.1, index_here s.words k x (subst (λ (z : ℕ). k < z) (sym r.many_words) near) ∙ hb.2, hb.3));
        my_word = λ h. absurd (lacks h);
        other_word = λ j t ne lt h. r.each_hold j t k lt h;
        other_entries = λ a ne. refl;
      }

  came : (s : St) (r : Good s) (id : ℕ) (v : View O E) (k : ℕ) (me : List (ℕ × S)) (y : Lodged T J) → k < n + 1 → Live c s id v → Lies stands opening list n c r.log k y
      → Comes legal stands touches opening list n k c (v, me) (taking v k r.log, (k, Some y) ∷ me)
  came s r id v k me y near l lies = let o = r.views_ok id v l in
      (r.log, refl, r.legal_log, (o.since, o.begins, o.quiet), o.own, (taken_view s r id v k near l).has_out k refl, (y, refl, lies))

  told : (k x : ℕ) (m m' : Seated T J O E) (slots : ℕ) → slots ≡ n + 1 → m.0.opening ≡ Some c → Comes legal stands touches opening list n k c m m'
      → (n' : ℕ) (c' : O) → slots ≡ n' + 1 → m.0.opening ≡ Some c' → Comes legal stands touches opening list n' k c' m m'
  told k x m m' slots many live comes n' c' many' live' = let same : n ≡ n' = omega arith in
      subst (λ (z : ℕ). Comes legal stands touches opening list z k c' m m') same (subst (λ (d : O). Comes legal stands touches opening list n k d m m') (some_is c c' (sym live ∙ live')) comes)

  -- who holds a cell is none above the number of passes
  not_above : (s : St) (r : Good s) (id : ℕ) (v : View O E) (i : ℕ) (u : View O E) (k : ℕ) → Live c s id v → HeldBy c s k i u → slice_index s.words k ≤ v.actors
  not_above s r id v i u k l hb = let word : slice_index s.words k ≡ u.actor = hb.2 in let below = r.below i u hb.0 in let many = r.counted id v l in omega arith

  pub take_word : (slots id : ℕ) (me : Seated T J O E) (k a : ℕ) → slots ≡ n + 1 → me.0.opening ≡ Some c → me.0.out ≡ None → me.0.actor ≡ a → k < n + 1 → (Holds me.0 k → ⊥)
      → Allows Good slots id me k (λ x. either (eqb x 0) a x) (takes legal stands touches opening list (step slots k 0 a none) me)
  take_word slots id me k a many live closed is near lacks s r wide at small = let v = me.0 in let l : Live c s id v = (at, live) in let x : ℕ = slice_index s.words k in
      let F : ℕ → Type 0 = λ (z : ℕ). (w : View O E) × (act : Act S) × Valid s.homes me.1 act × Good (stepped s k z id me.1 w act) × takes legal stands touches opening list (step slots k 0 a none) me x (w, carried_after me.1 act) in
      exchanged x 0 a F
      (λ e. ⊎_elim (λ h. let y = h.1.0 in (
        taking v k r.log,
        taking_act k (Some y),
        h.1.1,
        subst (λ (z : ℕ). Good record { words = set s.words k z; homes = set s.homes k none; views = set s.views id (taking v k r.log) }) is (take_home s r id v k near l closed e),
        ((λ _. told k x me (taking v k r.log, (k, Some y) ∷ me.1) slots many live (came s r id v k me.1 y near l h.1.2)), λ ne. absurd (ne e)),
      ))
      (λ h. absurd (zero_is x h.1.actor h.2.2 e (r.views_ok h.0 h.1 h.2.0).real)) (r.each_word k near))
      (λ ne. ⊎_elim (λ h. absurd (ne h.0))
      (λ h. let i = h.0 in let u = h.1 in let hb = h.2 in (
        refused v k x,
        keeps,
        tt,
        refuse s r id v k i u near l closed lacks hb,
        ((λ e. absurd (ne e)), λ _. (refl, (λ e. lacks (subst (λ (z : View O E). Holds z k) (alike s r i u id v hb.0 l (sym hb.2 ∙ e)).1 hb.1)), subst (λ (z : ℕ). z < 2 ^ 32) (sym hb.2) (r.views_ok i u hb.0).small, not_above s r id v i u k l hb)),
      )) (r.each_word k near))

  -- a slot that is out goes home with y
  put : (s : St) (me : List (ℕ × S)) (k : ℕ) (y : S) → me ≡ (k, y) ∷ rest me → put_back s.homes me ≡ set s.homes k (some y)
  put s me k y e = ap (λ (zs : List (ℕ × S)). put_back s.homes zs) e

  shut_here : (s : St) (r : Good s) (id : ℕ) (v : View O E) (k : ℕ) (hs : List (maybe.Option S)) → hs ≡ set s.homes k (some None) → Live c s id v → v.out ≡ Some k → k < n + 1
      → Good record { words = set s.words k (slice_index s.words k); homes = hs; views = set s.views id (with_none_out v) }
  shut_here s r id v k hs is l out near = let o = r.views_ok id v l in let x = slice_index s.words k in let w = with_none_out v in let holds = o.has_out k out in let word = r.each_hold id v k l holds in
      subst (λ (zs : List (maybe.Option S)). Good record { words = set s.words k x; homes = zs; views = set s.views id w }) (sym is) (settle legal stands touches opening list n actors c s r id v w k x (set s.homes k (some None)) r.log record {
        live = l;
        stays_live = l.1;
        same = record { actor = refl; made = refl; actors = refl; taken_in = refl };
        near = near;
        homes = length-set s.homes k (some None) ∙ r.many_homes;
        others_home = λ j ne. set_else s.homes k j (some None) ne;
        legal_log = r.legal_log;
        view = record { since = o.since; begins = o.begins; real = o.real; small = o.small; wide = o.wide; has_out = λ j e. absurd (none-some j e); own = o.own; own_seen = o.own_seen; quiet = o.quiet; newest = o.newest; closed = o.closed };
        views = λ j t ne lt. r.views_ok j t lt;
        lie = λ j y ne z h. h;
        keeps = λ j ne h. h;
        gains = λ j ne h. h;
        out_here = λ j e. some_is j k (sym e ∙ out);
        here = inr (
          id,
          w,
          (
            (set_here s.views id w (in_range s.views id v l.0), l.1),
            holds,
            index_here s.words k x (subst (λ (z : ℕ). k < z) (sym r.many_words) near) ∙ word,
            inl (set_here s.homes k (some None) (subst (λ (z : ℕ). k < z) (sym r.many_homes) near)),
          ),
        );
        my_word = λ h. word;
        other_word = λ j t ne lt h. r.each_hold j t k lt h;
        other_entries = λ a ne. refl;
      })

  pub shut : (slots id : ℕ) (me : Seated T J O E) (k : ℕ) → me.0.opening ≡ Some c → me.0.out ≡ Some k → me.1 ≡ (k, None) ∷ rest me.1 → k < n + 1
      → Allows Good slots id me k (λ x. x) (shuts (step slots k 0 0 none) me)
  shut slots id me k live out carried near s r wide at small =
      (with_none_out me.0, giving_act, tt, shut_here s r id me.0 k (put_back s.homes me.1) (put s me.1 k None carried) (at, live) out near, refl)

  open_here : (s : St) (r : Good s) (id : ℕ) (v : View O E) (k : ℕ) → Live c s id v → v.out ≡ None → Holds v k → k < n + 1
      → Good record { words = set s.words k (slice_index s.words k); homes = set s.homes k none; views = set s.views id (with_out v k) }
  open_here s r id v k l closed holds near = let o = r.views_ok id v l in let x = slice_index s.words k in let w = with_out v k in let word = r.each_hold id v k l holds in
      settle legal stands touches opening list n actors c s r id v w k x (set s.homes k none) r.log record {
        live = l;
        stays_live = l.1;
        same = record { actor = refl; made = refl; actors = refl; taken_in = refl };
        near = near;
        homes = length-set s.homes k none ∙ r.many_homes;
        others_home = λ j ne. set_else s.homes k j none ne;
        legal_log = r.legal_log;
        view = record { since = o.since; begins = o.begins; real = o.real; small = o.small; wide = o.wide; has_out = λ j e. subst (λ (z : ℕ). Holds v z) (some_is k j e) holds; own = o.own; own_seen = o.own_seen; quiet = o.quiet; newest = o.newest; closed = o.closed };
        views = λ j t ne lt. r.views_ok j t lt;
        lie = λ j y ne z h. h;
        keeps = λ j ne h. h;
        gains = λ j ne h. h;
        out_here = λ j e. absurd (none-some j (sym closed ∙ e));
        here = inr (id, w, ((set_here s.views id w (in_range s.views id v l.0), l.1), holds, index_here s.words k x (subst (λ (z : ℕ). k < z) (sym r.many_words) near) ∙ word, inr refl));
        my_word = λ h. word;
        other_word = λ j t ne lt h. r.each_hold j t k lt h;
        other_entries = λ a ne. refl;
      }

  -- the slot of a held cell is empty at home
  lies_empty : (s : St) (r : Good s) (id : ℕ) (v : View O E) (k : ℕ) → Live c s id v → v.out ≡ None → Holds v k → k < n + 1 → get_elem? s.homes k ≡ some (some None)
  lies_empty s r id v k l closed holds near = let word = r.each_hold id v k l holds in
      ⊎_elim (λ h. absurd (zero_is _ v.actor word h.0 (r.views_ok id v l).real))
      (λ h. let u = h.1 in let hb = h.2 in let is : u ≡ v = (alike s r h.0 u id v hb.0 l (sym hb.2 ∙ word)).1 in ⊎_elim (λ t. t) (λ t. absurd (none-some k (sym closed ∙ ap (λ (z : View O E). z.out) (sym is) ∙ t))) hb.3) (r.each_word k near)

  pub opened : (slots id : ℕ) (me : Seated T J O E) (k : ℕ) → me.0.opening ≡ Some c → me.0.out ≡ None → Holds me.0 k → k < n + 1
      → Allows Good slots id me k (λ x. x) (opens (step slots k 0 0 none) me)
  opened slots id me k live closed holds near s r wide at small = let l : Live c s id me.0 = (at, live) in
      (with_out me.0 k, taking_act k None, lies_empty s r id me.0 k l closed holds near, open_here s r id me.0 k l closed holds near, refl)

  fewer : (v : View O E) (k j : ℕ) → get_elem? (set v.held k false) j ≡ some true → (j ≢ k) × Holds v j
  fewer v k j h = ⊎_elim (λ t. absurd (true≢false (sym t.1))) (λ t. t) (at_set v.held k j false true h)

  module _ (law : (k : ℕ) (d : O) (xs ys : List (ℕ × E)) (x : T) → legal d (xs ++ ys) → Untouched (touches d) xs ys k → stands k d xs x → stands k d (xs ++ ys) x) where
    give_cell : (s : St) (r : Good s) (id : ℕ) (v : View O E) (k : ℕ) (x : T) → Live c s id v → v.out ≡ Some k → k < n → stands k c v.seen x
        → Good record { words = set s.words k 0; homes = set s.homes k (some (Some (Cell x))); views = set s.views id (given list v k (Cell x)) }
    give_cell s r id v k x l out near lies = let o = r.views_ok id v l in let y : Lodged T J = Cell x in let w : View O E = given list v k y in let holds = o.has_out k out in
        let near' : k < n + 1 = omega arith in let hs = set s.homes k (some (Some y)) in
        settle legal stands touches opening list n actors c s r id v w k 0 hs r.log record {
          live = l;
          stays_live = l.1;
          same = record { actor = refl; made = refl; actors = refl; taken_in = refl };
          near = near';
          homes = length-set s.homes k (some (Some y)) ∙ r.many_homes;
          others_home = λ j ne. set_else s.homes k j (some (Some y)) ne;
          legal_log = r.legal_log;
          view = record {
            since = o.since;
            begins = o.begins;
            real = o.real;
            small = o.small;
            wide = length-set v.held k false ∙ o.wide;
            has_out = λ j e. absurd (none-some j e);
            own = o.own;
            own_seen = o.own_seen;
            quiet = λ j a h. o.quiet j a (fewer v k j h).1;
            newest = λ h. o.newest (fewer v k n h).1;
            closed = o.closed;
          };
          views = λ j t ne lt. r.views_ok j t lt;
          lie = λ j z ne zero h. h;
          keeps = λ j ne h. set_else v.held k j false ne ∙ h;
          gains = λ j ne h. (fewer v k j h).1;
          out_here = λ j e. some_is j k (sym e ∙ out);
          here = inl (
            index_here s.words k 0 (subst (λ (z : ℕ). k < z) (sym r.many_words) near'),
            (
              y,
              set_here s.homes k (some (Some y)) (subst (λ (z : ℕ). k < z) (sym r.many_homes) near'),
              (near, subst (λ (us : List (ℕ × E)). stands k c us x) (sym o.begins) (law k c v.seen o.since x (subst (legal c) o.begins r.legal_log) (o.quiet k near holds) lies)),
            ),
          );
          my_word = λ h. absurd ((fewer v k k h).0 refl);
          other_word = λ j t far lt h. absurd (alone s r id v k j t l holds far lt h);
          other_entries = λ a ne. refl;
        }

    module _ (log log' : List (ℕ × E)) (a : ℕ) (es : List E) (grown : log' ≡ log ++ all_of a es) where
      not_mine : (b : ℕ) → b ≢ a → entries_of b log' ≡ entries_of b log
      not_mine b ne = ap (entries_of b) grown ∙ entries_append b log (all_of a es) ∙ ap (λ (fs : List E). entries_of b log ++ fs) (entries_other a b es (λ e. ne (sym e))) ∙ append-nil (entries_of b log)

      further : (seen since : List (ℕ × E)) → log ≡ seen ++ since → log' ≡ seen ++ (since ++ all_of a es)
      further seen since e = grown ∙ ap (λ (us : List (ℕ × E)). us ++ all_of a es) e ∙ append_assoc seen since (all_of a es)

      closed_more : (x : Absorbed E) → x.actor ≢ a → AbsorbedOk log x → AbsorbedOk log' x
      closed_more x ne b = ((b.0.0 ++ all_of a es, further x.seen b.0.0 b.0.1), not_mine x.actor ne ∙ b.1)

      lies_more : (k : ℕ) (y : Lodged T J) → legal c log' → (k ≡ n → ⊥) → (k < n → Untouched (touches c) log (all_of a es) k) → Lies stands opening list n c log k y → Lies stands opening list n c log' k y
      lies_more k (Cell x) lg ne free h = (h.0, subst (λ (us : List (ℕ × E)). stands k c us x) (sym grown) (law k c log (all_of a es) x (subst (legal c) grown lg) (free h.0) h.1))
      lies_more k (Journal j) lg ne free h = absurd (ne h.0)

    give_journal : (s : St) (r : Good s) (id : ℕ) (v : View O E) (k : ℕ) (j : J) → Live c s id v → v.out ≡ Some k → k ≡ n → opening j ≡ c → legal c (list j) → Adds touches n c v (list j)
        → Good record { words = set s.words k 0; homes = set s.homes k (some (Some (Journal j))); views = set s.views id (given {T = T} list v k (Journal j)) }
    give_journal s r id v k j l out kn opens lg adds = let o = r.views_ok id v l in let y : Lodged T J = Journal j in let w : View O E = given list v k y in let holds = o.has_out k out in
        let near : k < n + 1 = omega arith in let hs = set s.homes k (some (Some y)) in let es = adds.0 in let log' = list j in
        let last : Holds v n = subst (λ (z : ℕ). Holds v z) kn holds in
        let seen : r.log ≡ v.seen = o.begins ∙ ap (λ (us : List (ℕ × E)). v.seen ++ us) (o.newest last) ∙ append-nil v.seen in
        let grown : log' ≡ r.log ++ all_of v.actor es = adds.1 ∙ ap (λ (us : List (ℕ × E)). us ++ all_of v.actor es) (sym seen) in
        settle legal stands touches opening list n actors c s r id v w k 0 hs log' record {
          live = l;
          stays_live = l.1;
          same = record { actor = refl; made = refl; actors = refl; taken_in = refl };
          near = near;
          homes = length-set s.homes k (some (Some y)) ∙ r.many_homes;
          others_home = λ i ne. set_else s.homes k i (some (Some y)) ne;
          legal_log = lg;
          view = record {
            since = [];
            begins = sym (append-nil log');
            real = o.real;
            small = o.small;
            wide = length-set v.held k false ∙ o.wide;
            has_out = λ i e. absurd (none-some i e);
            own = refl;
            own_seen = refl;
            quiet = λ i a h. tt;
            newest = λ h. refl;
            closed = λ p x e. closed_more r.log log' v.actor es grown x (r.gone id v id v p x l l e) (o.closed p x e);
          };
          views = λ i u far lu. let q = r.views_ok i u lu in record {
            since = q.since ++ all_of v.actor es;
            begins = further r.log log' v.actor es grown u.seen q.since q.begins;
            real = q.real;
            small = q.small;
            wide = q.wide;
            has_out = q.has_out;
            own = not_mine r.log log' v.actor es grown u.actor (λ e. far (r.apart i u id v lu l e)) ∙ q.own;
            own_seen = q.own_seen;
            quiet = λ m a h. untouched_append (touches c) u.seen q.since (all_of v.actor es) m (q.quiet m a h)
                (subst (λ (us : List (ℕ × E)). Untouched (touches c) us (all_of v.actor es) m) (sym seen ∙ q.begins) (adds.2 m a (λ hv. alone s r id v m i u l hv far lu h)));
            newest = λ h. absurd (alone s r id v n i u l last far lu h);
            closed = λ p x e. closed_more r.log log' v.actor es grown x (r.gone i u id v p x lu l e) (q.closed p x e);
          };
          lie = λ i z ne zero h. lies_more r.log log' v.actor es grown i z lg (λ e. ne (e ∙ sym kn))
              (λ a. subst (λ (us : List (ℕ × E)). Untouched (touches c) us (all_of v.actor es) i) (sym seen) (adds.2 i a (λ hv. zero_is _ v.actor (r.each_hold id v i l hv) zero o.real))) h;
          keeps = λ i ne h. set_else v.held k i false ne ∙ h;
          gains = λ i ne h. (fewer v k i h).1;
          out_here = λ i e. some_is i k (sym e ∙ out);
          here = inl (index_here s.words k 0 (subst (λ (z : ℕ). k < z) (sym r.many_words) near), (y, set_here s.homes k (some (Some y)) (subst (λ (z : ℕ). k < z) (sym r.many_homes) near), (kn, opens, refl)));
          my_word = λ h. absurd ((fewer v k k h).0 refl);
          other_word = λ i t far lt h. absurd (alone s r id v k i t l holds far lt h);
          other_entries = λ a ne. not_mine r.log log' v.actor es grown a ne;
        }

    give_here : (s : St) (r : Good s) (id : ℕ) (v : View O E) (k : ℕ) (y : Lodged T J) → Live c s id v → v.out ≡ Some k → Fits legal stands touches opening list n c v k y
        → Good record { words = set s.words k 0; homes = set s.homes k (some (Some y)); views = set s.views id (given list v k y) }
    give_here s r id v k (Cell x) l out fits = give_cell s r id v k x l out fits.0 fits.1
    give_here s r id v k (Journal j) l out fits = give_journal s r id v k j l out fits.0 fits.1 fits.2 fits.3

    pub give_word : (slots id : ℕ) (me : Seated T J O E) (k : ℕ) (y : Lodged T J) → me.0.opening ≡ Some c → me.0.out ≡ Some k → me.1 ≡ (k, Some y) ∷ rest me.1 → Fits legal stands touches opening list n c me.0 k y
        → Allows Good slots id me k (λ _. 0) (gives list (step slots k 0 0 none) me)
    give_word slots id me k y live out carried fits s r wide at small = let v = me.0 in (
      given list v k y,
      giving_act,
      tt,
      subst (λ (zs : List (maybe.Option S)). Good record { words = set s.words k 0; homes = zs; views = set s.views id (given list v k y) }) (sym (put s me.1 k (Some y) carried)) (give_here s r id v k y (at, live) out fits),
      λ z e. ap (λ (u : Lodged T J). (given list v k u, rest me.1)) (some_is y z (same_slot me.1 k (Some y) k (Some z) (rest me.1) (rest me.1) carried e)),
    )

  -- what is given back fits with the slot out as well
  fits_out : (v : View O E) (k : ℕ) (y : Lodged T J) → Fits legal stands touches opening list n c v k y → Fits legal stands touches opening list n c (with_out v k) k y
  fits_out v k (Cell x) h = h
  fits_out v k (Journal j) h = h

  given_out : (v : View O E) (k : ℕ) (y : Lodged T J) → given list (with_out v k) k y ≡ given list v k y
  given_out v k (Cell x) = refl
  given_out v k (Journal j) = refl

  pub fits_at : (v w : View O E) (k : ℕ) (y : Lodged T J) → w ≡ with_out v k → Fits legal stands touches opening list n c v k y → Fits legal stands touches opening list n c w k y
  fits_at v w k y e h = subst (λ (u : View O E). Fits legal stands touches opening list n c u k y) (sym e) (fits_out v k y h)

  pub given_at : (v w : View O E) (k : ℕ) (y : Lodged T J) → w ≡ with_out v k → given list w k y ≡ given list v k y
  given_at v w k y e = ap (λ (u : View O E). given list u k y) e ∙ given_out v k y
