-- How the table starts, how passes come and go, and what is found when it is closed.
use Rattle.std.proofs.Common.{◌≡◌, ◌≢◌, ◌⊎◌, ℕ, zero, suc, ◌+◌, ◌<◌, ◌≤◌, ◌^◌, Bool, false, List, [], ◌∷◌, ◌++◌, length, set, replicate, slice_index, Option, Some, sym, refl, ap, ◌∙◌, subst, inl, inr, ⊎_elim, append-nil, le_refl, arith}
use mathlib.Core.Option.{some, some-injective, some-ne-none}
use mathlib.Core.Logic.{dite}
use native.Mathlib.Decide.{ℕ_discrete}
use lib.ListN.{get_elem?, length-map, length-replicate}
use Rattle.std.proofs.lemmas.Option.{none-some}
use Rattle.atomic_table.specs.Table.{State, Splits, Joins, Final, Seen, opening as opening_state}
use Rattle.atomic_table.proofs.Lists.{at_set, set_here, set_else, at_longer, at_map}
use Rattle.entry_cells.specs.Entries.{entries_of}
use Rattle.entry_cells.specs.Views.{Holds, opener, making, newcomer, absorbing, absorbed, spent}
use Rattle.entry_cells.specs.Rule.{ViewOk, Live, Fresh, HeldBy, Away, Sound, AbsorbedOk}
use Rattle.entry_cells.specs.Passes.{Laid, Closes, HoldsNothing, TookAll}
use Rattle.entry_cells.specs.declared.board.View.{View}
use Rattle.entry_cells.specs.declared.board.Absorbed.{Absorbed}
use Rattle.entry_cells.specs.declared.board.Lodged.{Lodged}
use Rattle.entry_cells.proofs.EntryLaws.{in_range, at_last_or, entries_append, left_empty, nothing_held}
use Rattle.entry_cells.proofs.StepLaws.{alike}

zeros : (m k : ℕ) → slice_index (replicate m 0) k ≡ 0
zeros zero k = refl
zeros (suc m) zero = refl
zeros (suc m) (suc k) = zeros m k

module _ {T J O E : Type 0} (legal : O → List (ℕ × E) → Type 0) (stands : ℕ → O → List (ℕ × E) → T → Type 0) (touches : O → List (ℕ × E) → ℕ × E → ℕ → Type 0) (opening : J → O) (list : J → List (ℕ × E)) (n actors : ℕ) (c : O) where
  abbrev S : Type 0
  S = Option (Lodged T J)

  abbrev St : Type 0
  St = State S (View O E)

  abbrev Good : St → Type 0
  Good s = Sound legal stands touches opening list n actors c s

  pub starts : (ws : List ℕ) (xs : List S) (log : List (ℕ × E)) → ws ≡ replicate (n + 1) 0 → length xs ≡ n + 1 → log ≡ [] → legal c [] → 0 < actors → Laid legal stands touches opening list n c [] xs
      → Good (opening_state ws xs (opener c log n actors))
  starts ws xs log zero_words many empty lg some_actor laid = let w : View O E = opener c log n actors in record {
    log = [];
    legal_log = lg;
    many_words = ap (λ (us : List ℕ). length us) zero_words ∙ length-replicate (n + 1) 0;
    many_homes = length-map xs some ∙ many;
    views_ok = λ i v l. subst (λ (z : View O E). ViewOk touches n c [] z) (only i v l).1 first;
    each_word = λ k near. let h = laid k near in inl (ap (λ (us : List ℕ). slice_index us k) zero_words ∙ zeros (n + 1) k, (h.0, at_map some xs k (Some h.0) h.1, h.2));
    each_hold = λ i v k l h. absurd (nothing_held (n + 1) k (subst (λ (z : View O E). Holds z k) (sym (only i v l).1) h));
    apart = λ i v j u li lj e. (only i v li).0 ∙ sym (only j u lj).0;
    below = λ i v l. subst (λ (z : View O E). z.actor ≤ actors) (only i v l).1 some_actor;
    counted = λ i v l. subst (λ (z : View O E). z.actors ≡ actors) (only i v l).1 refl;
    gone = λ i v j u p x li lj e is. some-ne-none x (sym (ap (λ (z : View O E). get_elem? z.taken_in p) (only i v li).1 ∙ e));
    fresh = λ i m a l one less. record {
      unused = λ j v lv is. let b : 1 < a = subst (λ (z : View O E). z.made < a) (sym (only i m l).1) less in let d : 1 ≡ a = ap (λ (z : View O E). z.actor) (only j v lv).1 ∙ is in omega arith;
      unknown = λ j v p x lv e is. some-ne-none x (sym (ap (λ (z : View O E). get_elem? z.taken_in p) (only j v lv).1 ∙ e));
      silent = refl;
    };
  }
    where
      s : St
      s = opening_state ws xs (opener c log n actors)

      only : (i : ℕ) (v : View O E) → Live c s i v → (i ≡ 0) × (opener c log n actors ≡ v)
      only zero v l = (refl, some-injective _ v l.0)
      only (suc i) v l = absurd (some-ne-none v (sym l.0))

      first : ViewOk touches n c [] (opener c log n actors)
      first = record {
        since = [];
        begins = sym empty ∙ sym (append-nil log);
        real = omega arith;
        small = omega arith;
        wide = length-replicate (n + 1) false;
        has_out = λ k e. absurd (none-some k e);
        own = ap (λ (us : List (ℕ × E)). entries_of 1 us) (sym empty);
        own_seen = refl;
        quiet = λ k a h. tt;
        newest = λ h. refl;
        closed = λ p x e. absurd (some-ne-none x (sym e));
      }

  -- a pass that was there before
  record Old (s : St) (log : List (ℕ × E)) (j : ℕ) (u : View O E) : Type 0 where
    pub was : View O E
    pub live : Live c s j was
    pub actor : was.actor ≡ u.actor
    pub passes : was.actors ≡ u.actors
    pub held : was.held ≡ u.held
    pub made : was.made ≤ u.made
    pub view : ViewOk touches n c log u

  held_on : (a b : View O E) (k : ℕ) → a.held ≡ b.held → Holds b k → Holds a k
  held_on a b k e h = ap (λ (bs : List Bool). get_elem? bs k) e ∙ h

  pub forks : (id : ℕ) (v : View O E) → v.opening ≡ Some c → v.actor ≡ 1 → v.made < actors → actors < 2 ^ 32 → Splits Good id v (making v) (newcomer v)
  forks id v live one more small s r at = record {
    log = r.log;
    legal_log = r.legal_log;
    many_words = r.many_words;
    many_homes = r.many_homes;
    views_ok = λ j u l. ⊎_elim (λ o. o.view) (λ e. subst (λ (z : View O E). ViewOk touches n c r.log z) e.1 newest_view) (from j u l);
    each_word = λ k near. ⊎_elim (λ h. inl h) (λ a. inr (away k a)) (r.each_word k near);
    each_hold = λ j u k l h. ⊎_elim (λ o. r.each_hold j o.was k o.live (held_on o.was u k o.held h) ∙ o.actor) (λ e. absurd (nothing_held (length v.held) k (subst (λ (z : View O E). Holds z k) (sym e.1) h))) (from j u l);
    apart = λ i u j t li lj e. ⊎_elim (λ o. ⊎_elim (λ p. r.apart i o.was j p.was o.live p.live (o.actor ∙ e ∙ sym p.actor)) (λ p. absurd (new.unused i o.was o.live (o.actor ∙ e ∙ ap (λ (z : View O E). z.actor) (sym p.1)))) (from j t lj))
        (λ o. ⊎_elim (λ p. absurd (new.unused j p.was p.live (p.actor ∙ sym e ∙ ap (λ (z : View O E). z.actor) (sym o.1)))) (λ p. o.0 ∙ sym p.0) (from j t lj)) (from i u li);
    below = λ i u l. ⊎_elim (λ o. subst (λ (z : ℕ). z ≤ actors) o.actor (r.below i o.was o.live)) (λ e. subst (λ (z : View O E). z.actor ≤ actors) e.1 new_below) (from i u l);
    counted = λ i u l. ⊎_elim (λ o. sym o.passes ∙ r.counted i o.was o.live) (λ e. subst (λ (z : View O E). z.actors ≡ actors) e.1 (r.counted id v lv)) (from i u l);
    gone = λ i u j t p x li lj e. ⊎_elim (λ b. ⊎_elim (λ o is. r.gone b.0 b.1 j o.was p x b.2 o.live b.3 (is ∙ sym o.actor)) (λ q is. new.unknown b.0 b.1 p x b.2 b.3 (is ∙ ap (λ (z : View O E). z.actor) (sym q.1))) (from j t lj))
        (λ b. absurd b) (kept i u p x li e);
    fresh = λ i m a l is less. ⊎_elim (λ o. still a (r.fresh i o.was a o.live (o.actor ∙ is) (let b = o.made in omega arith)) (above i m a l is less))
        (λ e. absurd (new_is_one (ap (λ (z : View O E). z.actor) e.1 ∙ is))) (from i m l);
  }
    where
      lv : Live c s id v
      lv = (at, live)

      vs : List (View O E)
      vs = set s.views id (making v)

      s' : St
      s' = record { words = s.words; homes = s.homes; views = vs ++ newcomer v ∷ [] }

      new : Fresh c s r.log (v.made + 1)
      new = r.fresh id v (v.made + 1) lv one (omega arith)

      o : ViewOk touches n c r.log v
      o = r.views_ok id v lv

      new_below : (newcomer v).actor ≤ actors
      new_below = omega (arith, more)

      new_is_one : (newcomer v).actor ≡ 1 → ⊥
      new_is_one e = new.unused id v lv (one ∙ sym e)

      making_view : ViewOk touches n c r.log (making v)
      making_view = record { since = o.since; begins = o.begins; real = o.real; small = o.small; wide = o.wide; has_out = o.has_out; own = o.own; own_seen = o.own_seen; quiet = o.quiet; newest = o.newest; closed = o.closed }

      newest_view : ViewOk touches n c r.log (newcomer v)
      newest_view = record {
        since = o.since;
        begins = o.begins;
        real = omega arith;
        small = omega arith;
        wide = length-replicate (length v.held) false ∙ o.wide;
        has_out = λ k e. absurd (none-some k e);
        own = new.silent;
        own_seen = left_empty _ (entries_of (v.made + 1) o.since) (sym (ap (λ (us : List (ℕ × E)). entries_of (v.made + 1) us) o.begins ∙ entries_append (v.made + 1) v.seen o.since) ∙ new.silent);
        quiet = λ k a h. absurd (nothing_held (length v.held) k h);
        newest = λ h. absurd (nothing_held (length v.held) n h);
        closed = λ p x e. absurd (some-ne-none x (sym e));
      }

      from : (j : ℕ) (u : View O E) → Live c s' j u → Old s r.log j u ⊎ ((j ≡ length vs) × (newcomer v ≡ u))
      from j u l = ⊎_elim (λ e. ⊎_elim (λ t. inl record {
        was = v;
        live = subst (λ (z : ℕ). Live c s z v) (sym t.0) lv;
        actor = ap (λ (z : View O E). z.actor) t.1;
        passes = ap (λ (z : View O E). z.actors) t.1;
        held = ap (λ (z : View O E). z.held) t.1;
        made = subst (λ (z : View O E). v.made ≤ z.made) t.1 (let b : v.made ≤ v.made + 1 = omega arith in b);
        view = subst (λ (z : View O E). ViewOk touches n c r.log z) t.1 making_view;
      })
          (λ t. inl record { was = u; live = (t.1, l.1); actor = refl; passes = refl; held = refl; made = le_refl u.made; view = r.views_ok j u (t.1, l.1) }) (at_set s.views id j (making v) u e))
          (λ e. inr e) (at_last_or vs (newcomer v) u j l.0)

      -- what a pass has taken in, it had taken in before
      kept : (i : ℕ) (u : View O E) (p : ℕ) (x : Absorbed E) → Live c s' i u → get_elem? u.taken_in p ≡ some x → ((b : ℕ) × (t : View O E) × Live c s b t × (get_elem? t.taken_in p ≡ some x)) ⊎ ⊥
      kept i u p x l e = ⊎_elim (λ h. ⊎_elim (λ t. inl (id, v, lv, ap (λ (z : View O E). get_elem? z.taken_in p) t.1 ∙ e)) (λ t. inl (i, u, (t.1, l.1), e)) (at_set s.views id i (making v) u h))
          (λ h. absurd (some-ne-none x (sym (ap (λ (z : View O E). get_elem? z.taken_in p) h.1 ∙ e)))) (at_last_or vs (newcomer v) u i l.0)

      above : (i : ℕ) (m : View O E) (a : ℕ) → Live c s' i m → m.actor ≡ 1 → m.made < a → v.made + 1 < a
      above i m a l is less = ⊎_elim (λ e. ⊎_elim (λ t. subst (λ (z : View O E). z.made < a) (sym t.1) less)
          (λ t. absurd (t.0 (r.apart i m id v (t.1, l.1) lv (is ∙ sym one)))) (at_set s.views id i (making v) m e))
          (λ e. absurd (new_is_one (ap (λ (z : View O E). z.actor) e.1 ∙ is))) (at_last_or vs (newcomer v) m i l.0)

      still : (a : ℕ) → Fresh c s r.log a → v.made + 1 < a → Fresh c s' r.log a
      still a f less = record {
        unused = λ j u l. ⊎_elim (λ b is. f.unused j b.was b.live (b.actor ∙ is)) (λ e is. let d : v.made + 1 ≡ a = ap (λ (z : View O E). z.actor) e.1 ∙ is in omega arith) (from j u l);
        unknown = λ j u p x l e. ⊎_elim (λ b. f.unknown b.0 b.1 p x b.2 b.3) (λ b. absurd b) (kept j u p x l e);
        silent = f.silent;
      }

      away : (k : ℕ) → Away c s k → Away c s' k
      away k a = let i = a.0 in let u = a.1 in let hb : HeldBy c s k i u = a.2 in dite (ℕ_discrete i id)
          (λ e. let is : u ≡ v = some-injective u v (sym hb.0.0 ∙ ap (λ (z : ℕ). get_elem? s.views z) e ∙ at) in (
            id,
            making v,
            (
              (at_longer vs (newcomer v ∷ []) id (making v) (set_here s.views id (making v) (in_range s.views id v at)), live),
              subst (λ (z : View O E). Holds z k) is hb.1,
              hb.2 ∙ ap (λ (z : View O E). z.actor) is,
              ⊎_elim (λ t. inl t) (λ t. inr (ap (λ (z : View O E). z.out) (sym is) ∙ t)) hb.3,
            ),
          ))
          (λ far. (i, u, ((at_longer vs (newcomer v ∷ []) i u (set_else s.views id i (making v) far ∙ hb.0.0), hb.0.1), hb.1, hb.2, hb.3)))

  pub absorbs : (id : ℕ) (v : View O E) (other : ℕ) (w : View O E) → v.opening ≡ Some c → w.opening ≡ Some c → HoldsNothing w → Joins Good id v other w (absorbing v w) spent
  absorbs id v other w live_v live_w idle s r at two at' = record {
    log = r.log;
    legal_log = r.legal_log;
    many_words = r.many_words;
    many_homes = r.many_homes;
    views_ok = λ j u l. (from j u l).1.view;
    each_word = λ k near. ⊎_elim (λ h. inl h) (λ a. inr (away k a)) (r.each_word k near);
    each_hold = λ j u k l h. let o = (from j u l).1 in r.each_hold j o.was k o.live (held_on o.was u k o.held h) ∙ o.actor;
    apart = λ i u j t li lj e. let o = (from i u li).1 in let p = (from j t lj).1 in r.apart i o.was j p.was o.live p.live (o.actor ∙ e ∙ sym p.actor);
    below = λ i u l. let o = (from i u l).1 in subst (λ (z : ℕ). z ≤ actors) o.actor (r.below i o.was o.live);
    counted = λ i u l. let o = (from i u l).1 in sym o.passes ∙ r.counted i o.was o.live;
    gone = λ i u j t p x li lj e. let q = from j t lj in let o = q.1 in ⊎_elim (λ b is. r.gone b.0 b.1 j o.was p x b.2 o.live b.3 (is ∙ sym o.actor))
        (λ b is. q.0 (r.apart j o.was other w o.live lw (o.actor ∙ sym is ∙ ap (λ (z : Absorbed E). z.actor) (sym b)))) (kept i u p x li e);
    fresh = λ i m a l is less. let o = (from i m l).1 in still a (r.fresh i o.was a o.live (o.actor ∙ is) (let b = o.made in omega arith));
  }
    where
      both : View O E
      both = absorbing v w

      vs : List (View O E)
      vs = set s.views id both

      s' : St
      s' = record { words = s.words; homes = s.homes; views = set vs other spent }

      lv : Live c s id v
      lv = (at, live_v)

      lw : Live c s other w
      lw = (sym (set_else s.views id other both two) ∙ at', live_w)

      o : ViewOk touches n c r.log v
      o = r.views_ok id v lv

      ow : ViewOk touches n c r.log w
      ow = r.views_ok other w lw

      both_view : ViewOk touches n c r.log both
      both_view = record {
        since = o.since;
        begins = o.begins;
        real = o.real;
        small = o.small;
        wide = o.wide;
        has_out = o.has_out;
        own = o.own;
        own_seen = o.own_seen;
        quiet = o.quiet;
        newest = o.newest;
        closed = λ p x e. ⊎_elim (λ h. o.closed p x h) (λ h. subst (λ (z : Absorbed E). AbsorbedOk r.log z) h.1 ((ow.since, ow.begins), ow.own)) (at_last_or v.taken_in (absorbed w) x p e);
      }

      from : (j : ℕ) (u : View O E) → Live c s' j u → (j ≢ other) × Old s r.log j u
      from j u l = ⊎_elim (λ t. absurd (none-some c (ap (λ (z : View O E). z.opening) t.1 ∙ l.1)))
          (λ t. (
            t.0,
            ⊎_elim (λ h. record {
              was = v;
              live = subst (λ (z : ℕ). Live c s z v) (sym h.0) lv;
              actor = ap (λ (z : View O E). z.actor) h.1;
              passes = ap (λ (z : View O E). z.actors) h.1;
              held = ap (λ (z : View O E). z.held) h.1;
              made = subst (λ (z : View O E). v.made ≤ z.made) h.1 (le_refl v.made);
              view = subst (λ (z : View O E). ViewOk touches n c r.log z) h.1 both_view;
            })
                (λ h. record { was = u; live = (h.1, l.1); actor = refl; passes = refl; held = refl; made = le_refl u.made; view = r.views_ok j u (h.1, l.1) }) (at_set s.views id j both u t.1),
          )) (at_set vs other j spent u l.0)

      kept : (i : ℕ) (u : View O E) (p : ℕ) (x : Absorbed E) → Live c s' i u → get_elem? u.taken_in p ≡ some x → ((b : ℕ) × (t : View O E) × Live c s b t × (get_elem? t.taken_in p ≡ some x)) ⊎ (absorbed w ≡ x)
      kept i u p x l e = ⊎_elim (λ t. absurd (none-some c (ap (λ (z : View O E). z.opening) t.1 ∙ l.1)))
          (λ t. ⊎_elim (λ h. ⊎_elim (λ q. inl (id, v, lv, q)) (λ q. inr q.1) (at_last_or v.taken_in (absorbed w) x p (ap (λ (z : View O E). get_elem? z.taken_in p) h.1 ∙ e)))
          (λ h. inl (i, u, (h.1, l.1), e)) (at_set s.views id i both u t.1)) (at_set vs other i spent u l.0)

      still : (a : ℕ) → Fresh c s r.log a → Fresh c s' r.log a
      still a f = record {
        unused = λ j u l is. let b = (from j u l).1 in f.unused j b.was b.live (b.actor ∙ is);
        unknown = λ j u p x l e. ⊎_elim (λ b. f.unknown b.0 b.1 p x b.2 b.3) (λ b is. f.unused other w lw (ap (λ (z : Absorbed E). z.actor) b ∙ is)) (kept j u p x l e);
        silent = f.silent;
      }

      away : (k : ℕ) → Away c s k → Away c s' k
      away k a = let i = a.0 in let u = a.1 in let hb : HeldBy c s k i u = a.2 in
          let apart : i ≢ other = λ e. idle k (subst (λ (z : View O E). Holds z k) (some-injective u w (sym hb.0.0 ∙ ap (λ (z : ℕ). get_elem? s.views z) e ∙ lw.0)) hb.1) in
          dite (ℕ_discrete i id)
          (λ e. let is : u ≡ v = some-injective u v (sym hb.0.0 ∙ ap (λ (z : ℕ). get_elem? s.views z) e ∙ at) in (
            id,
            both,
            (
              (set_else vs other id spent (λ z. apart (e ∙ z)) ∙ set_here s.views id both (in_range s.views id v at), live_v),
              subst (λ (z : View O E). Holds z k) is hb.1,
              hb.2 ∙ ap (λ (z : View O E). z.actor) is,
              ⊎_elim (λ t. inl t) (λ t. inr (ap (λ (z : View O E). z.out) (sym is) ∙ t)) hb.3,
            ),
          ))
          (λ far. (i, u, ((set_else vs other i spent apart ∙ set_else s.views id i both far ∙ hb.0.0, hb.0.1), hb.1, hb.2, hb.3)))

  pub closes : (id : ℕ) (v : View O E) (ws : List ℕ) (xs : List S) → v.opening ≡ Some c → HoldsNothing v → TookAll actors v → Final (Seen Good id v) ws xs → Closes legal stands touches opening list n c v xs
  closes id v ws xs live idle all f = let s = f.0 in let r : Good s = f.1.0 in let lv : Live c s id v = (f.1.1, live) in let o = r.views_ok id v lv in record {
    log = r.log;
    legal_log = r.legal_log;
    laid = λ k near. ⊎_elim (λ h. (h.1.0, f.4 k (Some h.1.0) h.1.1, h.1.2))
        (λ a. let i = a.0 in let u = a.1 in let hb = a.2 in ⊎_elim (λ e. absurd (idle k (subst (λ (z : View O E). Holds z k) (sym (alike legal stands touches opening list n actors c s r id v i u lv hb.0 e).1) hb.1)))
        (λ t. absurd (r.gone id v i u t.0 t.1 lv hb.0 t.2 t.3)) (all u.actor (r.views_ok i u hb.0).real (r.below i u hb.0))) (r.each_word k near);
    own = ((o.since, o.begins), o.own);
    others = o.closed;
  }
