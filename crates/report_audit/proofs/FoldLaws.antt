-- Runs that grow by one event at a time are those of the actors.
use Rattle.std.proofs.Common.{◌≡◌, ℕ, ◌+◌, ◌-◌, Bool, cond, eqb, List, [], ◌∷◌, ◌++◌, length, set, slice_get, Some, append_assoc, length-append, refl, sym, ap, ◌∙◌, inl, inr, arith}
use Rattle.std.proofs.lemmas.Bool.{cases_eq, eq-eqb, ne_eqb}
use Rattle.snp_model.specs.Report.{runs_after, runs_of}
use Rattle.report_audit.specs.Ending.{runs_after as grown, runs_with}
use Rattle.report_audit.specs.Folds.{runs_folded}

get_last : (front : List (ℕ × ℕ)) (run : ℕ × ℕ) → slice_get (front ++ run ∷ []) (length front) ≡ Some run
get_last [] run = refl
get_last (x ∷ front) run = get_last front run

set_last : (front : List (ℕ × ℕ)) (run new : ℕ × ℕ) → set (front ++ run ∷ []) (length front) new ≡ front ++ new ∷ []
set_last [] run new = refl
set_last (x ∷ front) run new = ap (λ (rs : List (ℕ × ℕ)). x ∷ rs) (set_last front run new)

last_place : (front : List (ℕ × ℕ)) (run : ℕ × ℕ) → length (front ++ run ∷ []) - 1 ≡ length front
last_place front run = omega (arith, length-append front (run ∷ []))

-- one more event of the actor of the last run, and of another
more : (front : List (ℕ × ℕ)) (actor count next : ℕ) → runs_with (front ++ (actor, count) ∷ []) next ≡ cond (eqb actor next) (front ++ (actor, count + 1) ∷ []) ((front ++ (actor, count) ∷ []) ++ (next, 1) ∷ [])
unfolding runs_with
more front actor count next =
    let runs = front ++ (actor, count) ∷ [] in
    ap (λ (k : ℕ). grown runs next (slice_get runs k)) (last_place front (actor, count))
    ∙ ap (grown runs next) (get_last front (actor, count))
    ∙ ap (λ (rs : List (ℕ × ℕ)). cond (eqb actor next) rs (runs ++ (next, 1) ∷ []))
    (ap (λ (k : ℕ). set runs k (actor, count + 1)) (last_place front (actor, count)) ∙ set_last front (actor, count) (actor, count + 1))

after_same : (actor count next : ℕ) (actors : List ℕ) → next ≡ actor → runs_after actor count (next ∷ actors) ≡ runs_after actor (count + 1) actors
unfolding runs_after
after_same actor count next actors same = ap (λ (b : Bool). cond b (runs_after actor (count + 1) actors) ((actor, count) ∷ runs_after next 1 actors)) (eq-eqb next actor same)

after_other : (actor count next : ℕ) (actors : List ℕ) → (next ≡ actor → ⊥) → runs_after actor count (next ∷ actors) ≡ (actor, count) ∷ runs_after next 1 actors
unfolding runs_after
after_other actor count next actors differs = ap (λ (b : Bool). cond b (runs_after actor (count + 1) actors) ((actor, count) ∷ runs_after next 1 actors)) (ne_eqb next actor differs)

after_none : (actor count : ℕ) → runs_after actor count [] ≡ (actor, count) ∷ []
unfolding runs_after
after_none actor count = refl

folded_after : (front : List (ℕ × ℕ)) (actor count : ℕ) (actors : List ℕ) → runs_folded (front ++ (actor, count) ∷ []) actors ≡ front ++ runs_after actor count actors
unfolding runs_folded
folded_after front actor count [] = ap (λ (rs : List (ℕ × ℕ)). front ++ rs) (sym (after_none actor count))
folded_after front actor count (next ∷ actors) =
    elim (cases_eq next actor) [
      | inl same ↦
          ap (λ (rs : List (ℕ × ℕ)). runs_folded rs actors)
          (more front actor count next ∙ ap (λ (b : Bool). cond b (front ++ (actor, count + 1) ∷ []) ((front ++ (actor, count) ∷ []) ++ (next, 1) ∷ [])) (eq-eqb actor next (sym same)))
          ∙ folded_after front actor (count + 1) actors
          ∙ ap (λ (rs : List (ℕ × ℕ)). front ++ rs) (sym (after_same actor count next actors same))
      | inr differs ↦
          ap (λ (rs : List (ℕ × ℕ)). runs_folded rs actors)
          (more front actor count next ∙ ap (λ (b : Bool). cond b (front ++ (actor, count + 1) ∷ []) ((front ++ (actor, count) ∷ []) ++ (next, 1) ∷ [])) (ne_eqb actor next (λ e. differs (sym e))))
          ∙ folded_after (front ++ (actor, count) ∷ []) next 1 actors
          ∙ append_assoc front ((actor, count) ∷ []) (runs_after next 1 actors)
          ∙ ap (λ (rs : List (ℕ × ℕ)). front ++ rs) (sym (after_other actor count next actors differs))
    ]

first_run : (actor : ℕ) → runs_with [] actor ≡ (actor, 1) ∷ []
unfolding runs_with
first_run actor = refl

pub folded_runs : (actors : List ℕ) → runs_folded [] actors ≡ runs_of actors
unfolding runs_folded runs_of
folded_runs [] = refl
folded_runs (actor ∷ actors) = ap (λ (rs : List (ℕ × ℕ)). runs_folded rs actors) (first_run actor) ∙ folded_after [] actor 1 actors
