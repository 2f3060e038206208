-- The runs of a list of actors.
use Rattle.std.proofs.Common.{◌≡◌, ◌≢◌, ℕ, ◌+◌, ◌<◌, List, [], ◌∷◌, ◌++◌, replicate, refl, ap, sym, subst, ◌∙◌, inl, inr, arith, append_assoc}
use Rattle.std.proofs.lemmas.Bool.{cases_eq}
use Rattle.std.proofs.lemmas.List.{replicate_more}
use Rattle.snp_model.specs.Report.{runs_after, runs_of, actors_in, IsOfAnother, AreLongest}
use Rattle.report_text.proofs.Lines.{run_begins, run_goes_on, run_ends}

spells_after : (actor count : ℕ) (actors : List ℕ) → actors_in (runs_after actor count actors) ≡ replicate count actor ++ actors
unfolding runs_after actors_in
spells_after actor count [] = refl
spells_after actor count (next ∷ actors) =
    elim (cases_eq next actor) [
      | inl same ↦
          ap actors_in (run_goes_on actor count next (next ∷ actors) actors refl same)
          ∙ spells_after actor (count + 1) actors
          ∙ ap (λ (r : List ℕ). r ++ actors) (sym (replicate_more count actor))
          ∙ append_assoc (replicate count actor) (actor ∷ []) actors
          ∙ ap (λ (a : ℕ). replicate count actor ++ (a ∷ actors)) (sym same)
      | inr other ↦
          ap actors_in (run_ends actor count next (next ∷ actors) actors refl other ∙ ap (λ (runs : List (ℕ × ℕ)). (actor, count) ∷ runs) (run_begins next actors))
          ∙ ap (λ (xs : List ℕ). replicate count actor ++ xs) (spells_after next 1 actors)
    ]

pub runs_spell : (actors : List ℕ) → actors_in (runs_of actors) ≡ actors
unfolding runs_of actors_in
runs_spell [] = refl
runs_spell (actor ∷ actors) = spells_after actor 1 actors

another_after : (first actor count : ℕ) (actors : List ℕ) → actor ≢ first → IsOfAnother first (runs_after actor count actors)
unfolding runs_after
another_after first actor count [] other = other
another_after first actor count (next ∷ actors) other =
    let P : List (ℕ × ℕ) → Type 0 = λ runs. IsOfAnother first runs in
    elim (cases_eq next actor) [
      | inl same ↦ subst P (sym (run_goes_on actor count next (next ∷ actors) actors refl same)) (another_after first actor (count + 1) actors other)
      | inr differs ↦ subst P (sym (run_ends actor count next (next ∷ actors) actors refl differs)) other
    ]

longest_after : (actor count : ℕ) (actors : List ℕ) → 0 < count → AreLongest (runs_after actor count actors)
unfolding runs_after
longest_after actor count [] some = (some, tt, tt)
longest_after actor count (next ∷ actors) some =
    let P : List (ℕ × ℕ) → Type 0 = λ runs. AreLongest runs in
    elim (cases_eq next actor) [
      | inl same ↦ subst P (sym (run_goes_on actor count next (next ∷ actors) actors refl same)) (longest_after actor (count + 1) actors (omega arith))
      | inr differs ↦
          subst P (sym (run_ends actor count next (next ∷ actors) actors refl differs ∙ ap (λ (runs : List (ℕ × ℕ)). (actor, count) ∷ runs) (run_begins next actors)))
          (some, another_after actor next 1 actors differs, longest_after next 1 actors (omega arith))
    ]

pub runs_longest : (actors : List ℕ) → AreLongest (runs_of actors)
unfolding runs_of
runs_longest [] = tt
runs_longest (actor ∷ actors) = longest_after actor 1 actors (omega arith)
