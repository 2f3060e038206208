-- A guest's memory and its discipline, where a script goes on.
use Rattle.std.proofs.Common.{◌≡◌, ℕ, ◌-◌, List, [], ◌∷◌, refl, sym, ap, ◌∙◌, subst, ⊎_elim}
use Rattle.std.proofs.lemmas.Bool.{cases_eq}
use Rattle.std.proofs.lemmas.List.{get_or_append_left}
use Rattle.snp_model.specs.declared.item.Line.{Line}
use Rattle.snp_model.specs.GuestMemory.{Memory, Use, memory_from, next_use, use_for, used}
use Rattle.snp_model.specs.Premises.{AreLacking, IsDisciplinedFrom, IsDisciplinedStep, accepted_range}
use Rattle.snp_model.specs.Run.{IsDefinedFrom}
use Rattle.snp_model.specs.State.{ActorPart, State, part_of, IsUnfinished}
use Rattle.snp_model.specs.Step.{after, event_of, idle_line, line_at}
use Rattle.run_laws.proofs.RunLaws.{unfinished_at}
use Rattle.growing_runs.specs.Extending.{with_lines}
use Rattle.growing_runs.proofs.ExtendingLaws.{commutes, part_here, part_there}

-- the same role at the same line
record SamePlace (old new : ActorPart) : Type 0 where
  role : new.role ≡ old.role
  line : line_at new.script new.item ≡ line_at old.script old.item

same_place : (m : State) (actor other : ℕ) (lines : List Line) → IsUnfinished m other → SamePlace (part_of m other) (part_of (with_lines actor lines m) other)
same_place m actor other lines is =
    let u = unfinished_at m other is in
    ⊎_elim
    (λ (same : other - 1 ≡ actor - 1).
    subst (SamePlace (part_of m other)) (sym (part_here m actor other lines same u.within)) (record { role = refl; line = get_or_append_left (part_of m other).script lines idle_line (part_of m other).item u.has_line }))
    (λ (apart : other - 1 ≡ actor - 1 → ⊥). subst (SamePlace (part_of m other)) (sym (part_there m actor other lines apart)) (record { role = refl; line = refl }))
    (cases_eq (other - 1) (actor - 1))

contents_with : (m : State) (actor : ℕ) (lines : List Line) → (with_lines actor lines m).contents ≡ m.contents
unfolding with_lines
contents_with m actor lines = refl

next_with : (guest : ℕ) (m : State) (actor other : ℕ) (lines : List Line) → IsUnfinished m other → next_use guest (with_lines actor lines m) other ≡ next_use guest m other
unfolding next_use
next_with guest m actor other lines is =
    let first = commutes m actor other lines is in
    let place = same_place m actor other lines is in
    let left : (after (with_lines actor lines m) other).contents ≡ (after m other).contents = ap (λ (k : State). k.contents) first.after_is ∙ contents_with (after m other) actor lines in
    λ i. use_for guest (left i) (place.role i) (first.event i).deed (place.line i).item (first.event i).outcome

pub memory_with : (guest : ℕ) (m : State) (memory : Memory) (actor : ℕ) (lines : List Line) (schedule : List ℕ) → IsDefinedFrom m schedule → memory_from guest (with_lines actor lines m) memory schedule ≡ memory_from guest m memory schedule
unfolding memory_from IsDefinedFrom
memory_with guest m memory actor lines [] defined = refl
memory_with guest m memory actor lines (other ∷ others) defined =
    let first = commutes m actor other lines defined.0 in
    (λ i. memory_from guest (first.after_is i) (used (next_with guest m actor other lines defined.0 i) memory) others)
    ∙ memory_with guest (after m other) (used (next_use guest m other) memory) actor lines others defined.1

step_with : (guest : ℕ) (m : State) (memory : Memory) (actor other : ℕ) (lines : List Line) → IsUnfinished m other → IsDisciplinedStep guest m other memory → IsDisciplinedStep guest (with_lines actor lines m) other memory
unfolding IsDisciplinedStep
step_with guest m memory actor other lines is disciplined =
    let first = commutes m actor other lines is in
    let place = same_place m actor other lines is in
    let old = event_of m other in
    let new = event_of (with_lines actor lines m) other in
    let same : accepted_range guest (part_of (with_lines actor lines m) other).role new.deed (line_at (part_of (with_lines actor lines m) other).script (part_of (with_lines actor lines m) other).item).item new.outcome
    ≡ accepted_range guest (part_of m other).role old.deed (line_at (part_of m other).script (part_of m other).item).item old.outcome =
    λ i. accepted_range guest (place.role i) (first.event i).deed (place.line i).item (first.event i).outcome in
    subst (AreLacking memory) (sym same) disciplined

pub disciplined_with : (guest : ℕ) (m : State) (memory : Memory) (actor : ℕ) (lines : List Line) (schedule : List ℕ) → IsDefinedFrom m schedule → IsDisciplinedFrom guest m memory schedule
    → IsDisciplinedFrom guest (with_lines actor lines m) memory schedule
unfolding IsDisciplinedFrom IsDefinedFrom
disciplined_with guest m memory actor lines [] defined disciplined = tt
disciplined_with guest m memory actor lines (other ∷ others) defined disciplined =
    let first = commutes m actor other lines defined.0 in
    let rest = disciplined_with guest (after m other) (used (next_use guest m other) memory) actor lines others defined.1 disciplined.1 in (
      step_with guest m memory actor other lines defined.0 disciplined.0,
      subst (λ (u : Use). IsDisciplinedFrom guest (after (with_lines actor lines m) other) (used u memory) others) (sym (next_with guest m actor other lines defined.0))
          (subst (λ (k : State). IsDisciplinedFrom guest k (used (next_use guest m other) memory) others) (sym first.after_is) rest),
    )
