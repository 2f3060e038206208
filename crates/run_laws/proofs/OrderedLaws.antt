-- Each actor's items come once and in order: from what a step does to its actor's own place, whatever the item is.
use Rattle.std.proofs.Common.{◌≡◌, ◌≢◌, ℕ, ◌-◌, ◌<◌, List, [], ◌∷◌, length, eqb, Option, Some, None, slice_get, refl, sym, ap, ◌∙◌, subst, arith}
use Rattle.std.proofs.lemmas.Bool.{cond_both, eqb-true, eqb-false}
use Rattle.std.proofs.lemmas.List.{get_or-map, length-map}
use Rattle.std.proofs.lemmas.Option.{slice_get_within, get_or_from_slice_get}
use Rattle.snp_model.specs.declared.event.Event.{Event}
use Rattle.snp_model.specs.declared.event.Outcome.{Outcome}
use Rattle.snp_model.specs.declared.item.Line.{Line}
use Rattle.snp_model.specs.declared.scenario.Actor.{Actor}
use Rattle.snp_model.specs.declared.scenario.Scenario.{Scenario}
use Rattle.snp_model.specs.State.{ActorPart, State, part_of, idle_part}
use Rattle.snp_model.specs.Locks.{view_of}
use Rattle.snp_model.specs.Moves.{Move}
use Rattle.snp_model.specs.Step.{Position, event_of, after, part_after, item_move, line_at}
use Rattle.snp_model.specs.Opening.{opening, opening_part}
use Rattle.snp_model.specs.Run.{run_from, IsDefinedFrom, IsDefined, position_from, events_of, AreAttempts, IsOrdered}
use Rattle.run_laws.proofs.RunLaws.{Unfinished, unfinished_at, after_part, after_other, after_length}

-- an actor's place
abbrev place_of : ActorPart → Position
place_of p = record { item = p.item; attempt = p.attempt }

-- a move takes its actor's place on by its outcome alone
part_after_script : (p : ActorPart) (move : Move) (outcome : Option Outcome) → (part_after p move outcome).script ≡ p.script
unfolding part_after
part_after_script p move None = refl
part_after_script p move (Some outcome) = refl

part_after_place : (p : ActorPart) (move : Move) (outcome : Option Outcome) → place_of (part_after p move outcome) ≡ position_from p.script (place_of p) outcome
unfolding part_after
part_after_place p move None = refl
part_after_place p move (Some outcome) = refl

-- an actor's own event, before those that follow
own_event : (m : State) (s : List ℕ) (number : ℕ) → Unfinished m number
    → AreAttempts (part_of (after m number) number).script (place_of (part_of (after m number) number)) (events_of number (run_from (after m number) s))
    → AreAttempts (part_of m number).script (place_of (part_of m number)) (event_of m number ∷ events_of number (run_from (after m number) s))
unfolding AreAttempts event_of
own_event m s number u rest =
    let p = part_of m number in
    let move = item_move m.frames m.guests (view_of m) p p.role (line_at p.script p.item).item in
    let is = after_part m number u.within in
    let events = events_of number (run_from (after m number) s) in (
      u.has_line,
      refl,
      refl,
      subst (λ (script : List Line). AreAttempts script (position_from p.script (place_of p) move.outcome) events) (part_after_script p move move.outcome)
          (subst (λ (at : Position). AreAttempts (part_after p move move.outcome).script at events) (part_after_place p move move.outcome)
          (subst (λ (q : ActorPart). AreAttempts q.script (place_of q) events) is rest)),
    )

-- the same, by the number of the actor that the schedule names
own_event_of : (m : State) (a : ℕ) (s : List ℕ) (number : ℕ) → a ≡ number → Unfinished m a
    → AreAttempts (part_of (after m a) number).script (place_of (part_of (after m a) number)) (events_of number (run_from (after m a) s))
    → AreAttempts (part_of m number).script (place_of (part_of m number)) (event_of m a ∷ events_of number (run_from (after m a) s))
own_event_of m a s number same u rest =
    subst (λ (n : ℕ). AreAttempts (part_of m n).script (place_of (part_of m n)) (event_of m a ∷ events_of n (run_from (after m a) s))) same
    (own_event m s a u
    (subst (λ (n : ℕ). AreAttempts (part_of (after m a) n).script (place_of (part_of (after m a) n)) (events_of n (run_from (after m a) s))) (sym same) rest))

-- the events of a run from a state on
pub run_attempts : (m : State) (s : List ℕ) → IsDefinedFrom m s → (number : ℕ) → 0 < number → number - 1 < length m.actors
    → AreAttempts (part_of m number).script (place_of (part_of m number)) (events_of number (run_from m s))
unfolding run_from IsDefinedFrom events_of AreAttempts
run_attempts m [] d number numbered within = tt
run_attempts m (a ∷ s) d number numbered within =
    let u = unfinished_at m a d.0 in
    let count = after_length m a in
    let rest = run_attempts (after m a) s d.1 number numbered (omega arith) in
    let events = events_of number (run_from (after m a) s) in
    let P = λ (found : List Event). AreAttempts (part_of m number).script (place_of (part_of m number)) found in
    cond_both (eqb a number) (event_of m a ∷ events) events P
    (λ same. own_event_of m a s number (eqb-true a number same) u rest)
    (λ different.
    let apart : number - 1 ≢ a - 1 = λ e. eqb-false a number different (omega (arith, u.numbered)) in
    subst (λ (q : ActorPart). AreAttempts q.script (place_of q) events) (after_other m a number apart) rest)

-- an actor's part at the opening
pub opening_part_at : (c : Scenario) (number : ℕ) (actor : Actor) → slice_get c.actors (number - 1) ≡ Some actor
    → (number - 1 < length (opening c).actors) × (part_of (opening c) number ≡ opening_part actor)
unfolding opening
opening_part_at c number actor is =
    let within = slice_get_within c.actors (number - 1) actor is in (
      subst (λ (n : ℕ). number - 1 < n) (sym (length-map c.actors opening_part)) within,
      get_or-map opening_part c.actors (number - 1) actor idle_part within ∙ ap opening_part (get_or_from_slice_get c.actors (number - 1) actor actor is),
    )

-- each actor's events in a run of a scenario are its items, once and in order
pub run_is_ordered : (c : Scenario) (s : List ℕ) → IsDefined c s → IsOrdered c s
run_is_ordered c s d number actor numbered is =
    let at = opening_part_at c number actor is in
    subst (λ (q : ActorPart). AreAttempts q.script (place_of q) (events_of number (run_from (opening c) s))) at.1
    (run_attempts (opening c) s d number numbered at.0)
