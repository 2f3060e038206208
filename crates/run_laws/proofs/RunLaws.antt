-- Laws of runs: what one more step, or a schedule in two parts, gives.
use Rattle.std.proofs.Common.{◌≡◌, ◌≢◌, ℕ, zero, suc, ◌-◌, ◌<◌, ◌≤◌, List, [], ◌∷◌, ◌++◌, length, map, get_or, set, Option, Some, None, IsSomeAnd, slice_get, refl, sym, ap, ◌∙◌, subst, ⊎_elim, arith}
use Rattle.std.proofs.lemmas.Bool.{cases_eq, cases_lt, cond_both}
use Rattle.std.proofs.lemmas.List.{get_or-set_same, get_or-set_other, set_past, length-set}
use Rattle.snp_model.specs.declared.event.Event.{Event}
use Rattle.snp_model.specs.declared.event.Outcome.{Outcome}
use Rattle.snp_model.specs.declared.item.Line.{Line}
use Rattle.snp_model.specs.declared.scenario.GuestSpec.{GuestSpec}
use Rattle.snp_model.specs.State.{ActorPart, State, View, part_of, idle_part, IsUnfinished}
use Rattle.snp_model.specs.Locks.{view_of}
use Rattle.snp_model.specs.Moves.{Move}
use Rattle.snp_model.specs.Step.{Position, step_of, event_of, after, part_after, position_after, tries_again, item_move, line_at}
use Rattle.snp_model.specs.Run.{run_from, state_from, IsDefinedFrom}

-- a run under a schedule in two parts
pub run_append : (m : State) (s t : List ℕ) → run_from m (s ++ t) ≡ run_from m s ++ run_from (state_from m s) t
unfolding run_from state_from
run_append m [] t = refl
run_append m (a ∷ s) t = ap (λ (r : List (ℕ × Event)). (a, event_of m a) ∷ r) (run_append (after m a) s t)

-- the state after both parts
pub state_append : (m : State) (s t : List ℕ) → state_from m (s ++ t) ≡ state_from (state_from m s) t
unfolding state_from
state_append m [] t = refl
state_append m (a ∷ s) t = state_append (after m a) s t

-- a schedule in two parts is defined where both are
pub defined_append : (m : State) (s t : List ℕ) → IsDefinedFrom m s → IsDefinedFrom (state_from m s) t → IsDefinedFrom m (s ++ t)
unfolding IsDefinedFrom state_from
defined_append m [] t d e = e
defined_append m (a ∷ s) t d e = (d.0, defined_append (after m a) s t d.1 e)

-- and only there
pub defined_first : (m : State) (s t : List ℕ) → IsDefinedFrom m (s ++ t) → IsDefinedFrom m s
unfolding IsDefinedFrom
defined_first m [] t d = tt
defined_first m (a ∷ s) t d = (d.0, defined_first (after m a) s t d.1)

pub defined_second : (m : State) (s t : List ℕ) → IsDefinedFrom m (s ++ t) → IsDefinedFrom (state_from m s) t
unfolding IsDefinedFrom state_from
defined_second m [] t d = d
defined_second m (a ∷ s) t d = defined_second (after m a) s t d.1

-- an empty schedule
pub run_none : (m : State) → run_from m [] ≡ []
unfolding run_from
run_none m = refl

pub state_none : (m : State) → state_from m [] ≡ m
unfolding state_from
state_none m = refl

pub defined_none : (m : State) → IsDefinedFrom m []
unfolding IsDefinedFrom
defined_none m = tt

-- one more event
pub run_push : (m : State) (s : List ℕ) (actor : ℕ) → run_from m (s ++ actor ∷ []) ≡ run_from m s ++ (actor, event_of (state_from m s) actor) ∷ []
unfolding run_from
run_push m s actor = run_append m s (actor ∷ [])

pub state_push : (m : State) (s : List ℕ) (actor : ℕ) → state_from m (s ++ actor ∷ []) ≡ after (state_from m s) actor
unfolding state_from
state_push m s actor = state_append m s (actor ∷ [])

pub defined_push : (m : State) (s : List ℕ) (actor : ℕ) → IsDefinedFrom m s → IsUnfinished (state_from m s) actor → IsDefinedFrom m (s ++ actor ∷ [])
unfolding IsDefinedFrom
defined_push m s actor d u = defined_append m s (actor ∷ []) d (u, tt)

pub unfinished_at_push : (m : State) (s : List ℕ) (actor : ℕ) → IsDefinedFrom m (s ++ actor ∷ []) → IsUnfinished (state_from m s) actor
unfolding IsDefinedFrom
unfinished_at_push m s actor d = (defined_second m s (actor ∷ []) d).0

-- a run spells its schedule
pub actors_of_run : (m : State) (s : List ℕ) → map (λ (e : ℕ × Event). e.0) (run_from m s) ≡ s
unfolding run_from
actors_of_run m [] = refl
actors_of_run m (a ∷ s) = ap (λ (r : List ℕ). a ∷ r) (actors_of_run (after m a) s)

pub length_run : (m : State) (s : List ℕ) → length (run_from m s) ≡ length s
unfolding run_from
length_run m [] = refl
length_run m (a ∷ s) = ap suc (length_run (after m a) s)

-- an element after a write: the written one at its place, else the one before
pub at_set : {X : Type 0} (P : X → Type 0) (xs : List X) (k j : ℕ) (x d : X) → P (get_or xs j d) → (j ≡ k → k < length xs → P x) → P (get_or (set xs k x) j d)
at_set P xs k j x d old new =
    ⊎_elim
    (λ (same : j ≡ k).
    ⊎_elim
    (λ (l : k < length xs). subst (λ (i : ℕ). P (get_or (set xs k x) i d)) (sym same) (subst P (sym (get_or-set_same xs k x d l)) (new same l)))
    (λ (g : length xs ≤ k). subst (λ (ys : List _). P (get_or ys j d)) (sym (set_past xs k x g)) old)
    (cases_lt k (length xs)))
    (λ (other : j ≡ k → ⊥). subst P (sym (get_or-set_other xs k j x d other)) old)
    (cases_eq j k)

-- every actor keeps its role and its script, and its place only goes forward
pub record KeepsPlace (old new : ActorPart) : Type 0 where
  pub role : new.role ≡ old.role
  pub script : new.script ≡ old.script
  pub item : old.item ≤ new.item

keeps_place : (p : ActorPart) → KeepsPlace p p
keeps_place p = record { role = refl; script = refl; item = omega arith }

position_forward : (line : Line) (at : Position) (outcome : Outcome) → at.item ≤ (position_after line at outcome).item
unfolding position_after
position_forward line at outcome = cond_both (tries_again line at.attempt outcome) _ _ (λ (q : Position). at.item ≤ q.item) (λ e. omega arith) (λ e. omega arith)

part_after_keeps : (p : ActorPart) (move : Move) (outcome : Option Outcome) → KeepsPlace p (part_after p move outcome)
unfolding part_after
part_after_keeps p move None = record { role = refl; script = refl; item = omega arith }
part_after_keeps p move (Some outcome) =
    record { role = refl; script = refl; item = position_forward (line_at p.script p.item) (record { item = p.item; attempt = p.attempt }) outcome }

pub step_keeps : (frames : ℕ) (guests : List GuestSpec) (part : ActorPart) (view : View) → KeepsPlace part (step_of frames guests part view).part
step_keeps frames guests part view =
    let move = item_move frames guests view part part.role (line_at part.script part.item).item in
    part_after_keeps part move move.outcome

pub after_keeps : (m : State) (actor other : ℕ) → KeepsPlace (part_of m other) (part_of (after m actor) other)
unfolding after
after_keeps m actor other =
    let old = part_of m actor in
    let move = item_move m.frames m.guests (view_of m) old old.role (line_at old.script old.item).item in
    at_set (KeepsPlace (part_of m other)) m.actors (actor - 1) (other - 1) (part_after old move move.outcome) idle_part (keeps_place (part_of m other))
    (λ same within. subst (λ (k : ℕ). KeepsPlace (get_or m.actors k idle_part) (part_after old move move.outcome)) (sym same) (part_after_keeps old move move.outcome))

-- the parts of a state after a step
pub after_length : (m : State) (actor : ℕ) → length (after m actor).actors ≡ length m.actors
unfolding after
after_length m actor = length-set m.actors (actor - 1) _

pub after_frames : (m : State) (actor : ℕ) → (after m actor).frames ≡ m.frames
unfolding after
after_frames m actor = refl

pub after_guests : (m : State) (actor : ℕ) → (after m actor).guests ≡ m.guests
unfolding after
after_guests m actor = refl

pub after_contents : (m : State) (actor : ℕ) → (after m actor).contents ≡ (step_of m.frames m.guests (part_of m actor) (view_of m)).contents
unfolding after
after_contents m actor = refl

pub event_is : (m : State) (actor : ℕ) → event_of m actor ≡ (step_of m.frames m.guests (part_of m actor) (view_of m)).event
unfolding event_of
event_is m actor = refl

pub after_part : (m : State) (actor : ℕ) → actor - 1 < length m.actors → part_of (after m actor) actor ≡ (step_of m.frames m.guests (part_of m actor) (view_of m)).part
unfolding after
after_part m actor within = get_or-set_same m.actors (actor - 1) _ idle_part within

pub after_other : (m : State) (actor other : ℕ) → other - 1 ≢ actor - 1 → part_of (after m actor) other ≡ part_of m other
unfolding after
after_other m actor other apart = get_or-set_other m.actors (actor - 1) (other - 1) _ idle_part apart

-- what is asked of an unfinished actor, in one form
some_and_at : {X : Type 0} (P : X → Type 0) (xs : List X) (k : ℕ) (d : X) → IsSomeAnd (slice_get xs k) P → (k < length xs) × P (get_or xs k d)
some_and_at P [] k d h = absurd h
some_and_at P (x ∷ xs) zero d h = (omega arith, h)
some_and_at P (x ∷ xs) (suc k) d h = let rest = some_and_at P xs k d h in (omega arith, rest.1)

some_and_from : {X : Type 0} (P : X → Type 0) (xs : List X) (k : ℕ) (d : X) → k < length xs → P (get_or xs k d) → IsSomeAnd (slice_get xs k) P
some_and_from P [] k d within h = absurd (omega arith)
some_and_from P (x ∷ xs) zero d within h = h
some_and_from P (x ∷ xs) (suc k) d within h = some_and_from P xs k d (omega arith) h

pub record Unfinished (m : State) (actor : ℕ) : Type 0 where
  pub numbered : 0 < actor
  pub within : actor - 1 < length m.actors
  pub has_line : (part_of m actor).item < length (part_of m actor).script

pub unfinished_at : (m : State) (actor : ℕ) → IsUnfinished m actor → Unfinished m actor
unfinished_at m actor u =
    let h = some_and_at (λ (part : ActorPart). part.item < length part.script) m.actors (actor - 1) idle_part u.1 in
    record { numbered = u.0; within = h.0; has_line = h.1 }

pub unfinished_from : (m : State) (actor : ℕ) → Unfinished m actor → IsUnfinished m actor
unfinished_from m actor u =
    (u.numbered, some_and_from (λ (part : ActorPart). part.item < length part.script) m.actors (actor - 1) idle_part u.within u.has_line)

-- who is unfinished after a step was so before it
pub was_unfinished : (m : State) (actor other : ℕ) → IsUnfinished (after m actor) other → IsUnfinished m other
was_unfinished m actor other u =
    let now = unfinished_at (after m actor) other u in
    let keeps = after_keeps m actor other in
    let same_length = after_length m actor in
    let lengths = ap length keeps.script in
    unfinished_from m other (record { numbered = now.numbered; within = omega arith; has_line = omega arith })

pub was_unfinished_before : (m : State) (s : List ℕ) (actor : ℕ) → IsUnfinished (state_from m s) actor → IsUnfinished m actor
unfolding state_from
was_unfinished_before m [] actor u = u
was_unfinished_before m (a ∷ s) actor u = was_unfinished m a actor (was_unfinished_before (after m a) s actor u)

-- every actor keeps its role and its script through a run
keeps_on : (p q r : ActorPart) → KeepsPlace p q → KeepsPlace q r → KeepsPlace p r
keeps_on p q r a b = record { role = b.role ∙ a.role; script = b.script ∙ a.script; item = omega arith }

pub state_keeps : (m : State) (s : List ℕ) (actor : ℕ) → KeepsPlace (part_of m actor) (part_of (state_from m s) actor)
unfolding state_from
state_keeps m [] actor = keeps_place (part_of m actor)
state_keeps m (a ∷ s) actor = keeps_on _ (part_of (after m a) actor) _ (after_keeps m a actor) (state_keeps (after m a) s actor)
