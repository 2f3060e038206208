-- What a state keeps where the script of an actor goes on that has passed its last item.
use Rattle.std.proofs.Common.{◌≡◌, ◌≢◌, ℕ, zero, suc, ◌-◌, ◌<◌, ◌≤◌, Bool, true, List, [], ◌∷◌, ◌++◌, length, map, get_or, set, Option, Some, None, refl, sym, ap, ◌∙◌, subst, ⊎_elim, arith}
use Rattle.std.specs.List.{AllByRecursion}
use Rattle.std.proofs.lemmas.Bool.{cond_both, cases_eq}
use Rattle.std.proofs.lemmas.List.{get_or_past, get_or-set_same, get_or-set_other, length-append}
use Rattle.std.proofs.lemmas.List.Elements.{All-set}
use Rattle.snp_model.specs.declared.event.Deed.{Deed}
use Rattle.snp_model.specs.declared.event.Event.{Event}
use Rattle.snp_model.specs.declared.event.Outcome.{Outcome}
use Rattle.snp_model.specs.declared.item.Item.{Item}
use Rattle.snp_model.specs.declared.item.Line.{Line}
use Rattle.snp_model.specs.declared.scenario.Actor.{Actor}
use Rattle.snp_model.specs.declared.scenario.GuestSpec.{GuestSpec}
use Rattle.snp_model.specs.declared.scenario.Role.{Role}
use Rattle.snp_model.specs.declared.scenario.Role.TheVariants.{Cpu, Host, Firmware}
use Rattle.snp_model.specs.declared.scenario.Scenario.{Scenario}
use Rattle.snp_model.specs.Bounds.{IsLineOf}
use Rattle.snp_model.specs.Journal.{actors_of}
use Rattle.snp_model.specs.Journals.{IsRun, state_at}
use Rattle.snp_model.specs.Locks.{view_of, locks_frame, locks_context}
use Rattle.snp_model.specs.Moves.{Move}
use Rattle.snp_model.specs.Opening.{opening, opening_part}
use Rattle.snp_model.specs.Run.{IsDefinedFrom, state_from}
use Rattle.snp_model.specs.State.{ActorPart, Contents, Pages, Standing, State, idle_part, nothing_taken, part_of, IsUnfinished}
use Rattle.snp_model.specs.Step.{Position, after, idle_line, item_move, line_at, part_after, position_after, step_of, tries_again}
use Rattle.run_laws.specs.HeldLocks.{AreItemLocks, AreTested}
use Rattle.run_laws.specs.KeptLocks.{HaveOneHolder, KeepsLocks, actor_at}
use Rattle.run_laws.specs.OpenAttempts.{IsAttempt, IsWalking}
use Rattle.run_laws.specs.Ready.{IsReady, AreReady}
use Rattle.run_laws.proofs.LockedLaws.{nothing_tested}
use Rattle.run_laws.proofs.OpenAttemptsLaws.{opening_part_walking}
use Rattle.run_laws.proofs.RunLaws.{unfinished_at}
use Rattle.growing_runs.specs.Extending.{extended, once, with_lines}
use Rattle.growing_runs.specs.GoingOn.{IsRested, AreRested, MayGoOn}

-- Rest

position_rests : (line : Line) (at : Position) (outcome : Outcome) (most : ℕ) → at.item < most → most ≤ (position_after line at outcome).item → (position_after line at outcome).attempt ≡ 0
unfolding position_after
position_rests line at outcome most within =
    cond_both (tries_again line at.attempt outcome) _ _ (λ (p : Position). most ≤ p.item → p.attempt ≡ 0) (λ _ past. absurd (omega (arith, past))) (λ _ past. refl)

part_rests : (part : ActorPart) (move : Move) (outcome : Option Outcome) → part.item < length part.script → IsRested (part_after part move outcome)
unfolding part_after
part_rests part move None within past = absurd (omega (arith, past))
part_rests part move (Some outcome) within past = position_rests (line_at part.script part.item) (record { item = part.item; attempt = part.attempt }) outcome (length part.script) within past

-- a step leaves each actor at rest
pub after_rests : (m : State) (actor : ℕ) → AreRested m → IsUnfinished m actor → AreRested (after m actor)
unfolding after
after_rests m actor rested unfinished =
    let u = unfinished_at m actor unfinished in
    let part = part_of m actor in
    let move = item_move m.frames m.guests (view_of m) part part.role (line_at part.script part.item).item in
    All-set IsRested m.actors (actor - 1) _ (part_rests part move move.outcome u.has_line) rested

actors_rest : (actors : List Actor) (k : ℕ) (d : ActorPart) → k < length (map opening_part actors) → IsRested (get_or (map opening_part actors) k d)
actors_rest [] k d within = absurd (omega arith)
actors_rest (actor ∷ actors) zero d within = λ _. refl
actors_rest (actor ∷ actors) (suc k) d within = actors_rest actors k d (omega arith)

-- so it is at the opening, and in every run
pub opening_rests : (c : Scenario) → AreRested (opening c)
unfolding opening
opening_rests c = actors_rest c.actors

state_rests : (m : State) (s : List ℕ) → AreRested m → IsDefinedFrom m s → AreRested (state_from m s)
unfolding state_from IsDefinedFrom
state_rests m [] rested defined = rested
state_rests m (a ∷ s) rested defined = state_rests (after m a) s (after_rests m a rested defined.0) defined.1

pub run_rests : (c : Scenario) (list : List (ℕ × Event)) → IsRun c list → AreRested (state_at c list)
run_rests c list run = state_rests (opening c) (actors_of list) (opening_rests c) run.defined

-- where the script goes on
pub rests_with : (m : State) (actor : ℕ) (lines : List Line) → MayGoOn m actor lines → AreRested m → AreRested (with_lines actor lines m)
unfolding with_lines
rests_with m actor lines may rested =
    let part = part_of m actor in
    All-set IsRested m.actors (actor - 1) (extended lines part) (λ past. rested (actor - 1) idle_part may.there may.finished) rested

-- The open attempt of one that has passed its last item

idle_deeds : (frames : ℕ) (role : Role) (standing : Standing) (made : List Deed) → IsAttempt frames role idle_line.item standing made → made ≡ []
unfolding idle_line IsAttempt
idle_deeds frames (Cpu guest vmpl npt paging) standing made is = is
idle_deeds frames Host standing made is = is
idle_deeds frames Firmware standing made is = is

idle_locks : (frames : ℕ) (guests : List GuestSpec) (contents : Contents) (role : Role) (made : List Deed) (standing : Standing) → AreItemLocks frames guests contents role idle_line.item made standing → standing ≡ nothing_taken
unfolding idle_line AreItemLocks
idle_locks frames guests contents (Cpu guest vmpl npt paging) made standing is = is
idle_locks frames guests contents Host made standing is = is
idle_locks frames guests contents Firmware made standing is = is

-- past the end of its script no line is under way
line_past : (part : ActorPart) → length part.script ≤ part.item → line_at part.script part.item ≡ idle_line
line_past part past = get_or_past part.script part.item idle_line past

pub no_deeds : (frames : ℕ) (part : ActorPart) → length part.script ≤ part.item → IsWalking frames part → part.deeds ≡ []
no_deeds frames part past walking =
    idle_deeds frames part.role part.standing part.deeds (subst (λ (line : Line). IsAttempt frames part.role line.item part.standing part.deeds) (line_past part past) walking)

no_locks : (m : State) (part : ActorPart) → length part.script ≤ part.item → AreTested m part → part.standing ≡ nothing_taken
no_locks m part past tested =
    idle_locks m.frames m.guests m.contents part.role part.deeds part.standing (subst (λ (line : Line). AreItemLocks m.frames m.guests m.contents part.role line.item part.deeds part.standing) (line_past part past) tested)

-- an attempt that has made nothing is one of any item
nothing_made : (frames : ℕ) (role : Role) (item : Item) → IsAttempt frames role item nothing_taken []
nothing_made frames role item = opening_part_walking frames (record { role = role; script = once item ∷ [] })

-- What it keeps

pub each_append : {X : Type 0} (P : X → Type 0) (xs ys : List X) → AllByRecursion P xs → AllByRecursion P ys → AllByRecursion P (xs ++ ys)
each_append P [] ys first second = second
each_append P (x ∷ xs) ys first second = (first.0, each_append P xs ys first.1 second)

-- its part stays ready
ready_with : (frames : ℕ) (guests : List GuestSpec) (part : ActorPart) (lines : List Line) → IsReady frames guests part → AllByRecursion (IsLineOf frames part.role) lines
    → part.attempt ≡ 0 → IsWalking frames (extended lines part) → IsReady frames guests (extended lines part)
ready_with frames guests part lines ready fit rests walking =
    record {
      role = ready.role;
      script = each_append (IsLineOf frames part.role) part.script lines ready.script fit;
      bounded = record { walking = walking; short = ready.bounded.short; within = λ _. omega (arith, rests) };
    }

-- so every actor stays ready
pub state_ready_with : (m : State) (actor : ℕ) (lines : List Line) → MayGoOn m actor lines → AreRested m → AreReady m → KeepsLocks m → AreReady (with_lines actor lines m)
unfolding with_lines
state_ready_with m actor lines may rested ready keeps =
    let part = part_of m actor in
    let here = ready (actor - 1) idle_part may.there in
    let deeds : part.deeds ≡ [] = no_deeds m.frames part may.finished here.bounded.walking in
    let standing : part.standing ≡ nothing_taken = no_locks m part may.finished (keeps.tested (actor - 1)) in
    let item = (line_at (part.script ++ lines) part.item).item in
    let made = nothing_made m.frames part.role item in
    let walking : IsWalking m.frames (extended lines part) =
    subst (λ (s : Standing). IsAttempt m.frames part.role item s part.deeds) (sym standing) (subst (λ (ds : List Deed). IsAttempt m.frames part.role item nothing_taken ds) (sym deeds) made) in
    All-set (IsReady m.frames m.guests) m.actors (actor - 1) (extended lines part)
    (ready_with m.frames m.guests part lines here may.fits (rested (actor - 1) idle_part may.there may.finished) walking) ready

-- the locks of every actor are those that it has taken
frame_with : (actors : List ActorPart) (k j : ℕ) (lines : List Line) (frame : ℕ) → locks_frame frame (actor_at (set actors k (extended lines (get_or actors k idle_part))) j) ≡ locks_frame frame (actor_at actors j)
frame_with [] k j lines frame = refl
frame_with (p ∷ actors) zero zero lines frame = refl
frame_with (p ∷ actors) zero (suc j) lines frame = refl
frame_with (p ∷ actors) (suc k) zero lines frame = refl
frame_with (p ∷ actors) (suc k) (suc j) lines frame = frame_with actors k j lines frame

context_with : (actors : List ActorPart) (k j : ℕ) (lines : List Line) (guest : ℕ) → locks_context guest (actor_at (set actors k (extended lines (get_or actors k idle_part))) j) ≡ locks_context guest (actor_at actors j)
context_with [] k j lines guest = refl
context_with (p ∷ actors) zero zero lines guest = refl
context_with (p ∷ actors) zero (suc j) lines guest = refl
context_with (p ∷ actors) (suc k) zero lines guest = refl
context_with (p ∷ actors) (suc k) (suc j) lines guest = context_with actors k j lines guest

one_with : (pages : Pages) (actors : List ActorPart) (k : ℕ) (lines : List Line) → HaveOneHolder pages actors → HaveOneHolder pages (set actors k (extended lines (get_or actors k idle_part)))
one_with pages actors k lines one = record {
  pages_by_one = λ i j frame by_i by_j. one.pages_by_one i j frame (sym (frame_with actors k i lines frame) ∙ by_i) (sym (frame_with actors k j lines frame) ∙ by_j);
  contexts_by_one = λ i j guest by_i by_j. one.contexts_by_one i j guest (sym (context_with actors k i lines guest) ∙ by_i) (sym (context_with actors k j lines guest) ∙ by_j);
  whole = λ j f g by_j large same. frame_with actors k j lines g ∙ one.whole j f g (sym (frame_with actors k j lines f) ∙ by_j) large same;
}

tested_with : (m : State) (actor place : ℕ) (lines : List Line) → MayGoOn m actor lines → KeepsLocks m → AreTested m (actor_at (set m.actors (actor - 1) (extended lines (part_of m actor))) place)
tested_with m actor place lines may keeps =
    let part = part_of m actor in
    let x : ActorPart = extended lines part in
    ⊎_elim
    (λ (same : place ≡ actor - 1).
    let standing : part.standing ≡ nothing_taken = no_locks m part may.finished (keeps.tested (actor - 1)) in
    let item = (line_at (part.script ++ lines) part.item).item in
    let tested : AreTested m x = subst (λ (s : Standing). AreItemLocks m.frames m.guests m.contents part.role item part.deeds s) (sym standing) (nothing_tested m.frames m.guests m.contents part.role item part.deeds) in
    let there : get_or (set m.actors (actor - 1) x) place idle_part ≡ x = ap (λ (k : ℕ). get_or (set m.actors (actor - 1) x) k idle_part) same ∙ get_or-set_same m.actors (actor - 1) x idle_part may.there in
    subst (AreTested m) (sym there) tested)
    (λ (apart : place ≡ actor - 1 → ⊥). subst (AreTested m) (sym (get_or-set_other m.actors (actor - 1) place x idle_part apart)) (keeps.tested place))
    (cases_eq place (actor - 1))

-- and so the state keeps its locks
pub keeps_with : (m : State) (actor : ℕ) (lines : List Line) → MayGoOn m actor lines → KeepsLocks m → KeepsLocks (with_lines actor lines m)
unfolding with_lines
keeps_with m actor lines may keeps = record {
  whole = keeps.whole;
  one = one_with m.contents.pages m.actors (actor - 1) lines keeps.one;
  tested = λ place. tested_with m actor place lines may keeps;
}
