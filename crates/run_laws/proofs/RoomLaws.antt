-- A run has at most 32 events for each attempt: each event leaves less room.
use Rattle.std.proofs.Common.{◌≡◌, ℕ, zero, suc, ◌+◌, ◌-◌, ◌*◌, ◌<◌, ◌≤◌, true, nat_lt, List, [], ◌∷◌, ◌++◌, length, map, get_or, set, drop, Option, Some, None, refl, sym, ap, ◌∙◌, arith}
use Rattle.std.proofs.lemmas.Bool.{cond_both, ltb-true, and_parts}
use Rattle.std.proofs.lemmas.List.{length_push, drop-drop}
use Rattle.std.proofs.lemmas.List.Elements.{All-set, All-map}
use Rattle.snp_model.specs.declared.event.Outcome.{Outcome}
use Rattle.snp_model.specs.declared.item.Line.{Line}
use Rattle.snp_model.specs.declared.scenario.Actor.{Actor}
use Rattle.snp_model.specs.declared.scenario.Scenario.{Scenario}
use Rattle.snp_model.specs.State.{ActorPart, State, View, part_of, idle_part, IsUnfinished}
use Rattle.snp_model.specs.Locks.{view_of}
use Rattle.snp_model.specs.declared.scenario.GuestSpec.{GuestSpec}
use Rattle.snp_model.specs.Moves.{Move}
use Rattle.snp_model.specs.Step.{Position, step_of, after, part_after, position_after, tries_again, passed_over, item_move, line_at}
use Rattle.snp_model.specs.Outcomes.{is_in_use}
use Rattle.snp_model.specs.Opening.{opening, opening_part}
use Rattle.snp_model.specs.Run.{state_from, state_after, IsDefinedFrom, IsDefined}
use Rattle.snp_model.specs.Attempts.{script_attempts, actors_attempts, attempts_of}
use Rattle.run_laws.specs.Room.{lines_room, part_room, parts_room, room_of, IsBounded, AreBounded}
use Rattle.run_laws.specs.OpenAttempts.{IsWalking}
use Rattle.run_laws.proofs.OpenAttemptsLaws.{opening_part_walking, step_walking}
use Rattle.run_laws.proofs.RunLaws.{unfinished_at}
use Rattle.run_laws.proofs.ShapeLaws.{attempt_short}

-- the lines of a script from one of them on
drop_here : (script : List Line) (item : ℕ) → item < length script → drop item script ≡ line_at script item ∷ drop (suc item) script
drop_here [] item h = absurd (omega arith)
drop_here (l ∷ ls) zero h = refl
drop_here (l ∷ ls) (suc item) h = drop_here ls item (omega arith)

-- before its first event a list of lines has 32 events for each attempt
lines_start : (ls : List Line) → lines_room ls 0 0 ≡ 32 * script_attempts ls
unfolding lines_room script_attempts
lines_start [] = refl
lines_start (l ∷ ls) = omega arith

drop_fewer : (n : ℕ) (ls : List Line) → script_attempts (drop n ls) ≤ script_attempts ls
unfolding script_attempts
drop_fewer zero ls = omega arith
drop_fewer (suc n) [] = omega arith
drop_fewer (suc n) (l ∷ ls) = let rest = drop_fewer n ls in omega arith

-- one more event of an attempt, the next attempt, and the lines after it
line_grows : (l : Line) (ls : List Line) (attempt made : ℕ) → attempt ≤ l.retries → made < 32 → lines_room (l ∷ ls) attempt (made + 1) < lines_room (l ∷ ls) attempt made
unfolding lines_room
line_grows l ls attempt made within short = omega arith

line_retried : (l : Line) (ls : List Line) (attempt made : ℕ) → attempt < l.retries → made < 32 → lines_room (l ∷ ls) (attempt + 1) 0 < lines_room (l ∷ ls) attempt made
unfolding lines_room
line_retried l ls attempt made within short = omega arith

line_closes : (l : Line) (ls : List Line) (attempt made n : ℕ) → attempt ≤ l.retries → made < 32 → lines_room (drop n ls) 0 0 < lines_room (l ∷ ls) attempt made
unfolding lines_room
line_closes l ls attempt made n within short = let start = lines_start (drop n ls) in let fewer = drop_fewer n ls in omega arith

-- an outcome that leaves retries is tried again
again_within : (line : Line) (attempt : ℕ) (outcome : Outcome) → tries_again line attempt outcome ≡ true → attempt < line.retries
again_within line attempt outcome e = ltb-true attempt line.retries (and_parts (is_in_use outcome) (nat_lt attempt line.retries) e).1

-- what is left at the place after an attempt, of which some events were made
record LeavesLess (script : List Line) (at : Position) (made : ℕ) (q : Position) : Type 0 where
  room : lines_room (drop q.item script) q.attempt 0 < lines_room (drop at.item script) at.attempt made
  within : q.item < length script → q.attempt ≤ (line_at script q.item).retries

position_lowers : (script : List Line) (at : Position) (outcome : Outcome) (made : ℕ) → at.item < length script → at.attempt ≤ (line_at script at.item).retries → made < 32
    → LeavesLess script at made (position_after (line_at script at.item) at outcome)
unfolding position_after
position_lowers script at outcome made has within short =
    let line = line_at script at.item in
    let here = drop_here script at.item has in
    cond_both (tries_again line at.attempt outcome) _ _ (LeavesLess script at made)
    (λ again. record {
      room = rw here (line_retried line (drop (suc at.item) script) at.attempt made (again_within line at.attempt outcome again) short);
      within = λ _. let less = again_within line at.attempt outcome again in omega arith;
    })
    (λ over.
    let n = passed_over outcome in
    let place : at.item + 1 + n ≡ suc at.item + n = omega arith in
    let rest = ap (λ (k : ℕ). drop k script) place ∙ sym (drop-drop n (suc at.item) script) in
    record {
      room = rw (rest, here) (line_closes line (drop (suc at.item) script) at.attempt made n within short);
      within = λ _. omega arith;
    })

-- a move lowers its actor's room, and leaves its part bounded
record Lowers (frames : ℕ) (old new : ActorPart) : Type 0 where
  bounded : IsBounded frames new
  less : part_room new < part_room old

part_lowers : (frames : ℕ) (p : ActorPart) (move : Move) (outcome : Option Outcome) → IsBounded frames p → p.item < length p.script → IsWalking frames (part_after p move outcome) → Lowers frames p (part_after p move outcome)
unfolding part_after part_room
part_lowers frames p move None bounded has walking =
    let l = line_at p.script p.item in
    let ls = drop (suc p.item) p.script in
    let grows = line_grows l ls p.attempt (length p.deeds) (bounded.within has) bounded.short in
    record {
      bounded = record { walking = walking; short = attempt_short frames p.role l.item move.standing (p.deeds ++ move.deed ∷ []) walking; within = bounded.within };
      less = rw (drop_here p.script p.item has, length_push p.deeds move.deed) grows;
    }
part_lowers frames p move (Some outcome) bounded has walking =
    let lowers = position_lowers p.script (record { item = p.item; attempt = p.attempt }) outcome (length p.deeds) has (bounded.within has) bounded.short in
    record { bounded = record { walking = walking; short = omega arith; within = lowers.within }; less = lowers.room }

-- the step of an actor, whatever it looks at
step_lowers_part : (frames : ℕ) (guests : List GuestSpec) (part : ActorPart) (view : View) → IsBounded frames part → part.item < length part.script → Lowers frames part (step_of frames guests part view).part
step_lowers_part frames guests part view bounded has =
    let move = item_move frames guests view part part.role (line_at part.script part.item).item in
    part_lowers frames part move move.outcome bounded has (step_walking frames guests part view bounded.walking)

set_lowers : (ps : List ActorPart) (k : ℕ) (x : ActorPart) → k < length ps → part_room x < part_room (get_or ps k idle_part) → parts_room (set ps k x) < parts_room ps
unfolding parts_room
set_lowers [] k x within less = absurd (omega arith)
set_lowers (p ∷ ps) zero x within less = omega arith
set_lowers (p ∷ ps) (suc k) x within less = let rest = set_lowers ps k x (omega arith) less in omega arith

-- an event leaves less room, and every open attempt short
pub record StepLowers (m new : State) : Type 0 where
  pub bounded : AreBounded new
  pub less : room_of new < room_of m

pub step_lowers : (m : State) (actor : ℕ) → AreBounded m → IsUnfinished m actor → StepLowers m (after m actor)
unfolding after room_of
step_lowers m actor bounded unfinished =
    let u = unfinished_at m actor unfinished in
    let p = part_of m actor in
    let lowers = step_lowers_part m.frames m.guests p (view_of m) (bounded (actor - 1) idle_part u.within) u.has_line in
    record {
      bounded = All-set (IsBounded m.frames) m.actors (actor - 1) (step_of m.frames m.guests p (view_of m)).part lowers.bounded bounded;
      less = set_lowers m.actors (actor - 1) (step_of m.frames m.guests p (view_of m)).part u.within lowers.less;
    }

-- a run of n events leaves at least n less
pub record RunLowers (m : State) (s : List ℕ) : Type 0 where
  pub bounded : AreBounded (state_from m s)
  pub room : length s + room_of (state_from m s) ≤ room_of m

pub run_lowers : (m : State) (s : List ℕ) → AreBounded m → IsDefinedFrom m s → RunLowers m s
unfolding state_from IsDefinedFrom
run_lowers m [] bounded d = record { bounded = bounded; room = omega arith }
run_lowers m (a ∷ s) bounded d =
    let first = step_lowers m a bounded d.0 in
    let rest = run_lowers (after m a) s first.bounded d.1 in
    let less = first.less in
    let room = rest.room in
    record { bounded = rest.bounded; room = omega arith }

-- before an event of an unfinished actor there is room for it
pub state_has_room : (m : State) (s : List ℕ) (actor : ℕ) → AreBounded m → IsDefinedFrom m s → IsUnfinished (state_from m s) actor → length s < room_of m
state_has_room m s actor bounded d u =
    let run = run_lowers m s bounded d in
    let next = step_lowers (state_from m s) actor run.bounded u in
    let room = run.room in
    let less = next.less in
    omega arith

-- the opening has 32 events for each attempt
opening_parts_room : (actors : List Actor) → parts_room (map opening_part actors) ≡ 32 * actors_attempts actors
unfolding parts_room part_room actors_attempts
opening_parts_room [] = refl
opening_parts_room (a ∷ others) =
    let first = lines_start a.script in
    let rest = opening_parts_room others in
    omega arith

pub opening_room : (c : Scenario) → room_of (opening c) ≤ 32 * attempts_of c
unfolding room_of opening attempts_of
opening_room c = let same = opening_parts_room c.actors in omega arith

pub opening_part_bounded : (frames : ℕ) (a : Actor) → IsBounded frames (opening_part a)
opening_part_bounded frames a = record { walking = opening_part_walking frames a; short = omega arith; within = λ _. omega arith }

pub opening_are : (c : Scenario) → AreBounded (opening c)
unfolding opening
opening_are c = All-map (IsBounded _) opening_part c.actors (λ k d within. opening_part_bounded _ (get_or c.actors k d))

-- so a run of a scenario has room for its next event in 32 events for each attempt
pub run_has_room : (c : Scenario) (s : List ℕ) (actor : ℕ) → IsDefined c s → IsUnfinished (state_after c s) actor → length s < 32 * attempts_of c
run_has_room c s actor d u =
    let room = state_has_room (opening c) s actor (opening_are c) d u in
    let opens = opening_room c in
    omega arith

pub run_length : (c : Scenario) (s : List ℕ) → IsDefined c s → length s ≤ 32 * attempts_of c
run_length c s d =
    let room = (run_lowers (opening c) s (opening_are c) d).room in
    let opens = opening_room c in
    omega arith

-- an actor's part stays bounded in its own step, whatever it looks at
pub step_bounded : (frames : ℕ) (guests : List GuestSpec) (part : ActorPart) (view : View) → IsBounded frames part → part.item < length part.script → IsBounded frames (step_of frames guests part view).part
step_bounded frames guests part view bounded has = (step_lowers_part frames guests part view bounded has).bounded

-- in every run
pub run_bounded : (c : Scenario) (s : List ℕ) → IsDefined c s → AreBounded (state_after c s)
run_bounded c s d = (run_lowers (opening c) s (opening_are c) d).bounded
