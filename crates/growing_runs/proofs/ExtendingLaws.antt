-- A script may go on without a change to what was run: one event and then a whole schedule.
use Rattle.std.proofs.Common.{◌≡◌, ◌≢◌, ℕ, zero, suc, ◌-◌, ◌<◌, List, [], ◌∷◌, ◌++◌, length, get_or, set, Option, Some, None, refl, sym, ap, ◌∙◌, subst, ⊎_elim, arith, ◌+◌, if◌then◌else◌}
use Rattle.std.proofs.lemmas.Bool.{cases_eq}
use Rattle.std.proofs.lemmas.List.{get_or-set_same, get_or-set_other, length-set, length-append, get_or_append_left}
use Rattle.snp_model.specs.declared.event.Event.{Event}
use Rattle.snp_model.specs.declared.event.Outcome.{Outcome}
use Rattle.snp_model.specs.declared.item.Item.{Item}
use Rattle.snp_model.specs.declared.item.Item.TheVariants as items
use Rattle.snp_model.specs.declared.item.Line.{Line}
use Rattle.snp_model.specs.declared.scenario.GuestSpec.{GuestSpec}
use Rattle.snp_model.specs.declared.scenario.Role.{Role}
use Rattle.snp_model.specs.declared.scenario.Role.TheVariants.{Cpu, Host, Firmware}
use Rattle.snp_model.specs.State.{ActorPart, State, View, part_of, idle_part, nothing_taken, IsUnfinished}
use Rattle.snp_model.specs.Locks.{view_of, holder_from, context_holder_from, locks_frame, locks_context}
use Rattle.snp_model.specs.FirmwareStep.{phase_move, take_context, context_taken, take_page, computed_move, commit_move}
use Rattle.snp_model.specs.InstructionStep.{update_move, smash_move, validate_move, adjust_move}
use Rattle.snp_model.specs.Moves.{Move, begin_move, lock_move, need_move, table_move, walked_move}
use Rattle.snp_model.specs.Step.{Stepped, access_move, host_access, stepped, idle_line, item_move, last_after, line_at, part_after, position_after, step_of, event_of, after}
use Rattle.snp_model.specs.Run.{run_from, state_from, IsDefinedFrom}
use Rattle.run_laws.proofs.RunLaws.{unfinished_at, unfinished_from}
use Rattle.growing_runs.specs.Extending.{Commutes, KeepsRun, extended, with_lines}

-- a move looks at no script
move_same : (lines : List Line) (frames : ℕ) (guests : List GuestSpec) (view : View) (part : ActorPart) (role : Role) (item : Item) → item_move frames guests view (extended lines part) role item ≡ item_move frames guests view part role item
unfolding item_move walked_move need_move table_move begin_move lock_move access_move host_access update_move smash_move validate_move adjust_move phase_move take_context context_taken take_page computed_move commit_move
move_same lines frames guests view part (Cpu guest vmpl npt paging) (items.Access address op) = refl
move_same lines frames guests view part (Cpu guest vmpl npt paging) (items.Pvalidate address size validate) = refl
move_same lines frames guests view part (Cpu guest vmpl npt paging) (items.Rmpadjust address size target mask vmsa) = refl
move_same lines frames guests view part (Cpu guest vmpl npt paging) (items.Rmpupdate update) = refl
move_same lines frames guests view part (Cpu guest vmpl npt paging) (items.Psmash frame) = refl
move_same lines frames guests view part (Cpu guest vmpl npt paging) (items.Firmware command) = refl
move_same lines frames guests view part (Cpu guest vmpl npt paging) (items.Skip count test) = refl
move_same lines frames guests view part Host (items.Access address op) = refl
move_same lines frames guests view part Host (items.Pvalidate address size validate) = refl
move_same lines frames guests view part Host (items.Rmpadjust address size target mask vmsa) = refl
move_same lines frames guests view part Host (items.Rmpupdate update) = refl
move_same lines frames guests view part Host (items.Psmash frame) = refl
move_same lines frames guests view part Host (items.Firmware command) = refl
move_same lines frames guests view part Host (items.Skip count test) = refl
move_same lines frames guests view part Firmware (items.Access address op) = refl
move_same lines frames guests view part Firmware (items.Pvalidate address size validate) = refl
move_same lines frames guests view part Firmware (items.Rmpadjust address size target mask vmsa) = refl
move_same lines frames guests view part Firmware (items.Rmpupdate update) = refl
move_same lines frames guests view part Firmware (items.Psmash frame) = refl
move_same lines frames guests view part Firmware (items.Firmware command) = refl
move_same lines frames guests view part Firmware (items.Skip count test) = refl

-- two writes at one place, and at two
set_set : {X : Type 0} (xs : List X) (k : ℕ) (x y : X) → set (set xs k x) k y ≡ set xs k y
set_set [] k x y = refl
set_set (z ∷ xs) zero x y = refl
set_set (z ∷ xs) (suc k) x y = ap (λ (l : List _). z ∷ l) (set_set xs k x y)

set_apart : {X : Type 0} (xs : List X) (j k : ℕ) (x y : X) → j ≢ k → set (set xs j x) k y ≡ set (set xs k y) j x
set_apart [] j k x y apart = refl
set_apart (z ∷ xs) zero zero x y apart = absurd (apart refl)
set_apart (z ∷ xs) zero (suc k) x y apart = refl
set_apart (z ∷ xs) (suc j) zero x y apart = refl
set_apart (z ∷ xs) (suc j) (suc k) x y apart = ap (λ (l : List _). z ∷ l) (set_apart xs j k x y (λ same. apart (ap suc same)))

-- whom locks name
holder_same : (first : ℕ) (parts : List ActorPart) (k : ℕ) (lines : List Line) (frame : ℕ) → holder_from first (set parts k (extended lines (get_or parts k idle_part))) frame ≡ holder_from first parts frame
unfolding holder_from
holder_same first [] k lines frame = refl
holder_same first (p ∷ parts) zero lines frame = refl
holder_same first (p ∷ parts) (suc k) lines frame = ap (λ (found : Option ℕ). if locks_frame frame p then Some first else found) (holder_same (first + 1) parts k lines frame)

context_same : (first : ℕ) (parts : List ActorPart) (k : ℕ) (lines : List Line) (guest : ℕ) → context_holder_from first (set parts k (extended lines (get_or parts k idle_part))) guest ≡ context_holder_from first parts guest
unfolding context_holder_from
context_same first [] k lines guest = refl
context_same first (p ∷ parts) zero lines guest = refl
context_same first (p ∷ parts) (suc k) lines guest = ap (λ (found : Option ℕ). if locks_context guest p then Some first else found) (context_same (first + 1) parts k lines guest)

-- what a step may look at
pub view_same : (m : State) (actor : ℕ) (lines : List Line) → view_of (with_lines actor lines m) ≡ view_of m
unfolding with_lines
view_same m actor lines = λ i. record {
  contents = m.contents;
  holder = λ frame. holder_same 1 m.actors (actor - 1) lines frame i;
  context_holder = λ guest. context_same 1 m.actors (actor - 1) lines guest i;
}

-- the parts
pub part_here : (m : State) (actor other : ℕ) (lines : List Line) → other - 1 ≡ actor - 1 → other - 1 < length m.actors → part_of (with_lines actor lines m) other ≡ extended lines (part_of m other)
unfolding with_lines
part_here m actor other lines same within =
    ap (λ (k : ℕ). get_or (set m.actors k (extended lines (get_or m.actors k idle_part))) (other - 1) idle_part) (sym same)
    ∙ get_or-set_same m.actors (other - 1) (extended lines (part_of m other)) idle_part within

pub part_there : (m : State) (actor other : ℕ) (lines : List Line) → other - 1 ≢ actor - 1 → part_of (with_lines actor lines m) other ≡ part_of m other
unfolding with_lines
part_there m actor other lines apart = get_or-set_other m.actors (actor - 1) (other - 1) (extended lines (part_of m actor)) idle_part apart

-- the line under way
line_same : (script lines : List Line) (item : ℕ) → item < length script → line_at (script ++ lines) item ≡ line_at script item
line_same script lines item within = get_or_append_left script lines idle_line item within

-- the part after a move
part_after_same : (lines : List Line) (part : ActorPart) (move : Move) (outcome : Option Outcome) → part.item < length part.script → part_after (extended lines part) move outcome ≡ extended lines (part_after part move outcome)
unfolding part_after
part_after_same lines part move None within = refl
part_after_same lines part move (Some outcome) within =
    ap (λ (line : Line). let next = position_after line (record { item = part.item; attempt = part.attempt }) outcome in
    record part { script = part.script ++ lines; item = next.item; attempt = next.attempt; deeds = []; standing = nothing_taken; last = last_after part.last outcome })
    (line_same part.script lines part.item within)

-- a step of the part itself
step_same : (lines : List Line) (frames : ℕ) (guests : List GuestSpec) (part : ActorPart) (view : View) → part.item < length part.script
    → step_of frames guests (extended lines part) view ≡ record (step_of frames guests part view) { part = extended lines (step_of frames guests part view).part }
step_same lines frames guests part view within =
    let item = (line_at part.script part.item).item in
    let move = item_move frames guests view part part.role item in
    let moves : item_move frames guests view (extended lines part) part.role (line_at (part.script ++ lines) part.item).item ≡ move =
    ap (λ (line : Line). item_move frames guests view (extended lines part) part.role line.item) (line_same part.script lines part.item within)
    ∙ move_same lines frames guests view part part.role item in
    ap (stepped (extended lines part)) moves
    ∙ ap (λ (p : ActorPart). record (stepped part move) { part = p }) (part_after_same lines part move move.outcome within)

with_parts : State → Stepped → List ActorPart → State
with_parts m step parts = record m { contents = step.contents; actors = parts }

lengths_same : (m : State) (actor : ℕ) (lines : List Line) → length (with_lines actor lines m).actors ≡ length m.actors
unfolding with_lines
lengths_same m actor lines = length-set m.actors (actor - 1) (extended lines (part_of m actor))

commutes_here : (m : State) (actor other : ℕ) (lines : List Line) → IsUnfinished m other → other - 1 ≡ actor - 1 → Commutes actor lines m other
unfolding after event_of with_lines with_parts
commutes_here m actor other lines is same =
    let u = unfinished_at m other is in
    let part = part_of m other in
    let k = other - 1 in
    let step = step_of m.frames m.guests part (view_of m) in
    let new : Stepped = record step { part = extended lines step.part } in
    let here = part_here m actor other lines same u.within in
    let steps : step_of m.frames m.guests (part_of (with_lines actor lines m) other) (view_of (with_lines actor lines m)) ≡ new =
    (λ i. step_of m.frames m.guests (here i) (view_same m actor lines i)) ∙ step_same lines m.frames m.guests part (view_of m) u.has_line in
    let x : ActorPart = extended lines (part_of m actor) in
    let first : set (set m.actors (actor - 1) x) k new.part ≡ set m.actors k new.part =
    ap (λ (j : ℕ). set (set m.actors j x) k new.part) (sym same) ∙ set_set m.actors k x new.part in
    let there = get_or-set_same m.actors k step.part idle_part u.within in
    let second : set (set m.actors k step.part) (actor - 1) (extended lines (get_or (set m.actors k step.part) (actor - 1) idle_part)) ≡ set m.actors k new.part =
    ap (λ (j : ℕ). set (set m.actors k step.part) j (extended lines (get_or (set m.actors k step.part) j idle_part))) (sym same)
    ∙ ap (λ (p : ActorPart). set (set m.actors k step.part) k (extended lines p)) there
    ∙ set_set m.actors k step.part new.part in
    record {
      unfinished = unfinished_from (with_lines actor lines m) other (record {
        numbered = u.numbered;
        within = let same_length = lengths_same m actor lines in let within = u.within in omega arith;
        has_line = subst (λ (p : ActorPart). p.item < length p.script) (sym here) (let has = u.has_line in omega (arith, length-append part.script lines));
      });
      event = ap (λ (s : Stepped). s.event) steps;
      after_is = (λ i. with_parts m (steps i) (set (set m.actors (actor - 1) x) k (steps i).part)) ∙ ap (with_parts m step) (first ∙ sym second);
    }

commutes_there : (m : State) (actor other : ℕ) (lines : List Line) → IsUnfinished m other → other - 1 ≢ actor - 1 → Commutes actor lines m other
unfolding after event_of with_lines with_parts
commutes_there m actor other lines is apart =
    let u = unfinished_at m other is in
    let part = part_of m other in
    let k = other - 1 in
    let step = step_of m.frames m.guests part (view_of m) in
    let there = part_there m actor other lines apart in
    let steps : step_of m.frames m.guests (part_of (with_lines actor lines m) other) (view_of (with_lines actor lines m)) ≡ step =
    λ i. step_of m.frames m.guests (there i) (view_same m actor lines i) in
    let x : ActorPart = extended lines (part_of m actor) in
    let old : get_or (set m.actors k step.part) (actor - 1) idle_part ≡ part_of m actor =
    get_or-set_other m.actors k (actor - 1) step.part idle_part (λ same. apart (sym same)) in
    let both : set (set m.actors (actor - 1) x) k step.part ≡ set (set m.actors k step.part) (actor - 1) (extended lines (get_or (set m.actors k step.part) (actor - 1) idle_part)) =
    set_apart m.actors (actor - 1) k x step.part (λ same. apart (sym same))
    ∙ ap (λ (p : ActorPart). set (set m.actors k step.part) (actor - 1) (extended lines p)) (sym old) in
    record {
      unfinished = unfinished_from (with_lines actor lines m) other (record {
        numbered = u.numbered;
        within = let same_length = lengths_same m actor lines in let within = u.within in omega arith;
        has_line = subst (λ (p : ActorPart). p.item < length p.script) (sym there) u.has_line;
      });
      event = ap (λ (s : Stepped). s.event) steps;
      after_is = (λ i. with_parts m (steps i) (set (set m.actors (actor - 1) x) k (steps i).part)) ∙ ap (with_parts m step) both;
    }

pub commutes : (m : State) (actor other : ℕ) (lines : List Line) → IsUnfinished m other → Commutes actor lines m other
commutes m actor other lines is =
    ⊎_elim (λ (same : other - 1 ≡ actor - 1). commutes_here m actor other lines is same) (λ (apart : other - 1 ≡ actor - 1 → ⊥). commutes_there m actor other lines is apart) (cases_eq (other - 1) (actor - 1))

-- so a whole schedule
pub extended_run : (m : State) (actor : ℕ) (lines : List Line) (schedule : List ℕ) → IsDefinedFrom m schedule → KeepsRun actor lines m schedule
unfolding run_from state_from IsDefinedFrom
extended_run m actor lines [] defined = record { defined = tt; run = refl; state = refl }
extended_run m actor lines (other ∷ others) defined =
    let first = commutes m actor other lines defined.0 in
    let rest = extended_run (after m other) actor lines others defined.1 in
    record {
      defined = (first.unfinished, subst (λ (k : State). IsDefinedFrom k others) (sym first.after_is) rest.defined);
      run = (λ i. (other, first.event i) ∷ run_from (first.after_is i) others) ∙ ap (λ (l : List (ℕ × Event)). (other, event_of m other) ∷ l) rest.run;
      state = ap (λ (k : State). state_from k others) first.after_is ∙ rest.state;
    }
