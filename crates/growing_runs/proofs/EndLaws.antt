-- A finished actor whose script has no skip stands at the end of its script, and goes on where the script does.
use Rattle.std.proofs.Common.{◌≡◌, ℕ, zero, suc, ◌-◌, ◌<◌, ◌≤◌, List, [], ◌∷◌, length, get_or, Option, Some, None, refl, sym, ap, ◌∙◌, subst, ⊎_elim, arith}
use Rattle.std.proofs.lemmas.Bool.{cond_both, cases_eq, cases_lt}
use Rattle.std.proofs.lemmas.List.{length-append, length-set}
use Rattle.snp_model.specs.declared.event.Event.{Event}
use Rattle.snp_model.specs.declared.event.Outcome.{Outcome}
use Rattle.snp_model.specs.declared.item.Item.{Item}
use Rattle.snp_model.specs.declared.item.Line.{Line}
use Rattle.snp_model.specs.declared.scenario.Scenario.{Scenario}
use Rattle.snp_model.specs.Journal.{actors_of}
use Rattle.snp_model.specs.Journals.{IsRun, state_at}
use Rattle.snp_model.specs.Locks.{view_of}
use Rattle.snp_model.specs.Moves.{Move}
use Rattle.snp_model.specs.Opening.{opening}
use Rattle.snp_model.specs.Run.{IsDefinedFrom, state_from}
use Rattle.snp_model.specs.State.{ActorPart, State, idle_part, part_of, IsUnfinished}
use Rattle.snp_model.specs.Step.{Position, after, item_move, line_at, part_after, passed_over, position_after, tries_again}
use Rattle.run_laws.proofs.RunLaws.{after_keeps, after_other, after_part, unfinished_at, unfinished_from}
use Rattle.growing_runs.specs.Plain.{AreAllPlain, IsPlain, PassesNone}
use Rattle.growing_runs.specs.Extending.{actor_of, appended, extended, once, with_lines}
use Rattle.growing_runs.proofs.GrownRuns.{actors_length, script_at, state_with}
use Rattle.growing_runs.proofs.ExtendingLaws.{part_here}
use Rattle.growing_runs.proofs.PlainLaws.{plain_passes}

plain_at : (script : List Line) (k : ℕ) → AreAllPlain script → k < length script → IsPlain (line_at script k).item
plain_at [] k plain within = absurd (omega arith)
plain_at (line ∷ script) zero plain within = plain.0
plain_at (line ∷ script) (suc k) plain within = plain_at script k plain.1 (omega arith)

position_within : (line : Line) (at : Position) (outcome : Outcome) (most : ℕ) → at.item < most → passed_over outcome ≡ 0 → (position_after line at outcome).item ≤ most
unfolding position_after
position_within line at outcome most within none = cond_both (tries_again line at.attempt outcome) _ _ (λ (p : Position). p.item ≤ most) (λ _. omega arith) (λ _. omega (arith, none))

part_within : (part : ActorPart) (move : Move) (outcome : Option Outcome) → part.item < length part.script → PassesNone outcome → (part_after part move outcome).item ≤ length part.script
unfolding part_after
part_within part move None within none = omega arith
part_within part move (Some outcome) within none = position_within (line_at part.script part.item) (record { item = part.item; attempt = part.attempt }) outcome (length part.script) within none

abbrev IsWithin : State → ℕ → Type 0
IsWithin m actor = (part_of m actor).item ≤ length (part_of m actor).script

after_within : (m : State) (actor other : ℕ) → IsUnfinished m actor → AreAllPlain (part_of m other).script → IsWithin m other → IsWithin (after m actor) other
after_within m actor other is plain within =
    let u = unfinished_at m actor is in
    let keeps = after_keeps m actor other in
    let lengths = ap length keeps.script in
    ⊎_elim
    (λ (same : other - 1 ≡ actor - 1).
    let part = part_of m actor in
    let parts : part_of m other ≡ part = ap (λ (k : ℕ). get_or m.actors k idle_part) same in
    let move = item_move m.frames m.guests (view_of m) part part.role (line_at part.script part.item).item in
    let all : AreAllPlain part.script = subst (λ (p : ActorPart). AreAllPlain p.script) parts plain in
    let none = plain_passes m.frames m.guests (view_of m) part part.role (line_at part.script part.item).item (plain_at part.script part.item all u.has_line) in
    let less = part_within part move move.outcome u.has_line none in
    let new = ap (λ (p : ActorPart). p.item) (ap (λ (k : ℕ). get_or (after m actor).actors k idle_part) same ∙ after_part m actor u.within) in
    let old = ap (λ (p : ActorPart). length p.script) parts in
    omega arith)
    (λ (apart : other - 1 ≡ actor - 1 → ⊥). let new = ap (λ (p : ActorPart). p.item) (after_other m actor other apart) in omega arith)
    (cases_eq (other - 1) (actor - 1))

run_within : (m : State) (schedule : List ℕ) (other : ℕ) → IsDefinedFrom m schedule → AreAllPlain (part_of m other).script → IsWithin m other → IsWithin (state_from m schedule) other
unfolding state_from IsDefinedFrom
run_within m [] other defined plain within = within
run_within m (actor ∷ actors) other defined plain within =
    run_within (after m actor) actors other defined.1 (subst AreAllPlain (sym (after_keeps m actor other).script) plain) (after_within m actor other defined.0 plain within)

-- so it stands at the end of its script
pub at_end : (c : Scenario) (list : List (ℕ × Event)) (actor : ℕ) → IsRun c list → AreAllPlain (actor_of c actor).script → (part_of (opening c) actor).item ≡ 0 → 0 < actor → actor ≤ length c.actors
    → (IsUnfinished (state_at c list) actor → ⊥) → (part_of (state_at c list) actor).item ≡ length (part_of (state_at c list) actor).script
unfolding state_from actors_of
at_end c list actor run plain opens some there finished =
    let m = state_at c list in
    let lengths = actors_length c list in
    let first : AreAllPlain (part_of (opening c) actor).script = subst AreAllPlain (sym (script_at c [] actor)) plain in
    let within = run_within (opening c) (actors_of list) actor run.defined first (omega arith) in
    ⊎_elim
    (λ (less : (part_of m actor).item < length (part_of m actor).script). absurd (finished (unfinished_from m actor (record { numbered = some; within = omega arith; has_line = less }))))
    (λ (past : length (part_of m actor).script ≤ (part_of m actor).item). omega arith)
    (cases_lt (part_of m actor).item (length (part_of m actor).script))

-- and has an item again once its script goes on
pub goes_on : (c : Scenario) (list : List (ℕ × Event)) (actor : ℕ) (item : Item) → IsRun c list → 0 < actor → actor ≤ length c.actors
    → (part_of (state_at c list) actor).item ≡ length (part_of (state_at c list) actor).script → IsUnfinished (state_at (appended actor item c) list) actor
unfolding with_lines
goes_on c list actor item run some there ends =
    let m = state_at c list in
    let lines : List Line = once item ∷ [] in
    let lengths = actors_length c list in
    let within : actor - 1 < length m.actors = omega arith in
    let here = part_here m actor actor lines refl within in
    let set_length = length-set m.actors (actor - 1) (extended lines (part_of m actor)) in
    subst (λ (k : State). IsUnfinished k actor) (sym (state_with c list actor lines run))
    (unfinished_from (with_lines actor lines m) actor (record {
      numbered = some;
      within = omega arith;
      has_line = subst (λ (p : ActorPart). p.item < length p.script) (sym here) (omega (arith, length-append (part_of m actor).script lines));
    }))
