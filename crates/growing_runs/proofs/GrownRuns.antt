-- What a run is where a script of its scenario goes on: the same, from an opening with the further lines, to a state with them.
use Rattle.std.proofs.Common.{◌≡◌, ℕ, zero, suc, ◌+◌, ◌-◌, ◌<◌, ◌≤◌, List, [], ◌∷◌, ◌++◌, length, map, get_or, set, refl, sym, ap, ◌∙◌, subst, arith}
use Rattle.std.proofs.lemmas.List.{map-set, length-map}
use Rattle.std.proofs.Math.ListN.{get_or-map}
use Rattle.snp_model.specs.declared.event.Event.{Event}
use Rattle.snp_model.specs.declared.item.Item.{Item}
use Rattle.snp_model.specs.declared.item.Line.{Line}
use Rattle.snp_model.specs.declared.scenario.Actor.{Actor}
use Rattle.snp_model.specs.declared.scenario.Scenario.{Scenario}
use Rattle.snp_model.specs.Attempts.{actors_attempts, attempts_of, script_attempts}
use Rattle.snp_model.specs.Journal.{actors_of}
use Rattle.snp_model.specs.Journals.{IsRun, state_at}
use Rattle.snp_model.specs.Opening.{opening, opening_part}
use Rattle.snp_model.specs.Run.{IsDefinedFrom, run_from, state_from}
use Rattle.snp_model.specs.State.{ActorPart, State, idle_part, part_of}
use Rattle.snp_model.specs.Step.{after}
use Rattle.run_laws.proofs.RunLaws.{after_length, state_keeps}
use Rattle.growing_runs.specs.Extending.{actor_of, appended, extended, idle_actor, lengthened, once, with_lines, with_script}
use Rattle.growing_runs.proofs.ExtendingLaws.{extended_run}

-- the opening of a scenario whose script goes on
pub opening_with : (c : Scenario) (actor : ℕ) (lines : List Line) → opening (with_script actor lines c) ≡ with_lines actor lines (opening c)
unfolding opening with_script with_lines idle_part idle_actor
opening_with c actor lines =
    ap (λ (parts : List ActorPart). record (opening c) { actors = parts })
    (map-set opening_part c.actors (actor - 1) (lengthened lines (actor_of c actor))
    ∙ ap (λ (p : ActorPart). set (map opening_part c.actors) (actor - 1) (extended lines p)) (sym (get_or-map opening_part c.actors (actor - 1) idle_actor)))

-- the state after a run, and the run, of one whose script goes on
pub state_with : (c : Scenario) (list : List (ℕ × Event)) (actor : ℕ) (lines : List Line) → IsRun c list → state_at (with_script actor lines c) list ≡ with_lines actor lines (state_at c list)
state_with c list actor lines run =
    ap (λ (m : State). state_from m (actors_of list)) (opening_with c actor lines) ∙ (extended_run (opening c) actor lines (actors_of list) run.defined).state

pub run_with : (c : Scenario) (list : List (ℕ × Event)) (actor : ℕ) (lines : List Line) → IsRun c list → IsRun (with_script actor lines c) list
run_with c list actor lines run =
    let on = extended_run (opening c) actor lines (actors_of list) run.defined in
    let opens = opening_with c actor lines in
    record {
      defined = subst (λ (m : State). IsDefinedFrom m (actors_of list)) (sym opens) on.defined;
      events = run.events ∙ sym on.run ∙ ap (λ (m : State). run_from m (actors_of list)) (sym opens);
    }

-- how many attempts it has
script_attempts_both : (xs ys : List Line) → script_attempts (xs ++ ys) ≡ script_attempts xs + script_attempts ys
unfolding script_attempts
script_attempts_both [] ys = omega arith
script_attempts_both (x ∷ xs) ys = let rest = script_attempts_both xs ys in omega arith

attempts_set : (actors : List Actor) (k : ℕ) (lines : List Line) → k < length actors → actors_attempts (set actors k (lengthened lines (get_or actors k idle_actor))) ≡ actors_attempts actors + script_attempts lines
unfolding actors_attempts
attempts_set [] k lines within = absurd (omega arith)
attempts_set (a ∷ actors) zero lines within = let both = script_attempts_both a.script lines in omega arith
attempts_set (a ∷ actors) (suc k) lines within = let rest = attempts_set actors k lines (omega arith) in omega arith

pub attempts_more : (c : Scenario) (actor : ℕ) (item : Item) → 0 < actor → actor ≤ length c.actors → attempts_of (appended actor item c) ≡ attempts_of c + 1
unfolding attempts_of with_script script_attempts
attempts_more c actor item some there = attempts_set c.actors (actor - 1) (once item ∷ []) (omega arith)

-- the script of an actor in a run
pub script_at : (c : Scenario) (list : List (ℕ × Event)) (actor : ℕ) → (part_of (state_at c list) actor).script ≡ (actor_of c actor).script
unfolding opening idle_part idle_actor
script_at c list actor =
    (state_keeps (opening c) (actors_of list) actor).script ∙ ap (λ (p : ActorPart). p.script) (get_or-map opening_part c.actors (actor - 1) idle_actor)

-- a run keeps how many actors there are
state_length : (m : State) (s : List ℕ) → length (state_from m s).actors ≡ length m.actors
unfolding state_from
state_length m [] = refl
state_length m (a ∷ s) = state_length (after m a) s ∙ after_length m a

pub actors_length : (c : Scenario) (list : List (ℕ × Event)) → length (state_at c list).actors ≡ length c.actors
unfolding opening
actors_length c list = state_length (opening c) (actors_of list) ∙ length-map c.actors opening_part
