-- Journals that are runs: the empty one, one more event, and how many events there are.
use Rattle.std.proofs.Common.{◌≡◌, ℕ, zero, suc, ◌^◌, slice_get, Some, ◌*◌, ◌<◌, ◌≤◌, List, [], ◌∷◌, ◌++◌, length, sym, ap, ◌∙◌, subst, arith}
use Rattle.std.proofs.lemmas.List.{length-map, map-append}
use Rattle.snp_model.specs.declared.event.Event.{Event}
use Rattle.snp_model.specs.declared.item.Line.{Line}
use Rattle.snp_model.specs.declared.scenario.Actor.{Actor}
use Rattle.snp_model.specs.declared.scenario.Scenario.{Scenario}
use Rattle.snp_model.specs.Attempts.{actors_attempts, attempts_of, script_attempts}
use Rattle.snp_model.specs.Journal.{actors_of}
use Rattle.snp_model.specs.Journals.{IsRun, state_at}
use Rattle.snp_model.specs.Opening.{opening, opening_part}
use Rattle.snp_model.specs.Reading.{Valid}
use Rattle.snp_model.specs.Run.{IsDefined, run_of, state_from}
use Rattle.snp_model.specs.State.{State, IsUnfinished}
use Rattle.snp_model.specs.Step.{event_of, after}
use Rattle.snp_model.proofs.SoundLaws.{attempts_few, valid_is_sound}
use Rattle.run_laws.proofs.RoomLaws.{run_has_room, run_length}
use Rattle.run_laws.proofs.RunLaws.{run_none, state_none, defined_none, run_push, state_push, defined_push, was_unfinished, was_unfinished_before, unfinished_at}

-- whose events these are, with one more and in number
actors_push : (entries : List (ℕ × Event)) (actor : ℕ) (event : Event) → actors_of (entries ++ (actor, event) ∷ []) ≡ actors_of entries ++ actor ∷ []
unfolding actors_of
actors_push entries actor event = map-append (λ (entry : ℕ × Event). entry.0) entries ((actor, event) ∷ [])

actors_length : (entries : List (ℕ × Event)) → length (actors_of entries) ≡ length entries
unfolding actors_of
actors_length entries = length-map entries (λ (entry : ℕ × Event). entry.0)

-- no event yet
pub is_run_none : (c : Scenario) → IsRun c []
unfolding actors_of
is_run_none c = record { defined = defined_none (opening c); events = sym (run_none (opening c)) }

pub state_at_none : (c : Scenario) → state_at c [] ≡ opening c
unfolding actors_of
state_at_none c = state_none (opening c)

-- one more event
pub state_at_push : (c : Scenario) (entries : List (ℕ × Event)) (actor : ℕ) (event : Event) → state_at c (entries ++ (actor, event) ∷ []) ≡ after (state_at c entries) actor
state_at_push c entries actor event =
    ap (λ (s : List ℕ). state_from (opening c) s) (actors_push entries actor event) ∙ state_push (opening c) (actors_of entries) actor

pub is_run_push : (c : Scenario) (entries : List (ℕ × Event)) (actor : ℕ) (event : Event) → IsRun c entries → IsUnfinished (state_at c entries) actor → event ≡ event_of (state_at c entries) actor → IsRun c (entries ++ (actor, event) ∷ [])
is_run_push c entries actor event run unfinished is =
    let spelled = actors_push entries actor event in
    record {
      defined = subst (λ (s : List ℕ). IsDefined c s) (sym spelled) (defined_push (opening c) (actors_of entries) actor run.defined unfinished);
      events =
          ap (λ (l : List (ℕ × Event)). l ++ (actor, event) ∷ []) run.events
          ∙ ap (λ (e : Event). run_of c (actors_of entries) ++ (actor, e) ∷ []) is
          ∙ sym (run_push (opening c) (actors_of entries) actor)
          ∙ ap (λ (s : List ℕ). run_of c s) (sym spelled);
    }

-- an unfinished actor's event has room in 32 events for each attempt
pub is_run_room : (c : Scenario) (entries : List (ℕ × Event)) (actor : ℕ) → IsRun c entries → IsUnfinished (state_at c entries) actor → length entries < 32 * attempts_of c
is_run_room c entries actor run unfinished =
    let room = run_has_room c (actors_of entries) actor run.defined unfinished in
    omega (arith, actors_length entries)

pub is_run_length : (c : Scenario) (entries : List (ℕ × Event)) → IsRun c entries → length entries ≤ 32 * attempts_of c
is_run_length c entries run =
    let most = run_length c (actors_of entries) run.defined in
    omega (arith, actors_length entries)

-- who is unfinished was so before the last event
pub unfinished_earlier : (c : Scenario) (entries : List (ℕ × Event)) (actor : ℕ) (event : Event) (other : ℕ) → IsUnfinished (state_at c (entries ++ (actor, event) ∷ [])) other → IsUnfinished (state_at c entries) other
unfinished_earlier c entries actor event other u =
    was_unfinished (state_at c entries) actor other (subst (λ (m : State). IsUnfinished m other) (state_at_push c entries actor event) u)

-- and is one of the scenario's actors
pub unfinished_is_actor : (c : Scenario) (entries : List (ℕ × Event)) (actor : ℕ) → IsUnfinished (state_at c entries) actor → (0 < actor) × (actor ≤ length c.actors)
unfolding opening
unfinished_is_actor c entries actor u =
    let first = unfinished_at (opening c) actor (was_unfinished_before (opening c) (actors_of entries) actor u) in
    let numbered = first.numbered in
    let within = first.within in
    (numbered, omega (arith, length-map c.actors opening_part))

-- no script is long
length_script : (lines : List Line) → length lines ≤ script_attempts lines
unfolding script_attempts
length_script [] = omega arith
length_script (line ∷ lines) = omega (arith, length_script lines)

script_short : (actors : List Actor) (k : ℕ) (actor : Actor) → slice_get actors k ≡ Some actor → length actor.script ≤ actors_attempts actors
unfolding actors_attempts
script_short [] k actor h = absurd (cc)
script_short (first ∷ actors) zero actor h =
    let same : first ≡ actor = cc in
    omega (arith, length_script first.script, ap (λ (a : Actor). length a.script) same)
script_short (first ∷ actors) (suc k) actor h = omega (arith, script_short actors k actor h)

pub script_few : (c : Scenario) (k : ℕ) (actor : Actor) → Valid c → slice_get c.actors k ≡ Some actor → length actor.script < 2 ^ 32
unfolding attempts_of
script_few c k actor valid h = omega (arith, attempts_few c valid, script_short c.actors k actor h)

-- and no scenario has many actors
pub actors_few : (c : Scenario) → Valid c → length c.actors < 2 ^ 32
actors_few c valid =
    let most = (valid_is_sound c valid).actors_most in
    omega arith
