-- What a turn of a driven run leaves.
use Rattle.std.proofs.Common.{◌≡◌, ℕ, ◌+◌, ◌-◌, ◌*◌, ◌<◌, ◌≤◌, ◌⊎◌, List, [], ◌∷◌, ◌++◌, length, Some, slice_get, refl, sym, ap, ◌∙◌, subst, arith}
use Rattle.std.proofs.lemmas.Fn.{FoldsTo-push}
use Rattle.snp_model.specs.declared.event.Event.{Event}
use Rattle.snp_model.specs.declared.item.Item.{Item}
use Rattle.snp_model.specs.declared.item.Line.{Line}
use Rattle.snp_model.specs.declared.scenario.Scenario.{Scenario}
use Rattle.snp_model.specs.Journals.{IsRun, state_at}
use Rattle.snp_model.specs.State.{State, part_of, IsUnfinished}
use Rattle.snp_model.specs.Step.{event_of, line_at}
use Rattle.run_laws.proofs.JournalsLaws.{is_run_length, is_run_push}
use Rattle.run_laws.proofs.RunLaws.{unfinished_at}
use Rattle.growing_runs.specs.Extending.{actor_of, appended, once}
use Rattle.growing_runs.specs.Drives.{Answered, DrivesOn, IsDriven, Places, Rules, Turned, Unasked, World, attempts_with, live_from, world}
use Rattle.growing_runs.proofs.GrownRuns.{run_with, script_at}

-- the item of an event stands there
pub item_there : (c : Scenario) (list : List (ℕ × Event)) (actor : ℕ) → IsUnfinished (state_at c list) actor → (event_of (state_at c list) actor).item < length (actor_of c actor).script
unfolding event_of
item_there c list actor is = subst (λ (script : List Line). (part_of (state_at c list) actor).item < length script) (script_at c list actor) (unfinished_at (state_at c list) actor is).has_line

pub numbered : (m : State) (actor : ℕ) → IsUnfinished m actor → 0 < actor
numbered m actor is = is.0

-- one turn
pub turn_made : {A : Type 0} (rules : Rules A) (places : Places) (c c1 c2 : Scenario) (l l1 l2 : List (ℕ × Event)) (a a1 a2 : A) (t t2 : List ℕ) (count place actor : ℕ) (item : Item) (event : Event)
    → count ≡ length (live_from (rules.asks a) 1 (state_at c l).actors) → place ≡ places.place t count → t2 ≡ places.later t count
    → slice_get (live_from (rules.asks a) 1 (state_at c l).actors) place ≡ Some actor
    → Answered rules (world c l a t2) actor (world c1 l1 a1 t2) ⊎ Unasked (world c l a t2) actor (world c1 l1 a1 t2)
    → event ≡ event_of (state_at c1 l1) actor → l2 ≡ l1 ++ (actor, event) ∷ [] → c2 ≡ c1 → item ≡ (line_at (actor_of c2 actor).script event.item).item → rules.sees a1 actor item event a2
    → (n : ℕ) × Turned rules places (world c l a t) n (world c2 l2 a2 t2)
turn_made rules places c c1 c2 l l1 l2 a a1 a2 t t2 count place actor item event counted placed next named asked makes adds same read sees =
    let q : t2 ≡ places.later t (length (live_from (rules.asks a) 1 (state_at c l).actors)) = next ∙ ap (places.later t) counted in (
      actor,
      record {
        picked = subst (λ (n : ℕ). slice_get (live_from (rules.asks a) 1 (state_at c l).actors) n ≡ Some actor) (placed ∙ ap (places.place t) counted) named;
        middle = world c1 l1 a1 (places.later t (length (live_from (rules.asks a) 1 (state_at c l).actors)));
        asked = subst (λ (u : List ℕ). Answered rules (world c l a u) actor (world c1 l1 a1 u) ⊎ Unasked (world c l a u) actor (world c1 l1 a1 u)) q asked;
        acted = record {
          event = event;
          asker = a2;
          is = makes;
          sees = subst (λ (x : Item). rules.sees a1 actor x event a2) (read ∙ ap (λ (k : Scenario). (line_at (actor_of k actor).script event.item).item) same) sees;
          becomes = λ i. world (same i) (adds i) a2 (q i);
        };
      },
    )

-- it keeps what is kept
pub event_driven : {A : Type 0} (Suits : A → Scenario → Type 0) (left : A → ℕ) (c1 c2 : Scenario) (l1 l2 : List (ℕ × Event)) (a1 a2 : A) (spare1 spare2 actor : ℕ) (event : Event)
    → IsDriven Suits left c1 l1 a1 spare1 → IsUnfinished (state_at c1 l1) actor → event ≡ event_of (state_at c1 l1) actor → l2 ≡ l1 ++ (actor, event) ∷ [] → c2 ≡ c1 → spare2 ≡ spare1
    → Suits a2 c1 → left a2 ≤ left a1 → IsDriven Suits left c2 l2 a2 spare2
event_driven Suits left c1 c2 l1 l2 a1 a2 spare1 spare2 actor event driven is makes adds same room suits fewer =
    let more = driven.room in
    record {
      run = subst (λ (k : Scenario). IsRun k l2) (sym same) (subst (λ (l : List (ℕ × Event)). IsRun c1 l) (sym adds) (is_run_push c1 l1 actor event driven.run is makes));
      suits = subst (λ (k : Scenario). Suits a2 k) (sym same) suits;
      room = omega arith;
    }

pub answer_driven : {A : Type 0} (Suits : A → Scenario → Type 0) (left : A → ℕ) (c c1 : Scenario) (l l1 : List (ℕ × Event)) (a a1 : A) (spare spare1 actor : ℕ) (item : Item)
    → IsDriven Suits left c l a spare → c1 ≡ appended actor item c → l1 ≡ l → spare1 + 1 ≡ spare → Suits a1 (appended actor item c) → left a1 < left a → IsDriven Suits left c1 l1 a1 spare1
answer_driven Suits left c c1 l l1 a a1 spare spare1 actor item driven becomes same room suits fewer =
    let more = driven.room in
    record {
      run = subst (λ (k : Scenario). IsRun k l1) (sym becomes) (subst (λ (e : List (ℕ × Event)). IsRun (appended actor item c) e) (sym same) (run_with c l actor (once item ∷ []) driven.run));
      suits = subst (λ (k : Scenario). Suits a1 k) (sym becomes) suits;
      room = omega arith;
    }

-- no turn, and one more
pub drives_none : {A : Type 0} (rules : Rules A) (places : Places) (w : World A) → DrivesOn rules places w w
drives_none rules places w = record { actors = []; turns = refl }

pub drives_more : {A : Type 0} (rules : Rules A) (places : Places) (w u v : World A) → DrivesOn rules places w u → (actor : ℕ) × Turned rules places u actor v → DrivesOn rules places w v
drives_more rules places w u v on turn = record { actors = on.actors ++ turn.0 ∷ []; turns = FoldsTo-push (Turned rules places) w on.actors u turn.0 v on.turns turn.1 }

-- each turn leaves less to do
pub turn_ends : {A : Type 0} (left : A → ℕ) (c c1 : Scenario) (l l1 : List (ℕ × Event)) (a a1 : A) → IsRun c1 l1 → attempts_with left c1 a1 ≤ attempts_with left c a → length l1 ≡ length l + 1
    → 32 * attempts_with left c1 a1 - length l1 < 32 * attempts_with left c a - length l
turn_ends left c c1 l l1 a a1 run fewer longer =
    let most = is_run_length c1 l1 run in
    omega arith
