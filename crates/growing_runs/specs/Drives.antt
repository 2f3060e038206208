-- Runs whose scripts grow: while an actor is live, a picked one makes an event, and gets an answer before it, if it is finished. This project's own.
use Rattle.std.specs.Prelude.{◌≡◌, ℕ, ◌+◌, ◌≤◌, ◌<◌, ◌^◌, ◌⊎◌, nat_lt, Bool, ◌||◌, if◌then◌else◌, List, [], ◌∷◌, ◌++◌, length, slice_get, Some}
use Rattle.std.specs.List.{AllByRecursion, FoldsTo}
use Rattle.snp_model.specs.declared.event.Deed.{Deed}
use Rattle.snp_model.specs.declared.event.Deed.TheVariants as deeds
use Rattle.snp_model.specs.declared.event.Event.{Event}
use Rattle.snp_model.specs.declared.item.Item.{Item}
use Rattle.snp_model.specs.declared.scenario.Scenario.{Scenario}
use Rattle.snp_model.specs.Attempts.{attempts_of}
use Rattle.snp_model.specs.Bounds.{IsItemOf}
use Rattle.snp_model.specs.Journals.{IsRun, state_at}
use Rattle.snp_model.specs.ScenarioLines.{frames_of}
use Rattle.snp_model.specs.State.{ActorPart, State, IsUnfinished}
use Rattle.snp_model.specs.Step.{event_of, line_at}
use Rattle.growing_runs.specs.Extending.{actor_of, appended}
use Rattle.growing_runs.specs.Plain.{IsPlain}

-- an access is at a frame of memory and at a guest page number
abbrev pub IsDeedInside : ℕ → Deed → Type 0
IsDeedInside frames (deeds.Access gpn index frame private) = (gpn < 2 ^ 36) × (frame < frames)
IsDeedInside frames deed = Unit {0}

-- a script may go on with such an item
pub record MayTake (c : Scenario) (actor : ℕ) (item : Item) : Type 0 where
  pub some : 0 < actor
  pub there : actor ≤ length c.actors
  pub script : AllByRecursion (λ line. IsPlain line.item) (actor_of c actor).script
  pub plain : IsPlain item
  pub fits : IsItemOf (frames_of c) (actor_of c actor).role item

-- who answers: for whom, with what, and what it makes of an event at an item
pub record Rules (A : Type 0) : Type 1 where
  pub asks : A → ℕ → Bool
  pub gives : A → ℕ → Item → A → Type 0
  pub sees : A → ℕ → Item → Event → A → Type 0

-- where a number below a count comes from
pub record Places : Type 0 where
  pub place : List ℕ → ℕ → ℕ
  pub later : List ℕ → ℕ → List ℕ

-- a scenario with its run so far, who answers, and what the places come from
pub record World (A : Type 0) : Type 0 where
  pub scenario : Scenario
  pub list : List (ℕ × Event)
  pub asker : A
  pub turns : List ℕ

abbrev pub world_state : {A : Type 0} → World A → State
world_state w = state_at w.scenario w.list

-- the live ones among these actors, upwards, where the first has this number: who isn't finished, or gets an answer
unfoldable pub live_from : (ℕ → Bool) → ℕ → List ActorPart → List ℕ
live_from asks first [] = []
live_from asks first (part ∷ parts) =
    if nat_lt part.item (length part.script) || asks first then first ∷ live_from asks (first + 1) parts else live_from asks (first + 1) parts

abbrev pub live : {A : Type 0} → (A → ℕ → Bool) → World A → List ℕ
live asks w = live_from (asks w.asker) 1 (world_state w).actors

-- an actor that is finished gets an answer
pub record Answered {A : Type 0} (rules : Rules A) (w : World A) (actor : ℕ) (v : World A) : Type 0 where
  pub finished : IsUnfinished (world_state w) actor → ⊥
  pub item : Item
  pub asker : A
  pub gives : rules.gives w.asker actor item asker
  pub becomes : v ≡ record { scenario = appended actor item w.scenario; list = w.list; asker = asker; turns = w.turns }

-- one that isn't needs none
pub record Unasked {A : Type 0} (w : World A) (actor : ℕ) (v : World A) : Type 0 where
  pub unfinished : IsUnfinished (world_state w) actor
  pub becomes : v ≡ w

-- then it makes one event, which is seen
pub record Acted {A : Type 0} (rules : Rules A) (w : World A) (actor : ℕ) (v : World A) : Type 0 where
  pub event : Event
  pub asker : A
  pub is : event ≡ event_of (world_state w) actor
  pub sees : rules.sees w.asker actor (line_at (actor_of w.scenario actor).script event.item).item event asker
  pub becomes : v ≡ record { scenario = w.scenario; list = w.list ++ (actor, event) ∷ []; asker = asker; turns = w.turns }

-- one turn: of the live actor at the next place
pub record Turned {A : Type 0} (rules : Rules A) (places : Places) (w : World A) (actor : ℕ) (v : World A) : Type 0 where
  pub picked : slice_get (live rules.asks w) (places.place w.turns (length (live rules.asks w))) ≡ Some actor
  pub middle : World A
  pub asked : Answered rules (record w { turns = places.later w.turns (length (live rules.asks w)) }) actor middle ⊎ Unasked (record w { turns = places.later w.turns (length (live rules.asks w)) }) actor middle
  pub acted : Acted rules middle actor v

-- turns are taken until no actor is live
pub record Driven {A : Type 0} (rules : Rules A) (places : Places) (w v : World A) : Type 0 where
  pub actors : List ℕ
  pub turns : FoldsTo (Turned rules places) w actors v
  pub ends : live rules.asks v ≡ []

-- a world of these parts
abbrev pub world : {A : Type 0} → Scenario → List (ℕ × Event) → A → List ℕ → World A
world scenario list asker turns = record { scenario = scenario; list = list; asker = asker; turns = turns }

-- whether an actor is live, by its part
abbrev pub is_live : (ℕ → Bool) → ℕ → ActorPart → Bool
is_live asks actor part = nat_lt part.item (length part.script) || asks actor

-- what a run keeps that is driven: there is room for all answers that are left, and who answers knows the scenario
pub record IsDriven {A : Type 0} (Suits : A → Scenario → Type 0) (left : A → ℕ) (scenario : Scenario) (list : List (ℕ × Event)) (asker : A) (spare : ℕ) : Type 0 where
  pub run : IsRun scenario list
  pub suits : Suits asker scenario
  pub room : left asker ≤ spare

-- attempts that were made or may still be answered
abbrev pub attempts_with : {A : Type 0} → (A → ℕ) → Scenario → A → ℕ
attempts_with left scenario asker = attempts_of scenario + left asker

-- turns were taken
pub record DrivesOn {A : Type 0} (rules : Rules A) (places : Places) (w v : World A) : Type 0 where
  pub actors : List ℕ
  pub turns : FoldsTo (Turned rules places) w actors v

-- a world where another who answers stands for the one
abbrev pub seen_as : {A B : Type 0} → (A → B) → World A → World B
seen_as f w = record { scenario = w.scenario; list = w.list; asker = f w.asker; turns = w.turns }

-- one who answers stands for another, where this holds of it
pub record Simulates {A B : Type 0} (rules : Rules A) (others : Rules B) (P : A → Type 0) (f : A → B) : Type 0 where
  pub asks : (a : A) → P a → rules.asks a ≡ others.asks (f a)
  pub gives : (a : A) (actor : ℕ) (item : Item) (b : A) → P a → rules.gives a actor item b → P b × others.gives (f a) actor item (f b)
  pub sees : (a : A) (actor : ℕ) (item : Item) (event : Event) (b : A) → P a → rules.sees a actor item event b → P b × others.sees (f a) actor item event (f b)
