-- In every run of a sound scenario each actor is ready for its next event.
use Rattle.std.proofs.Common.{◌≡◌, ℕ, zero, suc, ◌-◌, ◌*◌, ◌<◌, List, [], ◌∷◌, length, map, get_or, sym, subst, arith}
use Rattle.std.specs.List.{AllByRecursion}
use Rattle.std.proofs.lemmas.List.Elements.{All-set}
use Rattle.snp_model.specs.declared.item.Line.{Line}
use Rattle.snp_model.specs.declared.scenario.Actor.{Actor}
use Rattle.snp_model.specs.declared.scenario.GuestSpec.{GuestSpec}
use Rattle.snp_model.specs.declared.scenario.Role.{Role}
use Rattle.snp_model.specs.declared.scenario.Scenario.{Scenario}
use Rattle.snp_model.specs.Bounds.{IsRole, IsLineOf}
use Rattle.snp_model.specs.Locks.{view_of}
use Rattle.snp_model.specs.Opening.{opening, opening_part}
use Rattle.snp_model.specs.Run.{state_from, state_after, IsDefinedFrom, IsDefined}
use Rattle.snp_model.specs.Sound.{IsActor, IsSound}
use Rattle.snp_model.specs.State.{ActorPart, State, View, part_of, idle_part, IsUnfinished}
use Rattle.snp_model.specs.Step.{after, line_at, step_of}
use Rattle.run_laws.specs.Ready.{IsReady, AreReady}
use Rattle.run_laws.proofs.RoomLaws.{opening_part_bounded, step_bounded}
use Rattle.run_laws.proofs.RunLaws.{step_keeps, unfinished_at}

-- a line at a place of a script
pub line_is : (frames : ℕ) (role : Role) (script : List Line) → AllByRecursion (IsLineOf frames role) script → (k : ℕ) → k < length script → IsLineOf frames role (line_at script k)
line_is frames role [] all k within = absurd (omega arith)
line_is frames role (line ∷ lines) all zero within = all.0
line_is frames role (line ∷ lines) all (suc k) within = line_is frames role lines all.1 k (omega arith)

-- the line that a ready actor is at
pub ready_line : (frames : ℕ) (guests : List GuestSpec) (part : ActorPart) → IsReady frames guests part → part.item < length part.script → IsLineOf frames part.role (line_at part.script part.item)
ready_line frames guests part ready has = line_is frames part.role part.script ready.script part.item has

-- an actor's step leaves it ready
script_kept : (frames : ℕ) (role role' : Role) (script script' : List Line) → role' ≡ role → script' ≡ script → AllByRecursion (IsLineOf frames role) script → AllByRecursion (IsLineOf frames role') script'
script_kept frames role role' script script' same_role same_script all =
    subst (λ (r : Role). AllByRecursion (IsLineOf frames r) script') (sym same_role) (subst (AllByRecursion (IsLineOf frames role)) (sym same_script) all)

pub step_ready : (frames : ℕ) (guests : List GuestSpec) (part : ActorPart) (view : View) → IsReady frames guests part → part.item < length part.script → IsReady frames guests (step_of frames guests part view).part
step_ready frames guests part view ready has =
    let keeps = step_keeps frames guests part view in
    record {
      role = subst (IsRole frames (length guests)) (sym keeps.role) ready.role;
      script = script_kept frames part.role _ part.script _ keeps.role keeps.script ready.script;
      bounded = step_bounded frames guests part view ready.bounded has;
    }

pub after_ready : (m : State) (actor : ℕ) → AreReady m → IsUnfinished m actor → AreReady (after m actor)
unfolding after
after_ready m actor ready unfinished =
    let u = unfinished_at m actor unfinished in
    All-set (IsReady m.frames m.guests) m.actors (actor - 1) _ (step_ready m.frames m.guests (part_of m actor) (view_of m) (ready (actor - 1) idle_part u.within) u.has_line) ready

state_ready : (m : State) (s : List ℕ) → AreReady m → IsDefinedFrom m s → AreReady (state_from m s)
unfolding state_from IsDefinedFrom
state_ready m [] ready d = ready
state_ready m (a ∷ s) ready d = state_ready (after m a) s (after_ready m a ready d.0) d.1

-- at the opening
actors_ready : (frames : ℕ) (guests : List GuestSpec) (actors : List Actor) → AllByRecursion (IsActor frames (length guests)) actors
    → (k : ℕ) (d : ActorPart) → k < length (map opening_part actors) → IsReady frames guests (get_or (map opening_part actors) k d)
actors_ready frames guests [] all k d within = absurd (omega arith)
actors_ready frames guests (actor ∷ actors) all zero d within = record { role = all.0.role; script = all.0.script; bounded = opening_part_bounded frames actor }
actors_ready frames guests (actor ∷ actors) all (suc k) d within = actors_ready frames guests actors all.1 k d (omega arith)

pub opening_ready : (c : Scenario) → IsSound c → AreReady (opening c)
unfolding opening
opening_ready c sound = actors_ready (512 * c.regions) c.guests c.actors sound.actors

-- in every run
pub run_ready : (c : Scenario) (s : List ℕ) → IsSound c → IsDefined c s → AreReady (state_after c s)
run_ready c s sound d = state_ready (opening c) s (opening_ready c sound) d
