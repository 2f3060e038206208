-- A duel: what its two actors see, and which answers are theirs. This project's own.
use Rattle.std.specs.Prelude.{◌≡◌, ℕ, ◌+◌, ◌-◌, ◌*◌, ◌%◌, ◌^◌, ◌<◌, ◌≤◌, nat_lt, ◌==◌, Bool, true, false, ◌&&◌, ◌||◌, if◌then◌else◌, List, [], length, Option, Some, None}
use Rattle.std.specs.List.{AllByRecursion}
use Rattle.snp_model.specs.declared.event.Deed.{Deed}
use Rattle.snp_model.specs.declared.event.Deed.TheVariants as deeds
use Rattle.snp_model.specs.declared.event.Event.{Event}
use Rattle.snp_model.specs.declared.event.Outcome.{Outcome}
use Rattle.snp_model.specs.declared.item.Item.{Item}
use Rattle.snp_model.specs.declared.scenario.Role.{Role}
use Rattle.snp_model.specs.declared.scenario.Role.TheVariants.{Host, Firmware}
use Rattle.snp_model.specs.declared.scenario.Scenario.{Scenario}
use Rattle.snp_model.specs.Bounds.{IsItemOf}
use Rattle.growing_runs.specs.declared.sight.Duel.{Duel}
use Rattle.growing_runs.specs.declared.sight.Sight.{Sight}
use Rattle.growing_runs.specs.Drives.{Driven, Places, Rules, world}
use Rattle.growing_runs.specs.Plain.{IsPlain}
use Rattle.growing_runs.specs.Extending.{actor_of}

-- a sight in range
pub record IsSight (sight : Sight) : Type 0 where
  pub whole : sight.frames % 512 ≡ 0
  pub some : 512 ≤ sight.frames
  pub most : sight.frames ≤ 8192
  pub frame : sight.frame < sight.frames
  pub gpn : sight.gpn < 2 ^ 36

-- whose sight it is
abbrev pub role_of : Bool → Role
role_of true = Firmware
role_of false = Host

-- an answer in range
pub record IsAnswer (sight : Sight) (item : Item) : Type 0 where
  pub plain : IsPlain item
  pub fits : IsItemOf sight.frames (role_of sight.firmware) item

-- whether one of the two has an answer left
abbrev pub has_answer : Duel → ℕ → Bool
has_answer duel actor = (actor == duel.host && nat_lt duel.by_host duel.rounds) || (actor == duel.firmware && nat_lt duel.by_firmware duel.rounds)

-- how many are left
abbrev pub answers_left : Duel → ℕ
answers_left duel = (duel.rounds - duel.by_host) + (duel.rounds - duel.by_firmware)

-- what one of the two sees
abbrev pub sight_of : Duel → ℕ → Sight
sight_of duel actor =
    if actor == duel.firmware
    then record { round = duel.by_firmware; firmware = true; frames = duel.frames; gpn = duel.gpn; frame = duel.frame; last = duel.last_firmware }
    else record { round = duel.by_host; firmware = false; frames = duel.frames; gpn = duel.gpn; frame = duel.frame; last = duel.last_host }

-- after an answer of one of the two
abbrev pub counted : Duel → ℕ → Duel
counted duel actor =
    if actor == duel.firmware then record duel { by_firmware = duel.by_firmware + 1 } else record duel { by_host = duel.by_host + 1 }

-- after a deed: an access is the last one
unfoldable pub with_deed : Deed → Duel → Duel
with_deed (deeds.Access gpn index frame private) duel = record duel { gpn = gpn; frame = frame }
with_deed deed duel = duel

-- after an outcome of an actor
unfoldable pub with_outcome : ℕ → Option Outcome → Duel → Duel
with_outcome actor None duel = duel
with_outcome actor (Some outcome) duel =
    if actor == duel.firmware then record duel { last_firmware = Some outcome } else if actor == duel.host then record duel { last_host = Some outcome } else duel

-- after an event
abbrev pub seen : ℕ → Event → Duel → Duel
seen actor event duel = with_outcome actor event.outcome (with_deed event.deed duel)

-- an actor with this role, whose script has no skip
pub record TakesPart (c : Scenario) (actor : ℕ) (role : Role) : Type 0 where
  pub some : 0 < actor
  pub there : actor ≤ length c.actors
  pub role_is : (actor_of c actor).role ≡ role
  pub plain : AllByRecursion (λ line. IsPlain line.item) (actor_of c actor).script

-- the two are of this scenario
pub record IsDuelOf (duel : Duel) (c : Scenario) : Type 0 where
  pub frames : duel.frames ≡ 512 * c.regions
  pub regions_some : 0 < c.regions
  pub regions_most : c.regions ≤ 16
  pub frame : duel.frame < duel.frames
  pub gpn : duel.gpn < 2 ^ 36
  pub host : TakesPart c duel.host Host
  pub firmware : TakesPart c duel.firmware Firmware

-- how far a duel has come at its beginning
abbrev pub first_duel : ℕ → ℕ → ℕ → ℕ → Duel
first_duel frames host firmware rounds =
    record { frames = frames; host = host; firmware = firmware; rounds = rounds; by_host = 0; by_firmware = 0; gpn = 0; frame = 0; last_host = None; last_firmware = None }

-- the two are answered by what may answer their sights
abbrev pub duel_rules : (Sight → Item → Type 0) → Rules Duel
duel_rules may = record {
  asks = has_answer;
  gives = λ duel actor item new. may (sight_of duel actor) item × IsAnswer (sight_of duel actor) item × (new ≡ counted duel actor);
  sees = λ duel actor item event new. new ≡ seen actor event duel;
}

-- a duel of a scenario leaves it with the answers, its events, and what the places come from
abbrev pub DuelRun : (Sight → Item → Type 0) → Places → Scenario → ℕ → ℕ → ℕ → List ℕ → Scenario → List (ℕ × Event) → List ℕ → Type 0
DuelRun may places c host firmware rounds turns left list later =
    (last : Duel) × Driven (duel_rules may) places (world c [] (first_duel (512 * c.regions) host firmware rounds) turns) (world left list last later)
