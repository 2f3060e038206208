-- Drills: the run of a drawn scenario under a drawn schedule, and the six lines that tell of it (this project's own).
use Rattle.std.specs.Prelude.{◌≡◌, ℕ, ◌+◌, nat_lt, Bool, false, not, ◌&&◌, if◌then◌else◌, List, [], ◌∷◌, ◌++◌, length, slice_get, Option, Some, None, codes, decimal}
use Rattle.rand_pcg.specs.Lcg.{Lcg}
use Rattle.sha2.specs.Sha256.{sha256}
use Rattle.snp_model.specs.declared.event.Event.{Event}
use Rattle.snp_model.specs.declared.event.Outcome.{Outcome}
use Rattle.snp_model.specs.Ending.{report_of}
use Rattle.snp_model.specs.EventText.{hex_bytes}
use Rattle.snp_model.specs.Generated.{draw, drawn_scenario, generated, generator_of}
use Rattle.snp_model.specs.Opening.{opening}
use Rattle.snp_model.specs.Outcomes.{is_good, is_in_use}
use Rattle.snp_model.specs.Report.{line}
use Rattle.snp_model.specs.Run.{run_of}
use Rattle.snp_model.specs.State.{ActorPart, State}
use Rattle.snp_model.specs.Step.{after}

-- which of these actors aren't finished, upwards, where the first has this number
unfoldable pub unfinished_from : ℕ → List ActorPart → List ℕ
unfinished_from first [] = []
unfinished_from first (part ∷ parts) =
    if nat_lt part.item (length part.script) then first ∷ unfinished_from (first + 1) parts else unfinished_from (first + 1) parts

-- the actors of a state that aren't finished, upwards
abbrev pub unfinished : State → List ℕ
unfinished m = unfinished_from 1 m.actors

-- a schedule is what a generator picks from a state on: while actors aren't finished, the next one is that at the drawn place among
-- them, counted from 0
unfoldable pub IsPickedFrom : State → Lcg → List ℕ → Type 0
IsPickedFrom m g [] = unfinished m ≡ []
IsPickedFrom m g (actor ∷ actors) =
    (slice_get (unfinished m) (draw (length (unfinished m)) g).0 ≡ Some actor) × IsPickedFrom (after m actor) (draw (length (unfinished m)) g).1 actors

-- a schedule is that of a number's drill: the generator that has drawn the scenario goes on
abbrev pub IsPicked : ℕ → List ℕ → Type 0
IsPicked number schedule = IsPickedFrom (opening (generated number)) (drawn_scenario (generator_of number)).1 schedule

-- whether this is an outcome of which a test holds
abbrev pub is_some_where : (Outcome → Bool) → Option Outcome → Bool
is_some_where test None = false
is_some_where test (Some outcome) = test outcome

-- how many events have an outcome of which a test holds
unfoldable pub count_where : (Outcome → Bool) → List (ℕ × Event) → ℕ
count_where test [] = 0
count_where test (entry ∷ entries) = if is_some_where test entry.1.outcome then count_where test entries + 1 else count_where test entries

-- whether an outcome is neither good nor tells that something was in use
abbrev pub is_other : Outcome → Bool
is_other outcome = not (is_good outcome) && not (is_in_use outcome)

-- what is said of a run of this number, whose report is this text
unfoldable pub drill_lines : ℕ → List (ℕ × Event) → List ℕ → List ℕ
drill_lines number run report =
    line (codes "drill " ++ decimal number)
    ++ (line (codes "events " ++ decimal (length run))
    ++ (line (codes "good " ++ decimal (count_where is_good run))
    ++ (line (codes "inuse " ++ decimal (count_where is_in_use run))
    ++ (line (codes "bad " ++ decimal (count_where is_other run))
    ++ line (codes "report " ++ hex_bytes (sha256 report))))))

-- what is said of the drill of a number under a schedule; a drill has one alone
abbrev pub drill_text : ℕ → List ℕ → List ℕ
drill_text number schedule = drill_lines number (run_of (generated number) schedule) (report_of (generated number) schedule)
