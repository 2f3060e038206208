-- The turns that the order lines of a report say, and texts with these lines. This project's own.
use Rattle.std.specs.Prelude.{◌≡◌, ℕ, List, [], ◌∷◌, ◌++◌, codes}
use Rattle.snp_model.specs.declared.scenario.Scenario.{Scenario}
use Rattle.snp_model.specs.declared.scenario.Turn.{Turn}
use Rattle.snp_model.specs.Lines.{parts_at}
use Rattle.snp_model.specs.Reading.{nothing, reading, Makes}
use Rattle.snp_model.specs.Report.{order_lines, runs_of}

-- runs as turns
unfoldable pub turns_in : List (ℕ × ℕ) → List Turn
turns_in [] = []
turns_in (run ∷ runs) = record { actor = run.0; count = run.1 } ∷ turns_in runs

-- the turns of a schedule: its runs of the same actor, each as long as possible
abbrev pub turns_of : List ℕ → List Turn
turns_of schedule = turns_in (runs_of schedule)

-- a scenario with the turns of a schedule in the place of its own
abbrev pub ordered : Scenario → List ℕ → Scenario
ordered c schedule = record c { order = turns_of schedule }

-- the front of a text, of whole lines, which fit in turn and make this scenario, and of which none is `end`
pub record Opens (front : List ℕ) (c : Scenario) : Type 0 where
  pub lines : List (List ℕ)
  pub whole : parts_at 10 front ≡ lines ++ [] ∷ []
  pub makes : Makes nothing lines (reading c)

-- that front, and behind it the order lines that a report has of this schedule, and the line `end`
abbrev pub with_order : List ℕ → List ℕ → List ℕ
with_order front schedule = front ++ (order_lines (runs_of schedule) ++ codes "end\n")
