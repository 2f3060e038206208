-- What contracts see of a board, and what its type keeps. This project's own.
use Rattle.std.specs.Prelude.{◌≡◌, ℕ, ◌*◌, ◌++◌, List}
use Rattle.snp_model.specs.declared.event.Event.{Event}
use Rattle.snp_model.specs.declared.scenario.Scenario.{Scenario}
use Rattle.snp_model.specs.Attempts.{attempts_of}
use Rattle.snp_model.specs.Journal.{JournalImage}
use Rattle.snp_model.specs.Journals.{IsRun, state_at}
use Rattle.snp_model.specs.Reading.{Valid}
use Rattle.snp_model.specs.State.{State}

-- a scenario, and the events so far with their actors, the oldest first
pub record BoardImage : Type 0 where
  pub scenario : Scenario
  pub list : List (ℕ × Event)

-- the state that its machine is in
abbrev pub board_state : BoardImage → State
board_state board = state_at board.scenario board.list

-- the journal is a run of the scenario, the machine is in the state after it, and there is room for every event that may follow
pub record IsBoard (scenario : Scenario) (m : State) (journal : JournalImage) : Type 0 where
  pub valid : Valid scenario
  pub run : IsRun scenario journal.list
  pub machine : m ≡ state_at scenario journal.list
  pub room : journal.room ≡ 32 * attempts_of scenario

-- the later events are the earlier ones with more after them
unfoldable pub GoesOn : List (ℕ × Event) → List (ℕ × Event) → Type 0
GoesOn earlier later = (more : List (ℕ × Event)) × (later ≡ earlier ++ more)
