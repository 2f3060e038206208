-- What playing a schedule makes of a machine and its journal. This project's own.
use Rattle.std.specs.Prelude.{◌≡◌, ℕ, ◌*◌, ◌++◌, List, [], take, slice_get, Some}
use Rattle.snp_model.specs.declared.scenario.Scenario.{Scenario}
use Rattle.snp_model.specs.Attempts.{attempts_of}
use Rattle.snp_model.specs.Journal.{JournalImage}
use Rattle.snp_model.specs.Opening.{opening}
use Rattle.snp_model.specs.Reading.{Valid}
use Rattle.snp_model.specs.Run.{IsDefined, IsDefinedFrom, run_from, run_of, state_after, state_from}
use Rattle.snp_model.specs.State.{State, IsUnfinished}

-- the machine is as one is built of a valid scenario, and its journal is empty, with room for 32 events of each attempt
pub record AtOpening (m : State) (journal : JournalImage) : Type 0 where
  pub scenario : Scenario
  pub valid : Valid scenario
  pub opens : m ≡ opening scenario
  pub empty : journal.list ≡ []
  pub room : journal.room ≡ 32 * attempts_of scenario

-- the machine and its journal are as a schedule of a valid scenario leaves them
pub record IsUnderWay (m : State) (journal : JournalImage) : Type 0 where
  pub scenario : Scenario
  pub valid : Valid scenario
  pub schedule : List ℕ
  pub defined : IsDefined scenario schedule
  pub events : journal.list ≡ run_of scenario schedule
  pub state : m ≡ state_after scenario schedule
  pub room : journal.room ≡ 32 * attempts_of scenario

-- the schedule makes a run from a state to another, and the journal is its events
pub record Plays (m : State) (schedule : List ℕ) (journal : JournalImage) (new : State) : Type 0 where
  pub defined : IsDefinedFrom m schedule
  pub events : journal.list ≡ run_from m schedule
  pub state : new ≡ state_from m schedule

-- the schedule makes a run from a state to another, and its events are added to the journal
pub record PlaysOn (m : State) (schedule : List ℕ) (before now : JournalImage) (new : State) : Type 0 where
  pub defined : IsDefinedFrom m schedule
  pub events : now.list ≡ before.list ++ run_from m schedule
  pub room : now.room ≡ before.room
  pub state : new ≡ state_from m schedule

-- entry k of a schedule, from 0, is the first that names a missing or finished actor
pub record IsFirstBad (m : State) (schedule : List ℕ) (k actor : ℕ) : Type 0 where
  pub named : slice_get schedule k ≡ Some actor
  pub defined : IsDefinedFrom m (take k schedule)
  pub bad : IsUnfinished (state_from m (take k schedule)) actor → ⊥
