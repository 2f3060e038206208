-- What a report says that happened to the memory of a guest, without the machine that made it. This project's own.
use Rattle.std.specs.Prelude.{◌≡◌, ℕ, ◌+◌, ◌-◌, ◌==◌, true, if◌then◌else◌, List, [], ◌∷◌, length, slice_get, Option, Some, None}
use Rattle.snp_model.specs.declared.event.Event.{Event}
use Rattle.snp_model.specs.declared.item.Item.{Item}
use Rattle.snp_model.specs.declared.scenario.Actor.{Actor}
use Rattle.snp_model.specs.declared.scenario.Role.{Role}
use Rattle.snp_model.specs.declared.scenario.Role.TheVariants.{Cpu, Host, Firmware}
use Rattle.snp_model.specs.declared.scenario.Scenario.{Scenario}
use Rattle.snp_model.specs.EventText.{event_text}
use Rattle.snp_model.specs.GuestMemory.{Memory, Use, Untouched, IsLegalUse, opening_memory, use_of, used}
use Rattle.snp_model.specs.Lines.{parts_at}
use Rattle.snp_model.specs.Report.{head_text}
use Rattle.snp_model.specs.ScenarioLines.{is_opened}
use Rattle.snp_model.specs.Step.{line_at}
use Rattle.report_audit.specs.Audit.{Ledger}
use Rattle.report_audit.specs.Ending.{runs_with}

-- what an event does with the memory of a guest, by what it says: of the guest's own processors as the guest's memory has it, of all others nothing; an audit lets no launch for an opened guest pass
abbrev pub use_by_role : ℕ → Role → Event → Item → Use
use_by_role guest (Cpu owner vmpl npt paging) event item = if owner == guest then use_of event.deed item event.outcome else Untouched
use_by_role guest Host event item = Untouched
use_by_role guest Firmware event item = Untouched

abbrev pub use_by_actor : ℕ → Event → Option Actor → Use
use_by_actor guest event None = Untouched
use_by_actor guest event (Some actor) = use_by_role guest actor.role event (line_at actor.script event.item).item

unfoldable pub said_use : Scenario → ℕ → ℕ × Event → Use
said_use c guest entry = use_by_actor guest entry.1 (slice_get c.actors (entry.0 - 1))

-- an event that fits
pub record IsHeard (c : Scenario) (ledger next : Ledger) (number : ℕ) (event : Event) : Type 0 where
  pub counted : next.count ≡ ledger.count + 1
  pub run : next.runs ≡ runs_with ledger.runs number
  pub uses : (guest : ℕ) (memory : Memory) → is_opened c.guests guest ≡ true → slice_get ledger.memories (guest - 1) ≡ Some memory
      → IsLegalUse memory (said_use c guest (number, event)) × (slice_get next.memories (guest - 1) ≡ Some (used (said_use c guest (number, event)) memory))

-- each event finds what it needs in the memory that the events before it have left
unfoldable pub AreLegalEvents : Scenario → ℕ → Memory → List (ℕ × Event) → Type 0
AreLegalEvents c guest memory [] = Unit {0}
AreLegalEvents c guest memory (entry ∷ entries) =
    IsLegalUse memory (said_use c guest entry) × AreLegalEvents c guest (used (said_use c guest entry) memory) entries

-- the lines of events numbered from k, and others behind them
unfoldable pub event_parts : ℕ → List (ℕ × Event) → List (List ℕ) → List (List ℕ)
event_parts k [] rest = rest
event_parts k (entry ∷ entries) rest = event_text k entry.0 entry.1 ∷ event_parts (k + 1) entries rest

-- the lines of a text behind its first are those of so many events and then others, and the events are legal for each guest that the scenario opens
pub record IsLegalReport (c : Scenario) (text : List ℕ) (count : ℕ) : Type 0 where
  pub entries : List (ℕ × Event)
  pub ending : List (List ℕ)
  pub lines : parts_at 10 text ≡ head_text c.version ∷ event_parts 0 entries ending
  pub counted : length entries ≡ count
  pub legal : (guest : ℕ) → is_opened c.guests guest ≡ true → AreLegalEvents c guest (opening_memory c guest) entries
