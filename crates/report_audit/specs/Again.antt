-- Which reports are read again: events that are heard one by one, and lines of guests. This project's own.
use Rattle.std.specs.Prelude.{◌≡◌, ℕ, ◌+◌, ◌^◌, ◌<◌, ◌≤◌, List, [], ◌∷◌, length, Result, Ok}
use Rattle.std.specs.List.{AllByRecursion}
use Rattle.snp_model.specs.declared.event.Event.{Event}
use Rattle.snp_model.specs.declared.report.GuestLine.{GuestLine}
use Rattle.snp_model.specs.declared.scenario.Scenario.{Scenario}
use Rattle.snp_model.specs.Lines.{◌>>=◌}
use Rattle.snp_model.specs.Metadata.{AreBytes}
use Rattle.report_text.specs.EventNumbers.{IsEvent}
use Rattle.report_audit.specs.Audit.{Complaint, Ledger, hear_event, opening_memories}

-- no event, and the memories at the opening
abbrev pub opening_ledger : Scenario → Ledger
opening_ledger c = record { count = 0; runs = []; memories = opening_memories c }

-- the ledger after events, each heard after those before it
unfoldable pub hear_events : Scenario → Ledger → List (ℕ × Event) → Result Ledger Complaint
hear_events c ledger [] = Ok ledger
hear_events c ledger (entry ∷ entries) = do
  next ← hear_event c ledger entry.0 entry.1
  hear_events c next entries

-- the numbers of an entry are those of its types
abbrev pub IsEntry : ℕ × Event → Type 0
IsEntry entry = (entry.0 < 2 ^ 32) × IsEvent entry.1

-- the lines of guests from a number on, each with a digest of 48 bytes
abbrev pub AreGuestsFrom : ℕ → List GuestLine → Type 0
AreGuestsFrom number [] = Unit {0}
AreGuestsFrom number (guest ∷ guests) = (guest.guest ≡ number) × (length guest.digest ≡ 48) × AreBytes guest.digest × AreGuestsFrom (number + 1) guests

-- what a report is made of has the numbers of its types, and one line a declared guest
pub record IsWritten (c : Scenario) (entries : List (ℕ × Event)) (guests : List GuestLine) : Type 0 where
  pub version : c.version < 2 ^ 64
  pub few : length entries < 2 ^ 32
  pub fits : AllByRecursion IsEntry entries
  pub guests_are : AreGuestsFrom 1 guests
  pub declared : length guests ≡ length c.guests
  pub few_guests : length guests ≤ 8
