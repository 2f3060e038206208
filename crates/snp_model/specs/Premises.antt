-- What is asked of a run so that a guest's private accesses are one legal history: that the guest is disciplined, and that no ciphertext meets the tag of another (this project's own).
use Rattle.std.specs.Prelude.{◌≡◌, ℕ, ◌<◌, ◌≤◌, ◌==◌, true, ◌&&◌, if◌then◌else◌, List, [], ◌∷◌, length, Option, Some, None}
use Rattle.std.specs.FinMap.{get}
use Rattle.snp_model.specs.declared.command.Command.TheVariants as commands
use Rattle.snp_model.specs.declared.event.Deed.{Deed}
use Rattle.snp_model.specs.declared.event.Deed.TheVariants as deeds
use Rattle.snp_model.specs.declared.event.Outcome.{Outcome}
use Rattle.snp_model.specs.declared.event.Outcome.TheVariants as outcomes
use Rattle.snp_model.specs.declared.firmware.MetaEntry.{MetaEntry}
use Rattle.snp_model.specs.declared.item.Item.{Item}
use Rattle.snp_model.specs.declared.item.Item.TheVariants as items
use Rattle.snp_model.specs.declared.scenario.Role.{Role}
use Rattle.snp_model.specs.declared.scenario.Role.TheVariants.{Cpu, Host, Firmware}
use Rattle.snp_model.specs.declared.scenario.Scenario.{Scenario}
use Rattle.snp_model.specs.Facts.{frames_in}
use Rattle.snp_model.specs.GuestMemory.{Memory, IsLegal, next_use, used, opening_memory}
use Rattle.snp_model.specs.Live.{Archived, Archive}
use Rattle.snp_model.specs.Locks.{in_range}
use Rattle.snp_model.specs.Opening.{opening}
use Rattle.snp_model.specs.Past.{Past, empty_past, past_after, sealing_in}
use Rattle.snp_model.specs.Sealing.{Sealing, SealOut, SealIn, slot_entry}
use Rattle.snp_model.specs.State.{Contents, State, part_of}
use Rattle.snp_model.specs.Step.{event_of, after, line_at}

-- guest page numbers that follow each other
pub record GpnRange : Type 0 where
  pub base : ℕ
  pub count : ℕ

-- the page numbers that an event of a guest's processor validates, whatever its carry flag: those of a validating PVALIDATE's commit
unfoldable pub validated_range : Deed → Item → Option Outcome → Option GpnRange
validated_range (deeds.Commit frame gpn size) (items.Pvalidate address asked true) (Some (outcomes.Carry carry)) = Some (record { base = gpn; count = frames_in size })
validated_range deed item outcome = None

-- the page numbers that an event of the firmware launches for a guest: that of a launch's commit
unfoldable pub launched_range : ℕ → Deed → Item → Option Outcome → Option GpnRange
launched_range guest (deeds.Commit frame gpn size) (items.Firmware (commands.LaunchUpdate owner page page_type imi perms)) (Some (outcomes.Firmware status)) =
    if (owner == guest) && (status == 0) then Some (record { base = gpn; count = 1 }) else None
launched_range guest deed item outcome = None

-- the page numbers that an event validates or launches for a guest
unfoldable pub accepted_range : ℕ → Role → Deed → Item → Option Outcome → Option GpnRange
accepted_range guest (Cpu owner vmpl npt paging) deed item outcome = if owner == guest then validated_range deed item outcome else None
accepted_range guest Host deed item outcome = None
accepted_range guest Firmware deed item outcome = launched_range guest deed item outcome

-- none of these page numbers is held
abbrev pub AreLacking : Memory → Option GpnRange → Type 0
AreLacking memory None = Unit {0}
AreLacking memory (Some range) = (gpn : ℕ) → in_range range.base range.count gpn ≡ true → get memory gpn ≡ None

-- the next event of an actor validates and launches nothing that the guest holds
unfoldable pub IsDisciplinedStep : ℕ → State → ℕ → Memory → Type 0
IsDisciplinedStep guest m actor memory =
    let part = part_of m actor in
    let event = event_of m actor in
    AreLacking memory (accepted_range guest part.role event.deed (line_at part.script part.item).item event.outcome)

-- so each event of a schedule, from a state and the memory there
unfoldable pub IsDisciplinedFrom : ℕ → State → Memory → List ℕ → Type 0
IsDisciplinedFrom guest m memory [] = Unit {0}
IsDisciplinedFrom guest m memory (actor ∷ actors) =
    IsDisciplinedStep guest m actor memory × IsDisciplinedFrom guest (after m actor) (used (next_use guest m actor) memory) actors

-- the guest is disciplined in a schedule of a scenario: it validates and launches no page while it holds it
abbrev pub IsDisciplined : Scenario → List ℕ → ℕ → Type 0
IsDisciplined scenario schedule guest = IsDisciplinedFrom guest (opening scenario) (opening_memory scenario guest) schedule

-- these are the words of a ciphertext that was archived; where nothing was, they aren't
abbrev pub IsCipherOf : Option Archived → List ℕ → Type 0
IsCipherOf None words = ⊥
IsCipherOf (Some archived) words = words ≡ archived.cipher

-- a page with these words is opened with an entry, or with none
abbrev pub IsOpenedWith : Archive → Option MetaEntry → List ℕ → Type 0
IsOpenedWith archive None words = Unit {0}
IsOpenedWith archive (Some entry) words = IsCipherOf (archive entry.iv) words

-- what a compute without outcome opens for a guest is the ciphertext that was sealed under the counter of the entry or root which the command names
unfoldable pub IsOwnCipher : ℕ → Contents → Past → Option Sealing → Type 0
IsOwnCipher guest before past None = Unit {0}
IsOwnCipher guest before past (Some (SealOut what owner source target slot)) = Unit {0}
IsOwnCipher guest before past (Some (SealIn what owner source target slot)) =
    guest ≡ owner → IsOpenedWith (past.archive guest) (slot_entry before.pages (before.contexts owner) slot) (before.pages source).words

-- so an event, by its deed, its outcome and its item: only a compute without outcome opens anything
unfoldable pub NoChance : ℕ → Contents → Past → Deed → Option Outcome → Item → Type 0
NoChance guest before past deeds.Compute None item = IsOwnCipher guest before past (sealing_in item)
NoChance guest before past deed outcome item = Unit {0}

-- so the next event of an actor
unfoldable pub NoChanceStep : ℕ → State → ℕ → Past → Type 0
NoChanceStep guest m actor past =
    let part = part_of m actor in
    let event = event_of m actor in
    NoChance guest m.contents past event.deed event.outcome (line_at part.script part.item).item

-- so each event of a schedule, from a state and the past there
unfoldable pub NoChanceFrom : ℕ → State → Past → List ℕ → Type 0
NoChanceFrom guest m past [] = Unit {0}
NoChanceFrom guest m past (actor ∷ actors) = NoChanceStep guest m actor past × NoChanceFrom guest (after m actor) (past_after m actor past) actors

-- no ciphertext meets the tag of another in a schedule of a scenario, where a page is opened for the guest
abbrev pub NoChanceTag : Scenario → List ℕ → ℕ → Type 0
NoChanceTag scenario schedule guest = NoChanceFrom guest (opening scenario) empty_past schedule

-- the private accesses of each declared guest that is disciplined are one legal history of a memory of its own, where no ciphertext meets the tag of another where a page is opened for it; nothing is asked of nested tables, hypervisor processors, commands of the firmware or other guests, of their discipline or of their keys
abbrev pub AreLegal : Scenario → List ℕ → Type 0
AreLegal scenario schedule =
    (guest : ℕ) → 0 < guest → guest ≤ length scenario.guests → IsDisciplined scenario schedule guest → NoChanceTag scenario schedule guest → IsLegal scenario schedule guest
