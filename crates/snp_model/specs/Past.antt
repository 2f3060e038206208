-- What was sealed so far, by guest and counter, and what is still being sealed (this project's own).
use Rattle.std.specs.Prelude.{ℕ, ◌==◌, if◌then◌else◌, List, [], ◌∷◌, Option, Some, None}
use Rattle.snp_model.specs.declared.event.Deed.{Deed}
use Rattle.snp_model.specs.declared.event.Deed.TheVariants as deeds
use Rattle.snp_model.specs.declared.firmware.MetaEntry.{MetaEntry}
use Rattle.snp_model.specs.declared.item.Item.{Item}
use Rattle.snp_model.specs.declared.item.Item.TheVariants as items
use Rattle.snp_model.specs.declared.scenario.Scenario.{Scenario}
use Rattle.snp_model.specs.Live.{Archive}
use Rattle.snp_model.specs.Opening.{opening}
use Rattle.snp_model.specs.Sealing.{Sealing, SealOut, SealIn, sealing_of}
use Rattle.snp_model.specs.State.{Contents, Computed, State, part_of}
use Rattle.snp_model.specs.Step.{event_of, after, line_at}

-- what was sealed, by guest and counter, and the words that each actor's source had at its last compute that sealed
pub record Past : Type 0 where
  pub archive : ℕ → Archive
  pub sealing : ℕ → List ℕ

-- nothing was sealed
unfoldable pub empty_past : Past
empty_past = record { archive = λ guest counter. None; sealing = λ actor. [] }

-- what was sealed, with these words and this ciphertext under a guest's counter
unfoldable pub archived : ℕ → ℕ → List ℕ → List ℕ → (ℕ → Archive) → ℕ → Archive
archived guest counter words cipher archive g k =
    if guest == g then (if counter == k then Some (record { words = words; cipher = cipher }) else archive g k) else archive g k

-- the words of each actor's source, with those of one
unfoldable pub with_sealing : ℕ → List ℕ → (ℕ → List ℕ) → ℕ → List ℕ
with_sealing actor words sealing a = if actor == a then words else sealing a

-- the past after the commit of an actor that sealed with this entry, for a guest: the target got this ciphertext
unfoldable pub past_sealed : ℕ → ℕ → List ℕ → Option MetaEntry → Past → Past
past_sealed actor guest cipher None past = past
past_sealed actor guest cipher (Some entry) past = record past { archive = archived guest entry.iv (past.sealing actor) cipher past.archive }

-- so after the commit of what its compute made
unfoldable pub past_made : ℕ → ℕ → Option Computed → Past → Past
past_made actor guest None past = past
past_made actor guest (Some made) past = past_sealed actor guest made.words made.entry past

-- the past after a compute of an actor, by memory before it: one that seals takes the words of its source
unfoldable pub past_computed : ℕ → Contents → Option Sealing → Past → Past
past_computed actor before None past = past
past_computed actor before (Some (SealOut what guest source target slot)) past =
    record past { sealing = with_sealing actor (before.pages source).words past.sealing }
past_computed actor before (Some (SealIn what guest source target slot)) past = past

-- the past after a commit of an actor that has made this: one that seals archives it
unfoldable pub past_committed : ℕ → Option Computed → Option Sealing → Past → Past
past_committed actor made None past = past
past_committed actor made (Some (SealOut what guest source target slot)) past = past_made actor guest made past
past_committed actor made (Some (SealIn what guest source target slot)) past = past

-- what an item seals or opens, if it does
abbrev pub sealing_in : Item → Option Sealing
sealing_in (items.Access address op) = None
sealing_in (items.Pvalidate address size validate) = None
sealing_in (items.Rmpadjust address size target mask vmsa) = None
sealing_in (items.Rmpupdate update) = None
sealing_in (items.Psmash frame) = None
sealing_in (items.Firmware command) = sealing_of command
sealing_in (items.Skip count test) = None

-- the past after an event of an actor, by its deed, its item, memory before it and what its compute has made
unfoldable pub past_with : ℕ → Contents → Option Computed → Deed → Item → Past → Past
past_with actor before made deeds.Begin item past = past
past_with actor before made (deeds.Nested frame index value) item past = past
past_with actor before made (deeds.Table gpn index frame value) item past = past
past_with actor before made (deeds.Access gpn index frame private) item past = past
past_with actor before made (deeds.Host frame index) item past = past
past_with actor before made (deeds.Lock frame) item past = past
past_with actor before made (deeds.LockContext guest) item past = past
past_with actor before made deeds.Compute item past = past_computed actor before (sealing_in item) past
past_with actor before made (deeds.Commit frame gpn size) item past = past_committed actor made (sealing_in item) past
past_with actor before made (deeds.CommitContext guest) item past = past
past_with actor before made deeds.Control item past = past

-- the past after the next event of an actor
unfoldable pub past_after : State → ℕ → Past → Past
past_after m actor past =
    let part = part_of m actor in
    past_with actor m.contents part.standing.computed (event_of m actor).deed (line_at part.script part.item).item past

-- the past after a schedule, from a state and the past there
unfoldable pub past_from : State → Past → List ℕ → Past
past_from m past [] = past
past_from m past (actor ∷ actors) = past_from (after m actor) (past_after m actor past) actors

-- the past after a schedule of a scenario
abbrev pub past_of : Scenario → List ℕ → Past
past_of scenario schedule = past_from (opening scenario) empty_past schedule

-- what was sealed for a guest in a schedule of a scenario
abbrev pub archive_of : Scenario → List ℕ → ℕ → Archive
archive_of scenario schedule guest = (past_of scenario schedule).archive guest
