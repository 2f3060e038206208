-- One event of one actor: by cases on what its item still needs. The division into events is this project's own.
use Rattle.std.specs.Prelude.{◌≡◌, ℕ, ◌+◌, ◌-◌, ◌/◌, ◌%◌, nat_lt, Bool, false, ◌&&◌, if◌then◌else◌, List, [], ◌∷◌, ◌++◌, slice_index_or, slice_set, Option, Some, None}
use Rattle.snp_model.specs.declared.access.Place.{Place}
use Rattle.snp_model.specs.declared.access.Verdict.{Verdict}
use Rattle.snp_model.specs.declared.access.Verdict.TheVariants.{Pass, Hidden, Fault}
use Rattle.snp_model.specs.declared.event.Deed.{Deed}
use Rattle.snp_model.specs.declared.event.Deed.TheVariants as deeds
use Rattle.snp_model.specs.declared.event.Event.{Event}
use Rattle.snp_model.specs.declared.event.Outcome.{Outcome}
use Rattle.snp_model.specs.declared.event.Outcome.TheVariants as outcomes
use Rattle.snp_model.specs.declared.item.Item.{Item}
use Rattle.snp_model.specs.declared.item.Item.TheVariants as items
use Rattle.snp_model.specs.declared.item.Line.{Line}
use Rattle.snp_model.specs.declared.item.Op.{Op}
use Rattle.snp_model.specs.declared.item.SkipTest.{SkipTest}
use Rattle.snp_model.specs.declared.item.SkipTest.TheVariants.{Good}
use Rattle.snp_model.specs.declared.event.OutcomeClass.{OutcomeClass}
use Rattle.snp_model.specs.declared.event.OutcomeClass.TheVariants as classes
use Rattle.snp_model.specs.declared.scenario.GuestSpec.{GuestSpec}
use Rattle.snp_model.specs.declared.scenario.Role.{Role}
use Rattle.snp_model.specs.declared.scenario.Role.TheVariants.{Cpu, Host, Firmware}
use Rattle.snp_model.specs.declared.entry.PageSize.{PageSize}
use Rattle.snp_model.specs.Accesses.{guest_verdict}
use Rattle.snp_model.specs.FirmwareStep.{firmware_move}
use Rattle.snp_model.specs.Opening.{asid_of}
use Rattle.snp_model.specs.Operations.{writes, outcome_of, word_after}
use Rattle.snp_model.specs.Outcomes.{class_of, is_in_use}
use Rattle.snp_model.specs.InstructionStep.{update_move, smash_move, cpu_validate, cpu_adjust}
use Rattle.snp_model.specs.Moves.{Move, Arrival, memory_move, quiet_move, misplaced_move, walked_move}
use Rattle.snp_model.specs.Skips.{skip_outcome}
use Rattle.snp_model.specs.Verdicts.{host_verdict}
use Rattle.snp_model.specs.State.{Pages, Contents, nothing_taken, ActorPart, State, View, part_of, IsUnfinished, with_word, word_of}
use Rattle.snp_model.specs.Locks.{view_of}
use Rattle.snp_model.specs.Walking.{Processor, lookup_of, index_of}

-- memory after an operation on a word
abbrev pub pages_after : Op → ℕ → ℕ → ℕ → Pages → Pages
pages_after op frame index word pages = if writes op then with_word frame index (word_after op word) pages else pages

-- the one event of a check with its access: on a pass the word is read and written, otherwise nothing changes
unfoldable pub access_move : Contents → ActorPart → Deed → Verdict → Op → ℕ → ℕ → Move
access_move contents part deed Pass op frame index =
    let word = word_of (contents.pages frame) index in
    memory_move contents part deed (Some (outcome_of op word)) (pages_after op frame index word contents.pages)
access_move contents part deed Hidden op frame index = quiet_move contents part deed (Some outcomes.Opaque)
access_move contents part deed (Fault outcome) op frame index = quiet_move contents part deed (Some outcome)

-- where an access goes that has come to a frame
abbrev pub data_place : ℕ → ℕ → ℕ → ℕ → Bool → ℕ → PageSize → Place
data_place asid vmpl address gpn private frame size =
    record { asid = asid; gpn = gpn; slot = frame % 512; index = index_of address; leaf = size; vmpl = vmpl; private = private; table = false }

-- an access that has come to its page
abbrev pub data_move : List GuestSpec → Contents → ActorPart → Processor → ℕ → Op → Arrival
data_move guests contents part cpu address op gpn private frame size =
    let place = data_place (asid_of guests cpu.guest) cpu.vmpl address gpn private frame size in
    access_move contents part (deeds.Access gpn (index_of address) frame private) (guest_verdict (contents.pages frame).facts place op) op frame (index_of address)

-- an access of a guest processor
abbrev pub cpu_access : ℕ → List GuestSpec → Contents → ActorPart → Processor → ℕ → Op → List Deed → Move
cpu_access frames guests contents part cpu address op made =
    walked_move frames guests contents part cpu (lookup_of address op) None (data_move guests contents part cpu address op) made

-- an access of a hypervisor processor, at a system physical address
unfoldable pub host_access : Contents → ActorPart → ℕ → Op → Move
host_access contents part address op =
    let frame = address / 4096 in
    access_move contents part (deeds.Host frame (index_of address)) (host_verdict (contents.pages frame).facts op) op frame (index_of address)

-- a skip: one event, whatever the role
abbrev pub skip_move : Contents → ActorPart → ℕ → SkipTest → Move
skip_move contents part count test = quiet_move contents part deeds.Control (Some (skip_outcome count test part.last))

-- the next event of an item, by the role of its actor
unfoldable pub item_move : ℕ → List GuestSpec → View → ActorPart → Role → Item → Move
item_move frames guests view part (Cpu guest vmpl npt paging) (items.Access address op) =
    cpu_access frames guests view.contents part (record { guest = guest; vmpl = vmpl; npt = npt; paging = paging }) address op part.deeds
item_move frames guests view part (Cpu guest vmpl npt paging) (items.Pvalidate address size validate) =
    cpu_validate frames guests view part (record { guest = guest; vmpl = vmpl; npt = npt; paging = paging }) address size validate
item_move frames guests view part (Cpu guest vmpl npt paging) (items.Rmpadjust address size target mask vmsa) =
    cpu_adjust frames guests view part (record { guest = guest; vmpl = vmpl; npt = npt; paging = paging }) address size target mask vmsa
item_move frames guests view part (Cpu guest vmpl npt paging) (items.Rmpupdate update) = misplaced_move view.contents part
item_move frames guests view part (Cpu guest vmpl npt paging) (items.Psmash frame) = misplaced_move view.contents part
item_move frames guests view part (Cpu guest vmpl npt paging) (items.Firmware command) = misplaced_move view.contents part
item_move frames guests view part (Cpu guest vmpl npt paging) (items.Skip count test) = skip_move view.contents part count test
item_move frames guests view part Host (items.Access address op) = host_access view.contents part address op
item_move frames guests view part Host (items.Pvalidate address size validate) = misplaced_move view.contents part
item_move frames guests view part Host (items.Rmpadjust address size target mask vmsa) = misplaced_move view.contents part
item_move frames guests view part Host (items.Rmpupdate update) = update_move frames view part update part.standing.locks
item_move frames guests view part Host (items.Psmash frame) = smash_move frames view part frame part.standing.locks
item_move frames guests view part Host (items.Firmware command) = misplaced_move view.contents part
item_move frames guests view part Host (items.Skip count test) = skip_move view.contents part count test
item_move frames guests view part Firmware (items.Access address op) = misplaced_move view.contents part
item_move frames guests view part Firmware (items.Pvalidate address size validate) = misplaced_move view.contents part
item_move frames guests view part Firmware (items.Rmpadjust address size target mask vmsa) = misplaced_move view.contents part
item_move frames guests view part Firmware (items.Rmpupdate update) = misplaced_move view.contents part
item_move frames guests view part Firmware (items.Psmash frame) = misplaced_move view.contents part
item_move frames guests view part Firmware (items.Firmware command) = firmware_move frames guests view part command
item_move frames guests view part Firmware (items.Skip count test) = skip_move view.contents part count test

-- whether an item is attempted again after an outcome: something was in use, and retries are left
abbrev pub tries_again : Line → ℕ → Outcome → Bool
tries_again line attempt outcome = is_in_use outcome && nat_lt attempt line.retries

-- how many items are passed over after an outcome
abbrev pub passed_over : Outcome → ℕ
passed_over (outcomes.Skipped count) = count
passed_over outcome = 0

-- an actor's place: its item and the attempt of it
pub record Position : Type 0 where
  pub item : ℕ
  pub attempt : ℕ

-- the place after an attempt of a line at a place has ended
unfoldable pub position_after : Line → Position → Outcome → Position
position_after line at outcome =
    if tries_again line at.attempt outcome then record { item = at.item; attempt = at.attempt + 1 }
    else record { item = at.item + 1 + passed_over outcome; attempt = 0 }

-- the last outcome that isn't of a skip, by the class of the one that comes
abbrev pub last_by : OutcomeClass → Option Outcome → Outcome → Option Outcome
last_by classes.Good last outcome = Some outcome
last_by classes.Bad last outcome = Some outcome
last_by classes.InUse last outcome = Some outcome
last_by classes.Skip last outcome = last

-- the last outcome that isn't of a skip
abbrev pub last_after : Option Outcome → Outcome → Option Outcome
last_after last outcome = last_by (class_of outcome) last outcome

-- a line that changes nothing, whatever the role: it passes over no item
unfoldable pub idle_line : Line
idle_line = record { item = items.Skip 0 Good; retries = 0 }

-- the line at a place; a place past the end has none, and the idle one stands for it
abbrev pub line_at : List Line → ℕ → Line
line_at script item = slice_index_or script item idle_line

-- the actor's part after a move: an outcome closes the attempt, and so releases its locks
unfoldable pub part_after : ActorPart → Move → Option Outcome → ActorPart
part_after part move None =
    record part { deeds = part.deeds ++ move.deed ∷ []; standing = move.standing }
part_after part move (Some outcome) =
    let next = position_after (line_at part.script part.item) (record { item = part.item; attempt = part.attempt }) outcome in
    record part { item = next.item; attempt = next.attempt; deeds = []; standing = nothing_taken; last = last_after part.last outcome }

-- what a step leaves: its event, the actor's part, memory and contexts
pub record Stepped : Type 0 where
  pub event : Event
  pub part : ActorPart
  pub contents : Contents

-- what a move of an actor leaves
abbrev pub stepped : ActorPart → Move → Stepped
stepped part move =
    record { event = record { item = part.item; attempt = part.attempt; deed = move.deed; outcome = move.outcome }; part = part_after part move move.outcome; contents = move.contents }

-- the step of an actor, from the size of memory, the declared guests, the actor's own part and what it may look at
abbrev pub step_of : ℕ → List GuestSpec → ActorPart → View → Stepped
step_of frames guests part view = stepped part (item_move frames guests view part part.role (line_at part.script part.item).item)

-- the event that an actor makes in a state
unfoldable pub event_of : State → ℕ → Event
event_of m actor = (step_of m.frames m.guests (part_of m actor) (view_of m)).event

-- the state after it
unfoldable pub after : State → ℕ → State
after m actor =
    let step = step_of m.frames m.guests (part_of m actor) (view_of m) in
    record m { contents = step.contents; actors = slice_set m.actors (actor - 1) step.part }

-- an unfinished actor's step leads from a state to another, with this event: there is exactly one such state and event
pub record Step (m : State) (actor : ℕ) (new : State) (event : Event) : Type 0 where
  pub unfinished : IsUnfinished m actor
  pub becomes : new ≡ after m actor
  pub makes : event ≡ event_of m actor
