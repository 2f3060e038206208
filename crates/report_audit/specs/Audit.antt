-- What an audit asks of the lines of a report that follow a scenario, and the first line that doesn't fit. This project's own.
use Rattle.std.specs.Prelude.{ℕ, ◌+◌, ◌-◌, ◌==◌, nat_lt, Bool, true, false, if◌then◌else◌, List, [], ◌∷◌, length, drop, slice_get, slice_set, bytes_eq, Option, Some, None, Result, Ok, Err}
use Rattle.snp_model.specs.declared.event.Event.{Event}
use Rattle.snp_model.specs.declared.item.Line.{Line}
use Rattle.snp_model.specs.declared.scenario.Actor.{Actor}
use Rattle.snp_model.specs.declared.scenario.GuestSpec.{GuestSpec}
use Rattle.snp_model.specs.declared.scenario.Role.{Role}
use Rattle.snp_model.specs.declared.scenario.Role.TheVariants.{Cpu, Host, Firmware}
use Rattle.snp_model.specs.declared.scenario.Scenario.{Scenario}
use Rattle.snp_model.specs.GuestMemory.{Memory, Use, opening_memory, used}
use Rattle.snp_model.specs.Lines.{◌>>=◌, ◌>>◌, parts_at}
use Rattle.snp_model.specs.Report.{end_text, head_text}
use Rattle.snp_model.specs.ScenarioLines.{is_opened}
use Rattle.guest_memory.specs.Answers.{expected_by, found_by}
use Rattle.guest_memory.specs.Uses.{use_by}
use Rattle.report_text.specs.EventLines.{read_of}
use Rattle.report_audit.specs.declared.fault.AuditReason.{AuditReason}
use Rattle.report_audit.specs.declared.fault.AuditReason.TheVariants as reasons
use Rattle.report_audit.specs.Ending.{runs_with, order_line, is_guest_line}
use Rattle.report_audit.specs.Kinds.{is_kind}
use Rattle.report_audit.specs.Legality.{is_legal_use}

-- why a line doesn't fit: by its form, actor, item or kind; or its event doesn't find what it needs, with the word that is known there and the word that it found
pub data Complaint : Type 0 where
  refused : AuditReason → Complaint
  not_legal : Option ℕ → ℕ → Complaint

-- the events so far: how many, whose they are, and what they leave of each guest's memory
pub record Ledger : Type 0 where
  pub count : ℕ
  pub runs : List (ℕ × ℕ)
  pub memories : List Memory

-- what the lines so far are: none; the first and then events; besides some lines of the ending, with the runs and the guests that are still to come; or all
pub data Heard : Type 0 where
  nothing : Heard
  events : Ledger → Heard
  ending : (count : ℕ) (runs : List (ℕ × ℕ)) (told : ℕ) → Heard
  closed : ℕ → Heard

-- the memories of guests from a number on at the opening
unfoldable pub memories_from : Scenario → ℕ → List GuestSpec → List Memory
memories_from c number [] = []
memories_from c number (guest ∷ guests) = opening_memory c number ∷ memories_from c (number + 1) guests

abbrev pub opening_memories : Scenario → List Memory
opening_memories c = memories_from c 1 c.guests

-- a value, or the reason that there is none
abbrev pub or_refused : {A : Type 0} → Option A → AuditReason → Result A Complaint
or_refused (Some x) reason = Ok x
or_refused None reason = Err (refused reason)

abbrev pub demand : Bool → AuditReason → Result (Unit {0}) Complaint
demand true reason = Ok tt
demand false reason = Err (refused reason)

-- the actor of a number, from 1
abbrev pub actor_at : List Actor → ℕ → Option Actor
actor_at actors number = if number == 0 then None else slice_get actors (number - 1)

-- a guest's memory after a use of it, where that finds what it needs
unfoldable pub memory_by : Memory → Use → Result Memory Complaint
memory_by memory act = if is_legal_use memory act then Ok (used act memory) else Err (not_legal (expected_by memory act) (found_by act))

-- the memories after a use of that of a guest, if it is one of them
abbrev pub memories_set : List Memory → ℕ → Use → Option Memory → Result (List Memory) Complaint
memories_set memories guest act None = Ok memories
memories_set memories guest act (Some memory) = do
  next ← memory_by memory act
  Ok (slice_set memories (guest - 1) next)

unfoldable pub memories_by : List Memory → ℕ → Use → Result (List Memory) Complaint
memories_by memories guest act = memories_set memories guest act (slice_get memories (guest - 1))

-- the memories after an event of an actor: those of opened guests matter
unfoldable pub heard_memories : List GuestSpec → List Memory → Role → Use → Result (List Memory) Complaint
heard_memories guests memories (Cpu guest vmpl npt paging) act = if is_opened guests guest then memories_by memories guest act else Ok memories
heard_memories guests memories Host act = Ok memories
heard_memories guests memories Firmware act = Ok memories

-- an event after those so far
unfoldable pub hear_of : Scenario → Ledger → ℕ → Actor → Event → Line → Result Ledger Complaint
hear_of c ledger number actor event line = do
  demand (is_kind c.guests actor.role line.item event) reasons.Kind
  memories ← heard_memories c.guests ledger.memories actor.role (use_by event line.item)
  Ok (record { count = ledger.count + 1; runs = runs_with ledger.runs number; memories = memories })

unfoldable pub hear_event : Scenario → Ledger → ℕ → Event → Result Ledger Complaint
hear_event c ledger number event = do
  actor ← or_refused (actor_at c.actors number) reasons.Actor
  line ← or_refused (slice_get actor.script event.item) reasons.Item
  hear_of c ledger number actor event line

-- a line of the ending in its place
unfoldable pub hear_guest : Scenario → ℕ → ℕ → List ℕ → Result Heard Complaint
hear_guest c count told line =
    if nat_lt told (length c.guests) then (if is_guest_line (told + 1) line then Ok (ending count [] (told + 1)) else Err (refused reasons.Form))
    else if bytes_eq line (end_text count) then Ok (closed count)
    else Err (refused reasons.Form)

unfoldable pub hear_ending : Scenario → ℕ → List (ℕ × ℕ) → ℕ → List ℕ → Result Heard Complaint
hear_ending c count [] told line = hear_guest c count told line
hear_ending c count (run ∷ runs) told line =
    if bytes_eq line (order_line (run ∷ runs)) then Ok (ending count (drop 16 (run ∷ runs)) told) else Err (refused reasons.Form)

-- a line after the first, before any of the ending
abbrev pub by_event : Result Ledger Complaint → Result Heard Complaint
by_event (Ok ledger) = Ok (events ledger)
by_event (Err complaint) = Err complaint

abbrev pub hear_read : Scenario → Ledger → List ℕ → Option (ℕ × ℕ × Event) → Result Heard Complaint
hear_read c ledger line None = hear_ending c ledger.count ledger.runs 0 line
hear_read c ledger line (Some read) =
    if read.0 == ledger.count then by_event (hear_event c ledger read.1 read.2) else Err (refused reasons.Form)

-- what a line makes of the lines so far, or why it doesn't fit
unfoldable pub hear : Scenario → Heard → List ℕ → Result Heard Complaint
hear c nothing line =
    if bytes_eq line (head_text c.version) then Ok (events (record { count = 0; runs = []; memories = opening_memories c })) else Err (refused reasons.Form)
hear c (events ledger) line = hear_read c ledger line (read_of line)
hear c (ending count runs told) line = hear_ending c count runs told line
hear c (closed count) line = Err (refused reasons.Form)

-- the end of a text, whose line n would be what no line feed ends
unfoldable pub end_of : ℕ → Heard → List ℕ → Result ℕ (ℕ × Complaint)
end_of n heard (byte ∷ bytes) = Err (n, refused reasons.Form)
end_of n (closed count) [] = Ok count
end_of n heard [] = Err (n, refused reasons.Form)

abbrev pub at_line : {A : Type 0} → ℕ → Result A Complaint → Result A (ℕ × Complaint)
at_line n (Ok x) = Ok x
at_line n (Err complaint) = Err (n, complaint)

-- what parts of a text say from line n on, the last part being what no line feed ends
unfoldable pub hear_parts : Scenario → ℕ → Heard → List (List ℕ) → Result ℕ (ℕ × Complaint)
hear_parts c n heard [] = end_of n heard []
hear_parts c n heard (rest ∷ []) = end_of n heard rest
hear_parts c n heard (line ∷ part ∷ parts) = do
  next ← at_line n (hear c heard line)
  hear_parts c (n + 1) next (part ∷ parts)

-- the audit of a text whose first line has this number: how many events it has, or the first line that doesn't fit, with the first reason
unfoldable pub audit_of : Scenario → ℕ → List ℕ → Result ℕ (ℕ × Complaint)
audit_of c first text = hear_parts c first nothing (parts_at 10 text)
