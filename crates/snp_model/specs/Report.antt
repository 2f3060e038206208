-- The text of a report: its events, the order of its actors, and its guests. This project's own.
use Rattle.std.specs.Prelude.{◌≢◌, ℕ, zero, suc, ◌+◌, ◌<◌, ◌==◌, if◌then◌else◌, List, [], ◌∷◌, ◌++◌, length, replicate, codes, decimal}
use Rattle.snp_model.specs.declared.event.Event.{Event}
use Rattle.snp_model.specs.declared.firmware.GuestState.{GuestState}
use Rattle.snp_model.specs.declared.firmware.GuestState.TheVariants.{Absent, Init, Launching, Running}
use Rattle.snp_model.specs.declared.report.GuestLine.{GuestLine}
use Rattle.snp_model.specs.EventText.{event_text, hex_bytes}
use Rattle.snp_model.specs.Journal.{actors_of}

-- a text and the line feed that ends it
abbrev pub line : List ℕ → List ℕ
line text = text ++ 10 ∷ []

-- a line for each event, numbered from k
unfoldable pub event_lines : ℕ → List (ℕ × Event) → List ℕ
event_lines k [] = []
event_lines k (entry ∷ entries) = line (event_text k entry.0 entry.1) ++ event_lines (k + 1) entries

-- a run of this actor that has this many events so far, and the runs after it
unfoldable pub runs_after : ℕ → ℕ → List ℕ → List (ℕ × ℕ)
runs_after actor count [] = (actor, count) ∷ []
runs_after actor count (next ∷ actors) = if next == actor then runs_after actor (count + 1) actors else (actor, count) ∷ runs_after next 1 actors

-- the runs of the same actor, each as long as possible
unfoldable pub runs_of : List ℕ → List (ℕ × ℕ)
runs_of [] = []
runs_of (actor ∷ actors) = runs_after actor 1 actors

-- whose events these runs are, one by one
unfoldable pub actors_in : List (ℕ × ℕ) → List ℕ
actors_in [] = []
actors_in (run ∷ runs) = replicate run.1 run.0 ++ actors_in runs

-- the first of these runs isn't of this actor
abbrev pub IsOfAnother : ℕ → List (ℕ × ℕ) → Type 0
IsOfAnother actor [] = Unit {0}
IsOfAnother actor (run ∷ runs) = run.0 ≢ actor

-- each run is as long as possible: none is empty, and none is followed by one of the same actor
abbrev pub AreLongest : List (ℕ × ℕ) → Type 0
AreLongest [] = Unit {0}
AreLongest (run ∷ runs) = (0 < run.1) × IsOfAnother run.0 runs × AreLongest runs

-- a run as a word of an order line
unfoldable pub run_text : ℕ × ℕ → List ℕ
run_text run = codes " " ++ decimal run.0 ++ codes "*" ++ decimal run.1

-- the rest of an order line that has room for so many runs, and the order lines after it
unfoldable pub order_rest : ℕ → List (ℕ × ℕ) → List ℕ
order_rest room [] = 10 ∷ []
order_rest zero (run ∷ runs) = 10 ∷ codes "order" ++ (run_text run ++ order_rest 15 runs)
order_rest (suc room) (run ∷ runs) = run_text run ++ order_rest room runs

-- the order lines of these runs, 16 a line and the rest in the last
unfoldable pub order_lines : List (ℕ × ℕ) → List ℕ
order_lines [] = []
order_lines (run ∷ runs) = codes "order" ++ (run_text run ++ order_rest 15 runs)

-- the state of a guest's context
unfoldable pub state_text : GuestState → List ℕ
state_text Absent = codes "absent"
state_text Init = codes "init"
state_text Launching = codes "launching"
state_text Running = codes "running"

-- the launch digest, or a dash while no page was launched
unfoldable pub digest_text : ℕ → List ℕ → List ℕ
digest_text pages digest = if pages == 0 then codes "-" else hex_bytes digest

-- what is said of a guest, without a line feed
unfoldable pub guest_text : GuestLine → List ℕ
guest_text guest = codes "guest " ++ decimal guest.guest ++ codes " " ++ state_text guest.state ++ codes " " ++ digest_text guest.pages guest.digest

-- a line for each guest
unfoldable pub guest_lines : List GuestLine → List ℕ
guest_lines [] = []
guest_lines (guest ∷ guests) = line (guest_text guest) ++ guest_lines guests

-- the last line, with the number of events
unfoldable pub end_text : ℕ → List ℕ
end_text count = codes "end " ++ decimal count

-- the first line, with the version
unfoldable pub head_text : ℕ → List ℕ
head_text version = codes "snp-report " ++ decimal version

-- a report of this version, of these events and guests
unfoldable pub report_text : ℕ → List (ℕ × Event) → List GuestLine → List ℕ
report_text version entries guests =
    line (head_text version) ++ (event_lines 0 entries ++ (order_lines (runs_of (actors_of entries)) ++ (guest_lines guests ++ line (end_text (length entries)))))
