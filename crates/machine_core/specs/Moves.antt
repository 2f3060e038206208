-- What the machine's functions show of an event, against the moves of the model.
use Rattle.std.specs.Prelude.{ℕ, Bool, true, false, List, [], ◌∷◌, ◌++◌, Option, Some, None, Result, Ok, Err}
use Rattle.snp_model.specs.declared.access.Verdict.{Verdict}
use Rattle.snp_model.specs.declared.access.Verdict.TheVariants.{Pass, Hidden, Fault}
use Rattle.snp_model.specs.declared.event.Deed.TheVariants.{Lock, Table}
use Rattle.snp_model.specs.declared.event.Outcome.{Outcome}
use Rattle.snp_model.specs.declared.event.Outcome.TheVariants.{Opaque}
use Rattle.snp_model.specs.declared.event.Refusal.{Refusal}
use Rattle.snp_model.specs.InstructionStep.{refused_outcome}
use Rattle.snp_model.specs.Moves.{Arrival, Move}
use Rattle.snp_model.specs.State.{PageLock, Standing, View}
use Rattle.snp_model.specs.Walking.{Processor}
use Rattle.machine_core.specs.declared.cpu.Arrived.{Arrived}
use Rattle.machine_core.specs.declared.cpu.Processor as cpus
use Rattle.machine_core.specs.declared.shown.Shown.{Shown}
use Rattle.machine_core.specs.declared.taken_lock.Taken.{Taken}
use Rattle.machine_core.specs.declared.made_page.MadePage.{MadePage}
use Rattle.machine_core.specs.declared.taken_lock.Taken.TheVariants.{Made, OfContext, OfPage}
use Rattle.machine_core.specs.Actors.{computed_of, page_lock_of}

-- the move that an event shows, if it leaves this view, and the open attempt with this
abbrev pub move_by : Shown → View → Standing → Move
move_by shown after standing = record { deed = shown.deed; outcome = shown.outcome; contents = after.contents; standing = standing }

-- what an open attempt has once a lock was taken, if one was; a page that was made isn't told by this
abbrev pub with_taken : Option Taken → Standing → Standing
with_taken None standing = standing
with_taken (Some (OfPage taken)) standing = record standing { locks = standing.locks ++ page_lock_of taken ∷ [] }
with_taken (Some (OfContext guest)) standing = record standing { context_lock = Some guest }
with_taken (Some Made) standing = standing

-- an event has taken the lock of a page, or nothing
abbrev pub TakesPageAlone : Option Taken → Type 0
TakesPageAlone None = Unit {0}
TakesPageAlone (Some (OfPage taken)) = Unit {0}
TakesPageAlone (Some (OfContext guest)) = ⊥
TakesPageAlone (Some Made) = ⊥

-- whether an event has taken the lock of a page
abbrev pub takes_page : Option Taken → Bool
takes_page None = false
takes_page (Some (OfPage taken)) = true
takes_page (Some (OfContext guest)) = false
takes_page (Some Made) = false

-- an event has made no page
abbrev pub MakesNoPage : Option Taken → Type 0
MakesNoPage None = Unit {0}
MakesNoPage (Some (OfPage taken)) = Unit {0}
MakesNoPage (Some (OfContext guest)) = Unit {0}
MakesNoPage (Some Made) = ⊥

-- what an open attempt has after what an event shows, where it stays open
abbrev pub standing_by : Shown → Standing → Standing
standing_by shown standing = with_taken shown.lock standing

-- what an open attempt has once a lock was taken, or this page was made
abbrev pub with_made : MadePage → Option Taken → Standing → Standing
with_made page None standing = standing
with_made page (Some (OfPage taken)) standing = record standing { locks = standing.locks ++ page_lock_of taken ∷ [] }
with_made page (Some (OfContext guest)) standing = record standing { context_lock = Some guest }
with_made page (Some Made) standing = record standing { computed = Some (computed_of page) }

-- what it has after what an event shows, where it stays open, with this page at the place for a page that is made
abbrev pub standing_with : MadePage → Shown → Standing → Standing
standing_with page shown standing = with_made page shown.lock standing

-- the locks that are left once an attempt has ended so, or not: its end releases them
abbrev pub locks_left : Option Outcome → List PageLock → List PageLock
locks_left None locks = locks
locks_left (Some outcome) locks = []

-- the locks that an actor has after what an event shows
abbrev pub locks_by : Shown → Standing → List PageLock
locks_by shown standing = locks_left shown.outcome (standing_by shown standing).locks

-- the context that is left locked once an attempt has ended so, or not: its end releases it
abbrev pub context_left : Option Outcome → Option ℕ → Option ℕ
context_left None context_lock = context_lock
context_left (Some outcome) context_lock = None

-- the guest whose context an actor has locked after what an event shows
abbrev pub context_by : Shown → Standing → Option ℕ
context_by shown standing = context_left shown.outcome (standing_by shown standing).context_lock

-- what an event shows that asks for a lock
abbrev pub lock_shown : PageLock → Option Refusal → Shown
lock_shown lock None = record { deed = Lock lock.frame; outcome = None; lock = Some (OfPage (record { frame = lock.frame; base = lock.base; count = lock.count })) }
lock_shown lock (Some refusal) = record { deed = Lock lock.frame; outcome = Some (refused_outcome refusal); lock = None }

-- a processor as the model sees it
abbrev pub processor_of : cpus.Processor → Processor
processor_of cpu = record { guest = cpu.guest; vmpl = cpu.vmpl; npt = cpu.npt; paging = cpu.paging }

-- the move of an item that walks: what its walks' next event shows, or, once they have come to a page, its own there
abbrev pub walk_shows : Option Arrived → Arrival → Shown → View → Standing → Move
walk_shows None arrives shown view standing = move_by shown view standing
walk_shows (Some at) arrives shown view standing = arrives at.gpn at.private at.frame at.size

-- the word of a guest table, or how its read is refused
abbrev pub table_load : Verdict → ℕ → Result ℕ Outcome
table_load Pass word = Ok word
table_load Hidden word = Err Opaque
table_load (Fault outcome) word = Err outcome

-- what the read of a guest table shows, by its word: the walk may then fault
abbrev pub table_shown : Result ℕ Outcome → ℕ → ℕ → ℕ → (ℕ → Option Outcome) → Shown
table_shown (Ok word) gpn index frame faults = record { deed = Table gpn index frame (Some word); outcome = faults word; lock = None }
table_shown (Err outcome) gpn index frame faults = record { deed = Table gpn index frame None; outcome = Some outcome; lock = None }
