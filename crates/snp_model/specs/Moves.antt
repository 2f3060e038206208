-- What one event does, as a value; and the events that items of a guest processor share: their beginning and the words of their walks (APM volume 2, 5.3 and 15.25.6). The division into events is this project's own.
use Rattle.std.specs.Prelude.{ℕ, ◌%◌, Bool, true, false, not, if◌then◌else◌, List, [], ◌∷◌, ◌++◌, Option, Some, None}
use Rattle.snp_model.specs.declared.access.Place.{Place}
use Rattle.snp_model.specs.declared.access.Verdict.{Verdict}
use Rattle.snp_model.specs.declared.access.Verdict.TheVariants.{Pass, Hidden, Fault}
use Rattle.snp_model.specs.declared.entry.PageSize.{PageSize}
use Rattle.snp_model.specs.declared.event.Deed.{Deed}
use Rattle.snp_model.specs.declared.event.Deed.TheVariants as deeds
use Rattle.snp_model.specs.declared.event.Outcome.{Outcome}
use Rattle.snp_model.specs.declared.event.Outcome.TheVariants as outcomes
use Rattle.snp_model.specs.declared.firmware.GuestState.{GuestState}
use Rattle.snp_model.specs.declared.firmware.GuestState.TheVariants.{Running}
use Rattle.snp_model.specs.declared.item.Op.TheVariants.{Load}
use Rattle.snp_model.specs.declared.scenario.GuestSpec.{GuestSpec}
use Rattle.snp_model.specs.declared.walk.Lookup.{Lookup}
use Rattle.snp_model.specs.declared.walk.Need.{Need}
use Rattle.snp_model.specs.declared.walk.Need.TheVariants as needs
use Rattle.snp_model.specs.GuestWalk.{levels_of, is_canonical}
use Rattle.snp_model.specs.Opening.{asid_of}
use Rattle.snp_model.specs.State.{PageLock, Page, Pages, Context, Contents, Standing, ActorPart, word_of}
use Rattle.snp_model.specs.Verdicts.{private_verdict}
use Rattle.snp_model.specs.Walking.{Processor, need_after, fault_of}

-- what one event does: its deed and outcome, memory and contexts after it, and what the open attempt then has, where it stays open
pub record Move : Type 0 where
  pub deed : Deed
  pub outcome : Option Outcome
  pub contents : Contents
  pub standing : Standing

-- an event that changes memory alone
abbrev pub memory_move : Contents → ActorPart → Deed → Option Outcome → Pages → Move
memory_move contents part deed outcome pages =
    record { deed = deed; outcome = outcome; contents = record contents { pages = pages }; standing = part.standing }

-- an event that changes nothing
abbrev pub quiet_move : Contents → ActorPart → Deed → Option Outcome → Move
quiet_move contents part deed outcome = record { deed = deed; outcome = outcome; contents = contents; standing = part.standing }

-- an item that is of another role's, which no scenario has
abbrev pub misplaced_move : Contents → ActorPart → Move
misplaced_move contents part = quiet_move contents part deeds.Control (Some outcomes.Next)

-- a walk that has faulted, at which no open attempt stands
abbrev pub faulted_move : Contents → ActorPart → Move
faulted_move contents part = quiet_move contents part deeds.Control (Some outcomes.Next)

-- the word that the nested walker sees: 0 where the frame is assigned
abbrev pub table_word : Page → ℕ → ℕ
table_word page index = if page.facts.assigned then 0 else word_of page index

-- whether a guest runs
abbrev pub is_running : GuestState → Bool
is_running Running = true
is_running state = false

-- the beginning of a guest processor's item, which may have a refusal of its own
unfoldable pub begin_move : Contents → ActorPart → Context → ℕ → ℕ → Option Outcome → Move
begin_move contents part context levels address refusal =
    if not (is_running context.state) then quiet_move contents part deeds.Begin (Some outcomes.Offline)
    else if not (is_canonical levels address) then quiet_move contents part deeds.Begin (Some outcomes.Gp)
    else quiet_move contents part deeds.Begin refusal

-- where a word of a guest table stands
abbrev pub table_place : ℕ → ℕ → ℕ → ℕ → ℕ → PageSize → Place
table_place asid vmpl gpn index frame size =
    record { asid = asid; gpn = gpn; slot = frame % 512; index = index; leaf = size; vmpl = vmpl; private = true; table = true }

-- a word of a walk is read, with this deed: the attempt ends where the walk then faults
abbrev pub walk_move : ℕ → Contents → ActorPart → Processor → Lookup → Deed → Move
walk_move frames contents part cpu lookup deed =
    quiet_move contents part deed (fault_of (need_after frames cpu lookup (part.deeds ++ deed ∷ [])))

-- a word of a guest table is read with its check, which is that of a private load
unfoldable pub table_move : ℕ → Contents → ActorPart → Processor → Lookup → Verdict → ℕ → ℕ → ℕ → Move
table_move frames contents part cpu lookup Pass gpn index frame =
    walk_move frames contents part cpu lookup (deeds.Table gpn index frame (Some (word_of (contents.pages frame) index)))
table_move frames contents part cpu lookup Hidden gpn index frame = quiet_move contents part (deeds.Table gpn index frame None) (Some outcomes.Opaque)
table_move frames contents part cpu lookup (Fault outcome) gpn index frame = quiet_move contents part (deeds.Table gpn index frame None) (Some outcome)

-- what an item does once its walks have led to a page: its guest page number, whether it is private, the frame and the size of the nested leaf
abbrev pub Arrival : Type 0
Arrival = ℕ → Bool → ℕ → PageSize → Move

-- what an item does that has begun, by what it needs
unfoldable pub need_move : ℕ → List GuestSpec → Contents → ActorPart → Processor → Lookup → Arrival → Need → Move
need_move frames guests contents part cpu lookup arrives (needs.Nested frame index) =
    walk_move frames contents part cpu lookup (deeds.Nested frame index (table_word (contents.pages frame) index))
need_move frames guests contents part cpu lookup arrives (needs.Table gpn index frame size) =
    let place = table_place (asid_of guests cpu.guest) cpu.vmpl gpn index frame size in
    table_move frames contents part cpu lookup (private_verdict (contents.pages frame).facts place Load) gpn index frame
need_move frames guests contents part cpu lookup arrives (needs.Data gpn private frame size) = arrives gpn private frame size
need_move frames guests contents part cpu lookup arrives (needs.Fault outcome) = faulted_move contents part

-- an item of a guest processor that walks: it begins, its walks go on, and it arrives
unfoldable pub walked_move : ℕ → List GuestSpec → Contents → ActorPart → Processor → Lookup → Option Outcome → Arrival → List Deed → Move
walked_move frames guests contents part cpu lookup refusal arrives [] =
    begin_move contents part (contents.contexts cpu.guest) (levels_of cpu.paging) lookup.address refusal
walked_move frames guests contents part cpu lookup refusal arrives (deed ∷ others) =
    need_move frames guests contents part cpu lookup arrives (need_after frames cpu lookup (deed ∷ others))

-- an event that takes a page's lock, with its tests, or ends the attempt with the refusal
unfoldable pub lock_move : Contents → ActorPart → PageLock → Option Outcome → Move
lock_move contents part lock None =
    record { deed = deeds.Lock lock.frame; outcome = None; contents = contents; standing = record part.standing { locks = part.standing.locks ++ lock ∷ [] } }
lock_move contents part lock (Some outcome) = quiet_move contents part (deeds.Lock lock.frame) (Some outcome)
