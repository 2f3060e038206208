-- The state of the machine, flat: a page for each frame, a context for each guest, and each actor's own part.
use Rattle.std.specs.Prelude.{ℕ, ◌-◌, ◌<◌, Bool, ◌==◌, if◌then◌else◌, List, [], length, replicate, slice_get, slice_set, slice_index_or, Option, None, IsSomeAnd}
use Rattle.snp_model.specs.declared.entry.RmpEntry.{RmpEntry}
use Rattle.snp_model.specs.declared.event.Deed.{Deed}
use Rattle.snp_model.specs.declared.event.Outcome.{Outcome}
use Rattle.snp_model.specs.declared.firmware.GuestState.{GuestState}
use Rattle.snp_model.specs.declared.firmware.MetaEntry.{MetaEntry}
use Rattle.snp_model.specs.declared.item.Line.{Line}
use Rattle.snp_model.specs.declared.scenario.GuestSpec.{GuestSpec}
use Rattle.snp_model.specs.declared.scenario.Role.{Role}
use Rattle.snp_model.specs.declared.scenario.Role.TheVariants.{Host}

-- a 4 KB frame: its facts and its 512 words
pub record Page : Type 0 where
  pub facts : RmpEntry
  pub words : List ℕ

-- memory, by frame
abbrev pub Pages : Type 0
Pages = ℕ → Page

-- 512 zero words
unfoldable pub zero_words : List ℕ
zero_words = replicate 512 0

-- a guest's context
pub record Context : Type 0 where
  pub state : GuestState
  pub bound : Bool  -- to its ASID
  pub asid : ℕ
  pub iv : ℕ  -- the counter of its sealing nonces
  pub key : List ℕ  -- 32 bytes
  pub digest : List ℕ  -- the launch digest, 48 bytes
  pub pages : ℕ  -- how many pages were launched
  pub root : Option MetaEntry  -- what is kept of a metadata page that was sealed under the context

-- contexts, by guest from 1
abbrev pub Contexts : Type 0
Contexts = ℕ → Context

-- a lock of a page: the frame that the event names, and the frames that it covers
pub record PageLock : Type 0 where
  pub frame : ℕ
  pub base : ℕ
  pub count : ℕ

-- what a compute has made: a page, and the metadata entry that belongs to it
pub record Computed : Type 0 where
  pub words : List ℕ
  pub entry : Option MetaEntry

-- what an open attempt has taken and made so far
pub record Standing : Type 0 where
  pub locks : List PageLock  -- of pages, the oldest first
  pub context_lock : Option ℕ  -- the guest whose context it has locked
  pub computed : Option Computed  -- what its compute made

-- what one has before its first event
abbrev pub nothing_taken : Standing
nothing_taken = record { locks = []; context_lock = None; computed = None }

-- an actor's own part of the state
pub record ActorPart : Type 0 where
  pub role : Role
  pub script : List Line
  pub item : ℕ  -- the place of its item, from 0; past the script's end it is finished
  pub attempt : ℕ  -- of that item, from 0
  pub deeds : List Deed  -- of the open attempt so far, the oldest first
  pub standing : Standing  -- of the open attempt
  pub last : Option Outcome  -- the last outcome that isn't of a skip

-- what events change beside the actors' own parts
pub record Contents : Type 0 where
  pub pages : Pages
  pub contexts : Contexts

pub record State : Type 0 where
  pub frames : ℕ  -- how many frames memory has
  pub guests : List GuestSpec  -- the declared guests
  pub contents : Contents
  pub actors : List ActorPart

-- what a step may look at beside its actor's own part
pub record View : Type 0 where
  pub contents : Contents
  pub holder : ℕ → Option ℕ  -- which actor has locked a frame
  pub context_holder : ℕ → Option ℕ  -- which actor has locked a guest's context

-- an actor without items
unfoldable pub idle_part : ActorPart
idle_part = record { role = Host; script = []; item = 0; attempt = 0; deeds = []; standing = nothing_taken; last = None }

-- an actor's part, by number from 1
abbrev pub part_of : State → ℕ → ActorPart
part_of m actor = slice_index_or m.actors (actor - 1) idle_part

-- the actor exists, and has not passed its last item
abbrev pub IsUnfinished : State → ℕ → Type 0
IsUnfinished m actor = (0 < actor) × IsSomeAnd (slice_get m.actors (actor - 1)) (λ part. part.item < length part.script)

-- memory with another word
abbrev pub with_word : ℕ → ℕ → ℕ → Pages → Pages
with_word frame index value pages f =
    if frame == f then record (pages f) { words = slice_set (pages f).words index value } else pages f

-- a word of a page
abbrev pub word_of : Page → ℕ → ℕ
word_of page index = slice_index_or page.words index 0
