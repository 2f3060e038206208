-- What the machine keeps of memory and of guests: bays by region and contexts by guest, which are lent to events, and what an event sees over them (this project's own).
use Rattle.std.specs.Prelude.{◌≡◌, ℕ, ◌-◌, ◌/◌, ◌%◌, ◌==◌, true, if◌then◌else◌, List, replicate, slice_get, slice_index_or, Option, Some, None, IsSome}
use Rattle.snp_model.specs.declared.entry.RmpEntry.{RmpEntry}
use Rattle.snp_model.specs.declared.scenario.GuestSpec.{GuestSpec}
use Rattle.snp_model.specs.Entries.{facts_at}
use Rattle.snp_model.specs.Facts.{free_entry}
use Rattle.snp_model.specs.HeldContexts.{HeldContext}
use Rattle.snp_model.specs.Opening.{opening_contexts}
use Rattle.snp_model.specs.RegionWords.{page_at}
use Rattle.snp_model.specs.State.{Page, Pages, Context, Contexts, Contents, ActorPart, View, zero_words}
use Rattle.snp_model.specs.Touches.{Touched, region_of, touches, touches_frame}
use Rattle.machine_core.specs.declared.bay.Bay.{Bay}

-- bays by region; a region may be absent
abbrev pub Bays : Type 0
Bays = ℕ → Option Bay

-- a region at first: its frames are free and unlocked, and its words zero
abbrev pub free_bay : Bay
free_bay = record { memory = replicate 512 (replicate 512 0); rmp = record { facts = replicate 512 free_entry; holders = replicate 512 None } }

-- the page of a slot of a region; those of an absent region are free and zero
abbrev pub page_in : Option Bay → ℕ → Page
page_in None slot = record { facts = free_entry; words = zero_words }
page_in (Some bay) slot = record { facts = facts_at bay.rmp slot; words = page_at bay.memory slot }

-- memory by frame: regions have 512 frames
unfoldable pub pages_of : Bays → Pages
pages_of bays f = page_in (bays (f / 512)) (f % 512)

-- the holder of the lock of a slot of a region
abbrev pub holder_in : Option Bay → ℕ → Option ℕ
holder_in None slot = None
holder_in (Some bay) slot = slice_index_or bay.rmp.holders slot None

-- the holders of locks by frame
unfoldable pub holders_of : Bays → ℕ → Option ℕ
holders_of bays f = holder_in (bays (f / 512)) (f % 512)

-- the bays of a list, whose regions are numbered from 0
abbrev pub own_bays : List Bay → Bays
own_bays bays region = slice_get bays region

-- bays with this one as the bay of a region
abbrev pub put : ℕ → Bay → Bays → Bays
put region bay bays r = if region == r then Some bay else bays r

-- contexts by guest, with their locks; a guest's may be absent
abbrev pub GuestContexts : Type 0
GuestContexts = ℕ → Option HeldContext

-- the context of a guest, where there is one, and else that which stands for it
abbrev pub context_in : Option HeldContext → Context → Context
context_in None context = context
context_in (Some held) context = held.context

-- contexts by guest; where there is none, that of the opening stands for it: of a guest that isn't declared
unfoldable pub contexts_of : GuestContexts → List GuestSpec → Contexts
contexts_of contexts guests guest = context_in (contexts guest) (opening_contexts guests guest)

-- the holder of the lock of a guest's context
abbrev pub context_holder_in : Option HeldContext → Option ℕ
context_holder_in None = None
context_holder_in (Some held) = held.holder

-- the holders of the locks of contexts by guest
unfoldable pub context_holders_of : GuestContexts → ℕ → Option ℕ
context_holders_of contexts guest = context_holder_in (contexts guest)

-- the contexts of a list, whose guests are numbered from 1
abbrev pub own_contexts : List HeldContext → GuestContexts
own_contexts contexts guest = if guest == 0 then None else slice_get contexts (guest - 1)

-- contexts with this one as that of a guest
abbrev pub put_context : ℕ → HeldContext → GuestContexts → GuestContexts
put_context guest held contexts g = if guest == g then Some held else contexts g

-- all that parts can lend: the bays of regions, and the contexts of guests
pub record Stock : Type 0 where
  pub bays : Bays
  pub contexts : GuestContexts

-- a stock with this one as the bay of a region
abbrev pub stock_with : ℕ → Bay → Stock → Stock
stock_with region bay stock = record stock { bays = put region bay stock.bays }

-- a stock with this one as the context of a guest
abbrev pub stock_with_context : ℕ → HeldContext → Stock → Stock
stock_with_context guest held stock = record stock { contexts = put_context guest held stock.contexts }

-- that of a list of bays and a list of contexts
abbrev pub own_stock : List Bay → List HeldContext → Stock
own_stock bays contexts = record { bays = own_bays bays; contexts = own_contexts contexts }

-- memory and contexts, with these declared guests
abbrev pub contents_of : Stock → List GuestSpec → Contents
contents_of stock guests = record { pages = pages_of stock.bays; contexts = contexts_of stock.contexts guests }

-- locks, by their holders
pub record Locks : Type 0 where
  pub holder : ℕ → Option ℕ
  pub context_holder : ℕ → Option ℕ

-- no lock at all
abbrev pub no_locks : Locks
no_locks = record { holder = λ _. None; context_holder = λ _. None }

-- the locks of a stock
abbrev pub locks_of : Stock → Locks
locks_of stock = record { holder = holders_of stock.bays; context_holder = context_holders_of stock.contexts }

-- what an event sees over a stock, with these declared guests
abbrev pub view_on : Stock → List GuestSpec → View
view_on stock guests = record { contents = contents_of stock guests; holder = (locks_of stock).holder; context_holder = (locks_of stock).context_holder }

-- entries by frame
unfoldable pub facts_of : Bays → ℕ → RmpEntry
facts_of bays f = (pages_of bays f).facts

-- words by frame
unfoldable pub words_of : Bays → ℕ → List ℕ
words_of bays f = (pages_of bays f).words

-- the bay of a frame is there
abbrev pub HasFrame : Stock → ℕ → Type 0
HasFrame stock frame = IsSome (stock.bays (frame / 512))

-- an entry of a page of 2 MB may be written: the page is the whole region that begins at a frame, whose locks have one holder
pub record IsWholeRegion (stock : Stock) (frame : ℕ) (entry : RmpEntry) : Type 0 where
  pub assigned : entry.assigned ≡ true
  pub aligned : entry.gpn % 512 ≡ 0
  pub first : frame % 512 ≡ 0
  pub one_holder : (f : ℕ) → f / 512 ≡ frame / 512 → (locks_of stock).holder f ≡ (locks_of stock).holder frame

-- all that is touched is there
pub record HasTouched (touched : Touched) (stock : Stock) : Type 0 where
  pub bays : (frame : ℕ) → touches_frame touched frame ≡ true → IsSome (stock.bays (region_of frame))
  pub contexts : (guest : ℕ) → touched.context ≡ Some guest → IsSome (stock.contexts guest)

-- all that an actor's next event touches is there
abbrev pub HasAll : ℕ → List GuestSpec → ActorPart → Stock → Type 0
HasAll frames guests part stock = HasTouched (touches frames guests part) stock
