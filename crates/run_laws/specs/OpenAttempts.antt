-- What an open attempt has done: the reads of a guest processor's item are those that its walks call for, one after the other, where nothing refused an instruction as it began, and an instruction may then have taken its lock (APM volume 2, 5.3 and 15.25.6); a command of the firmware has taken its locks in their order (after the SEV-SNP firmware ABI 56860, chapter 8). The division into events is this project's own.
use Rattle.std.specs.Prelude.{◌≡◌, ◌⊎◌, ℕ, ◌<◌, Bool, true, List, [], ◌∷◌, ◌++◌, All, length, map, Option, Some, None, IsSome}
use Rattle.snp_model.specs.declared.command.Command.{Command}
use Rattle.snp_model.specs.declared.entry.PageSize.{PageSize}
use Rattle.snp_model.specs.declared.event.Deed.{Deed}
use Rattle.snp_model.specs.declared.event.Deed.TheVariants as deeds
use Rattle.snp_model.specs.declared.event.Outcome.{Outcome}
use Rattle.snp_model.specs.declared.item.Item.{Item}
use Rattle.snp_model.specs.declared.item.Item.TheVariants as items
use Rattle.snp_model.specs.declared.scenario.Role.{Role}
use Rattle.snp_model.specs.declared.scenario.Role.TheVariants.{Cpu, Host, Firmware}
use Rattle.snp_model.specs.declared.walk.Lookup.{Lookup}
use Rattle.snp_model.specs.declared.walk.Need.TheVariants as needs
use Rattle.snp_model.specs.Firmware.{CommandPage, guest_of, pages_of}
use Rattle.snp_model.specs.GuestWalk.{levels_of, is_canonical}
use Rattle.snp_model.specs.InstructionStep.{page_lookup, validate_begin, adjust_begin}
use Rattle.snp_model.specs.Locks.{page_lock}
use Rattle.snp_model.specs.Sealing.{sealing_of}
use Rattle.snp_model.specs.State.{PageLock, Computed, Standing, ActorPart, Contents, State, word_of, nothing_taken}
use Rattle.snp_model.specs.Moves.{table_word}
use Rattle.snp_model.specs.Step.{line_at}
use Rattle.snp_model.specs.Walking.{Processor, lookup_of, need_after}

-- after some deeds an item calls for this one: a read of the word that it then needs
abbrev pub CallsFor : ℕ → Processor → Lookup → List Deed → Deed → Type 0
CallsFor frames cpu lookup made (deeds.Nested frame index value) = need_after frames cpu lookup made ≡ needs.Nested frame index
CallsFor frames cpu lookup made (deeds.Table gpn index frame (Some value)) =
    (size : PageSize) × (need_after frames cpu lookup made ≡ needs.Table gpn index frame size)
CallsFor frames cpu lookup made deed = ⊥

-- so for each of the deeds that follow
unfoldable pub AreCalledFor : ℕ → Processor → Lookup → List Deed → List Deed → Type 0
AreCalledFor frames cpu lookup made [] = Unit {0}
AreCalledFor frames cpu lookup made (deed ∷ others) =
    CallsFor frames cpu lookup made deed × AreCalledFor frames cpu lookup (made ++ deed ∷ []) others

-- an item has begun, at a canonical address, and has read the words of its walks
unfoldable pub IsWalk : ℕ → Processor → Lookup → List Deed → Type 0
IsWalk frames cpu lookup [] = Unit {0}
IsWalk frames cpu lookup (deeds.Begin ∷ others) = (is_canonical (levels_of cpu.paging) lookup.address ≡ true) × AreCalledFor frames cpu lookup (deeds.Begin ∷ []) others
IsWalk frames cpu lookup (deed ∷ others) = ⊥

-- an item has walked to a page, whose lock it has then taken
pub record HasLocked (frames : ℕ) (cpu : Processor) (lookup : Lookup) (lock : PageLock) (made : List Deed) : Type 0 where
  pub walked : List Deed
  pub gpn : ℕ
  pub private : Bool
  pub leaf : PageSize
  pub walk : IsWalk frames cpu lookup walked
  pub arrived : need_after frames cpu lookup walked ≡ needs.Data gpn private lock.frame leaf
  pub then_locked : made ≡ walked ++ deeds.Lock lock.frame ∷ []

-- an item that locks the page at which its walks arrive: it walks while it has no lock, and it takes one at most
abbrev pub IsLockingWalk : ℕ → Processor → Lookup → List PageLock → List Deed → Type 0
IsLockingWalk frames cpu lookup [] made = IsWalk frames cpu lookup made
IsLockingWalk frames cpu lookup (lock ∷ others) made = HasLocked frames cpu lookup lock made × (others ≡ [])

-- an attempt of such an item, by what the item is refused with as it begins
pub record IsLockingAttempt (frames : ℕ) (cpu : Processor) (lookup : Lookup) (refusal : Option Outcome) (locks : List PageLock) (made : List Deed) : Type 0 where
  pub walk : IsLockingWalk frames cpu lookup locks made
  -- one that has begun was refused with nothing
  pub admitted : 0 < length made → refusal ≡ None

-- an item that takes one lock at once
abbrev pub IsLocking : List PageLock → List Deed → Type 0
IsLocking [] made = made ≡ []
IsLocking (lock ∷ others) made = (made ≡ deeds.Lock lock.frame ∷ []) × (others ≡ [])

-- the lock of a page of a command: its frame is in memory, and the lock covers the page in which it stands
pub record IsLockOf (frames : ℕ) (page : CommandPage) (lock : PageLock) : Type 0 where
  pub size : PageSize
  pub covers : lock ≡ page_lock size page.frame
  pub inside : page.frame < frames

-- the locks of the first of a command's pages, in their order
unfoldable pub AreLocksOf : ℕ → List CommandPage → List PageLock → Type 0
AreLocksOf frames pages [] = Unit {0}
AreLocksOf frames [] (lock ∷ locks) = ⊥
AreLocksOf frames (page ∷ pages) (lock ∷ locks) = IsLockOf frames page lock × AreLocksOf frames pages locks

-- the deeds that have locked a context, and pages, and that have made a page
abbrev pub context_deeds : Option ℕ → List Deed
context_deeds None = []
context_deeds (Some guest) = deeds.LockContext guest ∷ []

abbrev pub lock_deeds : List PageLock → List Deed
lock_deeds locks = map (λ lock. deeds.Lock lock.frame) locks

abbrev pub compute_deeds : Option Computed → List Deed
compute_deeds None = []
compute_deeds (Some made) = deeds.Compute ∷ []

-- an attempt of a command of the firmware that has taken and made this, by these deeds
pub record IsCommand (frames : ℕ) (command : Command) (standing : Standing) (made : List Deed) : Type 0 where
  -- it locks the context of its guest before all else
  pub context : (standing ≡ nothing_taken) ⊎ (standing.context_lock ≡ guest_of command)
  -- then its pages
  pub pages : AreLocksOf frames (pages_of command) standing.locks
  -- and then it may make a page, if it seals or opens one
  pub computed : IsSome standing.computed → IsSome (sealing_of command) × (length standing.locks ≡ length (pages_of command))
  -- and that is all it has done
  pub deeds : made ≡ context_deeds standing.context_lock ++ lock_deeds standing.locks ++ compute_deeds standing.computed

-- an attempt of an item that has taken and made this, by these deeds and by the role of its actor; one that neither walks nor locks ends with its first event
unfoldable pub IsAttempt : ℕ → Role → Item → Standing → List Deed → Type 0
IsAttempt frames (Cpu guest vmpl npt paging) (items.Access address op) standing made =
    IsWalk frames (record { guest = guest; vmpl = vmpl; npt = npt; paging = paging }) (lookup_of address op) made
IsAttempt frames (Cpu guest vmpl npt paging) (items.Pvalidate address size validate) standing made =
    let cpu : Processor = record { guest = guest; vmpl = vmpl; npt = npt; paging = paging } in
    IsLockingAttempt frames cpu (page_lookup address) (validate_begin cpu address size) standing.locks made
IsAttempt frames (Cpu guest vmpl npt paging) (items.Rmpadjust address size target mask vmsa) standing made =
    let cpu : Processor = record { guest = guest; vmpl = vmpl; npt = npt; paging = paging } in
    IsLockingAttempt frames cpu (page_lookup address) (adjust_begin cpu address size target mask) standing.locks made
IsAttempt frames (Cpu guest vmpl npt paging) (items.Rmpupdate update) standing made = made ≡ []
IsAttempt frames (Cpu guest vmpl npt paging) (items.Psmash frame) standing made = made ≡ []
IsAttempt frames (Cpu guest vmpl npt paging) (items.Firmware command) standing made = made ≡ []
IsAttempt frames (Cpu guest vmpl npt paging) (items.Skip count test) standing made = made ≡ []
IsAttempt frames Host (items.Access address op) standing made = made ≡ []
IsAttempt frames Host (items.Pvalidate address size validate) standing made = made ≡ []
IsAttempt frames Host (items.Rmpadjust address size target mask vmsa) standing made = made ≡ []
IsAttempt frames Host (items.Rmpupdate update) standing made = IsLocking standing.locks made
IsAttempt frames Host (items.Psmash frame) standing made = IsLocking standing.locks made
IsAttempt frames Host (items.Firmware command) standing made = made ≡ []
IsAttempt frames Host (items.Skip count test) standing made = made ≡ []
IsAttempt frames Firmware (items.Access address op) standing made = made ≡ []
IsAttempt frames Firmware (items.Pvalidate address size validate) standing made = made ≡ []
IsAttempt frames Firmware (items.Rmpadjust address size target mask vmsa) standing made = made ≡ []
IsAttempt frames Firmware (items.Rmpupdate update) standing made = made ≡ []
IsAttempt frames Firmware (items.Psmash frame) standing made = made ≡ []
IsAttempt frames Firmware (items.Firmware command) standing made = IsCommand frames command standing made
IsAttempt frames Firmware (items.Skip count test) standing made = made ≡ []

-- the open attempt of an actor
abbrev pub IsWalking : ℕ → ActorPart → Type 0
IsWalking frames part = IsAttempt frames part.role (line_at part.script part.item).item part.standing part.deeds

-- so of each actor
abbrev pub AreWalking : State → Type 0
AreWalking m = All (IsWalking m.frames) m.actors

-- what an event reads of a table is the memory's word at that event; the nested walker sees 0 in an assigned frame
abbrev pub ReadsMemory : Contents → Deed → Type 0
ReadsMemory contents (deeds.Nested frame index value) = value ≡ table_word (contents.pages frame) index
ReadsMemory contents (deeds.Table gpn index frame (Some value)) = value ≡ word_of (contents.pages frame) index
ReadsMemory contents deed = Unit {0}
