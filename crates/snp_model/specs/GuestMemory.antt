-- A guest's private memory as the guest may rely on it: what its own events find there and leave there, and what was launched into it. No rule here but those of the opening and of the launch knows a frame; none knows an entry of the RMP or a page table. This project's own.
use Rattle.std.specs.Prelude.{◌≡◌, ℕ, zero, suc, ◌+◌, ◌==◌, Bool, true, not, ◌&&◌, ◌||◌, ◌≢◌, bit_xor, if◌then◌else◌, List, [], ◌∷◌, map, replicate, slice_index_or, slice_set, Option, Some, None, unwrap_or}
use Rattle.std.specs.FinMap.{FinMap, empty, get, insert, remove}
use Rattle.std.specs.Option.{option_map}
use Rattle.std.specs.Ordering.{nat_cmp}
use Rattle.snp_model.specs.declared.command.Command.TheVariants as commands
use Rattle.snp_model.specs.declared.entry.PageSize.{PageSize}
use Rattle.snp_model.specs.declared.event.Deed.{Deed}
use Rattle.snp_model.specs.declared.event.Deed.TheVariants as deeds
use Rattle.snp_model.specs.declared.event.Outcome.{Outcome}
use Rattle.snp_model.specs.declared.event.Outcome.TheVariants as outcomes
use Rattle.snp_model.specs.declared.item.Item.{Item}
use Rattle.snp_model.specs.declared.item.Item.TheVariants as items
use Rattle.snp_model.specs.declared.item.Op.{Op}
use Rattle.snp_model.specs.declared.item.Op.TheVariants.{Load, Store, Swap, Compare, Xor}
use Rattle.snp_model.specs.declared.scenario.PageSpec.{PageSpec}
use Rattle.snp_model.specs.declared.scenario.Role.{Role}
use Rattle.snp_model.specs.declared.scenario.Role.TheVariants.{Cpu, Host, Firmware}
use Rattle.snp_model.specs.declared.scenario.Scenario.{Scenario}
use Rattle.snp_model.specs.State.{Contents, State, part_of, zero_words}
use Rattle.snp_model.specs.Step.{event_of, after, line_at}
use Rattle.snp_model.specs.Facts.{frames_in}
use Rattle.snp_model.specs.Opening.{opening, words_from}
use Rattle.snp_model.specs.Verdicts.{same_size}

-- a page of it: 512 places, each with a number, or unknown
abbrev pub Places : Type 0
Places = List (Option ℕ)

-- a page of which no word is known
unfoldable pub unknown_places : Places
unknown_places = replicate 512 None

-- a guest's memory: the pages that it holds, by guest page number
abbrev pub Memory : Type 0
Memory = FinMap nat_cmp Places

-- a page is held
abbrev pub IsHeld : Memory → ℕ → Type 0
IsHeld memory gpn = get memory gpn ≢ None

-- the word at a place, where its page is held and the word is known
abbrev pub known : Memory → ℕ → ℕ → Option ℕ
known memory gpn index = unwrap_or (option_map (λ places. slice_index_or places index None) (get memory gpn)) None

-- memory where the word at a place of a held page is known to be this number
unfoldable pub with_known : ℕ → ℕ → ℕ → Memory → Memory
with_known gpn index value memory =
    unwrap_or (option_map (λ places. insert memory gpn (slice_set places index (Some value))) (get memory gpn)) memory

-- what an event does with a guest's memory
pub data Use : Type 0 where
  Untouched : Use
  Reads : (gpn index found : ℕ) → Use
  Writes : (gpn index value : ℕ) → Use
  Exchanges : (gpn index found value : ℕ) → Use
  Compares : (gpn index found : ℕ) (written : Bool) (expected next : ℕ) → Use
  Accepts : (gpn count : ℕ) → Use  -- pages whose words are unknown
  Rescinds : (gpn count : ℕ) → Use
  Launches : (gpn : ℕ) (words : List ℕ) → Use

-- what an access that passed does with a word, by its outcome and its operation
unfoldable pub use_of_word : Outcome → Op → ℕ → ℕ → Use
use_of_word (outcomes.Loaded found) Load gpn index = Reads gpn index found
use_of_word outcomes.Stored (Store value) gpn index = Writes gpn index value
use_of_word (outcomes.Swapped found) (Swap value) gpn index = Exchanges gpn index found value
use_of_word (outcomes.Swapped found) (Xor value) gpn index = Exchanges gpn index found (bit_xor found value)
use_of_word (outcomes.Compared found written) (Compare expected next) gpn index = Compares gpn index found written expected next
use_of_word outcome op gpn index = Untouched

-- what a PVALIDATE does that has ended with a carry flag, by the page and the size that its commit shows and its operands: nothing where Validated was as asked
unfoldable pub use_of_validation : ℕ → PageSize → PageSize → Bool → Bool → Use
use_of_validation gpn size asked validate carry =
    if carry || not (same_size size asked) then Untouched
    else if validate then Accepts gpn (frames_in size)
    else Rescinds gpn (frames_in size)

-- what an event of a guest's processor does, by its deed, its item and its outcome: a guest table is read where the RMP lets it, a private access reads and writes where it passed, PVALIDATE accepts and rescinds pages, and every other event does nothing
unfoldable pub use_of : Deed → Item → Option Outcome → Use
use_of (deeds.Table gpn index frame (Some value)) item outcome = Reads gpn index value
use_of (deeds.Access gpn index frame true) (items.Access address op) (Some outcome) = use_of_word outcome op gpn index
use_of (deeds.Commit frame gpn size) (items.Pvalidate address asked validate) (Some (outcomes.Carry carry)) = use_of_validation gpn size asked validate carry
use_of deed item outcome = Untouched

-- what an event of the firmware does with the memory of one guest, by what it leaves: a page that is launched for the guest gets the words that its frame then has, and every other event does nothing
unfoldable pub firmware_use : ℕ → Contents → Deed → Item → Option Outcome → Use
firmware_use guest left (deeds.Commit frame gpn size) (items.Firmware (commands.LaunchUpdate owner page page_type imi perms)) (Some (outcomes.Firmware status)) =
    if (owner == guest) && (status == 0) then Launches gpn (left.pages frame).words else Untouched
firmware_use guest left deed item outcome = Untouched

-- what an event does with the memory of one guest, by what it leaves: its own processors' events and the firmware's alone do anything
unfoldable pub use_for : ℕ → Contents → Role → Deed → Item → Option Outcome → Use
use_for guest left (Cpu owner vmpl npt paging) deed item outcome = if owner == guest then use_of deed item outcome else Untouched
use_for guest left Host deed item outcome = Untouched
use_for guest left Firmware deed item outcome = firmware_use guest left deed item outcome

-- what the next event of an actor does with the memory of a guest
unfoldable pub next_use : ℕ → State → ℕ → Use
next_use guest m actor =
    let part = part_of m actor in
    let event = event_of m actor in
    use_for guest (after m actor).contents part.role event.deed (line_at part.script part.item).item event.outcome

-- a word may be read: its page is held, and the word is this one or unknown
pub record MayRead (memory : Memory) (gpn index found : ℕ) : Type 0 where
  pub held : IsHeld memory gpn
  pub agrees : (word : ℕ) → known memory gpn index ≡ Some word → word ≡ found

-- an event finds what it needs in the memory
abbrev pub IsLegalUse : Memory → Use → Type 0
IsLegalUse memory Untouched = Unit {0}
IsLegalUse memory (Reads gpn index found) = MayRead memory gpn index found
IsLegalUse memory (Writes gpn index value) = IsHeld memory gpn
IsLegalUse memory (Exchanges gpn index found value) = MayRead memory gpn index found
IsLegalUse memory (Compares gpn index found written expected next) = MayRead memory gpn index found × (written ≡ (found == expected))
IsLegalUse memory (Accepts gpn count) = Unit {0}
IsLegalUse memory (Rescinds gpn count) = Unit {0}
IsLegalUse memory (Launches gpn words) = Unit {0}

-- memory with `count` pages from one on, each with these places
unfoldable pub with_pages : ℕ → ℕ → Places → Memory → Memory
with_pages gpn zero places memory = memory
with_pages gpn (suc count) places memory = with_pages (gpn + 1) count places (insert memory gpn places)

-- memory without `count` pages from one on
unfoldable pub without_pages : ℕ → ℕ → Memory → Memory
without_pages gpn zero memory = memory
without_pages gpn (suc count) memory = without_pages (gpn + 1) count (remove memory gpn)

-- the memory after it: a word that was read is known from then on, as is one that was written; pages are held from their launch or acceptance until they are rescinded
unfoldable pub used : Use → Memory → Memory
used Untouched memory = memory
used (Reads gpn index found) memory = with_known gpn index found memory
used (Writes gpn index value) memory = with_known gpn index value memory
used (Exchanges gpn index found value) memory = with_known gpn index value memory
used (Compares gpn index found written expected next) memory = with_known gpn index (if written then next else found) memory
used (Accepts gpn count) memory = with_pages gpn count unknown_places memory
used (Rescinds gpn count) memory = without_pages gpn count memory
used (Launches gpn words) memory = with_pages gpn 1 (map Some words) memory

-- memory with `count` further pages, whose words are those of the frames from `frame` on
unfoldable pub with_frames : (ℕ → List ℕ) → ℕ → ℕ → ℕ → Memory → Memory
with_frames words frame gpn zero memory = memory
with_frames words frame gpn (suc count) memory = insert (with_frames words (frame + 1) (gpn + 1) count memory) gpn (map Some (words frame))

-- memory with the pages of a page line, where it is a valid one of the guest
unfoldable pub with_line : ℕ → (ℕ → List ℕ) → PageSpec → Memory → Memory
with_line guest words page memory =
    if page.valid && (page.guest == guest) then with_frames words page.frame page.gpn (frames_in page.size) memory else memory

-- so with several page lines
unfoldable pub with_lines : ℕ → (ℕ → List ℕ) → List PageSpec → Memory → Memory
with_lines guest words [] memory = memory
with_lines guest words (page ∷ pages) memory = with_lines guest words pages (with_line guest words page memory)

-- a guest's memory at the opening
unfoldable pub opening_memory : Scenario → ℕ → Memory
opening_memory scenario guest = with_lines guest (words_from (λ _. zero_words) scenario.words) scenario.pages empty

-- a guest's memory after a schedule, from a state and the memory there
unfoldable pub memory_from : ℕ → State → Memory → List ℕ → Memory
memory_from guest m memory [] = memory
memory_from guest m memory (actor ∷ actors) = memory_from guest (after m actor) (used (next_use guest m actor) memory) actors

-- each event of a schedule finds what it needs in the memory that the events before it have left
unfoldable pub IsLegalFrom : ℕ → State → Memory → List ℕ → Type 0
IsLegalFrom guest m memory [] = Unit {0}
IsLegalFrom guest m memory (actor ∷ actors) =
    IsLegalUse memory (next_use guest m actor) × IsLegalFrom guest (after m actor) (used (next_use guest m actor) memory) actors

-- a guest's memory after a schedule of a scenario
abbrev pub memory_after : Scenario → List ℕ → ℕ → Memory
memory_after scenario schedule guest = memory_from guest (opening scenario) (opening_memory scenario guest) schedule

-- a guest's private accesses are one legal history of a memory of its own
abbrev pub IsLegal : Scenario → List ℕ → ℕ → Type 0
IsLegal scenario schedule guest = IsLegalFrom guest (opening scenario) (opening_memory scenario guest) schedule
