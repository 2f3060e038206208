-- The walk of a guest's page tables (APM volume 2, 5.3), over any words at all: the words are fed, and no rule here ties them to a memory.
use Rattle.std.specs.Prelude.{ℕ, ◌+◌, ◌-◌, ◌*◌, ◌/◌, ◌%◌, ◌^◌, ◌==◌, Bool, true, false, not, ◌&&◌, ◌||◌, if◌then◌else◌, List, ◌∷◌}
use Rattle.snp_model.specs.declared.entry.PageSize.TheVariants.{Small, Large}
use Rattle.snp_model.specs.declared.scenario.Paging.{Paging}
use Rattle.snp_model.specs.declared.scenario.Paging.TheVariants.{Flat, Four, Five}
use Rattle.snp_model.specs.declared.walk.GuestPath.{GuestPath}
use Rattle.snp_model.specs.declared.walk.GuestEnd.{GuestEnd}
use Rattle.snp_model.specs.declared.walk.GuestEnd.TheVariants.{Read, Leaf, Fault}
use Rattle.snp_model.specs.Faults.{bit}
use Rattle.snp_model.specs.NestedWalk.{has_bit, address_of, is_large_leaf}

-- how many levels of guest tables there are; an address without guest tables is held to the rule of four
abbrev pub levels_of : Paging → ℕ
levels_of Flat = 4
levels_of (Four root) = 4
levels_of (Five root) = 5

-- whether the bits of an address from this one on are all clear or all set
abbrev pub is_extended : ℕ → ℕ → Bool
is_extended bit address = (address / 2 ^ bit == 0) || (address / 2 ^ bit == 2 ^ (64 - bit) - 1)

-- whether an address is canonical for so many levels: its bits 63:56 are all equal for five, and its bits 63:47 for four
abbrev pub is_canonical : ℕ → ℕ → Bool
is_canonical levels address = if levels == 5 then is_extended 56 address else is_extended 47 address

-- the index at a level into the table of that level: bits 20:12 of the address at level 1, and 9 bits further up for each level above
abbrev pub guest_index : ℕ → ℕ → ℕ
guest_index address level = address / 4096 / 512 ^ (level - 1) % 512

-- the C bit: whether the accesses that go through a leaf are private
abbrev pub is_private_leaf : ℕ → Bool
is_private_leaf word = has_bit word 0x8_0000_0000_0000

-- the guest page number that an entry leads to
abbrev pub gpn_below : GuestPath → ℕ → ℕ → ℕ
gpn_below path level word =
    if is_large_leaf level word then address_of word / 512 * 512 + guest_index path.address 1 else address_of word

-- the fault of a walk: P where the entry is present, and W where the access writes
abbrev pub guest_fault : GuestPath → Bool → GuestEnd
guest_fault path present = Fault (bit present 0x1 + bit path.write 0x2)

-- where the walk stands once it has read a word at a level: bit 0 is present, bit 1 writable
unfoldable pub after_guest_word : GuestPath → ℕ → ℕ → GuestEnd
after_guest_word path level word =
    if not (has_bit word 0x1) then guest_fault path false
    else if path.write && not (has_bit word 0x2) then guest_fault path true
    else if is_large_leaf level word then Leaf (gpn_below path level word) (is_private_leaf word) Large
    else if level == 1 then Leaf (gpn_below path level word) (is_private_leaf word) Small
    else Read (gpn_below path level word) (guest_index path.address (level - 1))

-- where the walk stands after further words, from a level on
unfoldable pub guest_walk_from : GuestPath → ℕ → GuestEnd → List ℕ → GuestEnd
guest_walk_from path level (Read gpn index) (word ∷ words) = guest_walk_from path (level - 1) (after_guest_word path level word) words
guest_walk_from path level stands words = stands

-- the first word that it reads
abbrev pub first_guest_read : GuestPath → GuestEnd
first_guest_read path = Read path.root (guest_index path.address path.levels)

-- where the walk stands after the words that it has read so far
abbrev pub guest_end : GuestPath → List ℕ → GuestEnd
guest_end path words = guest_walk_from path path.levels (first_guest_read path) words
