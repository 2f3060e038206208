-- The reads of a guest walk that have happened (APM volume 2, 5.3): which lists of them there can be, and where the walk then stands. The values are any words at all; each read is of a guest page, which a nested walk of its own finds.
use Rattle.std.specs.Prelude.{◌≡◌, ℕ, ◌+◌, ◌-◌, ◌≤◌, IsTrue, List, [], ◌∷◌, length, map, slice_get, Some}
use Rattle.snp_model.specs.declared.walk.GuestPath.{GuestPath}
use Rattle.snp_model.specs.declared.walk.GuestEnd.{GuestEnd}
use Rattle.snp_model.specs.declared.walk.GuestEnd.TheVariants.{Read}
use Rattle.snp_model.specs.NestedWalk.{has_bit, address_of}
use Rattle.snp_model.specs.GuestWalk.{guest_index, after_guest_word}

-- one word that was read of a guest table
pub record GuestRead : Type 0 where
  pub gpn : ℕ
  pub index : ℕ
  pub value : ℕ

-- the level of the table that is read at a place of the list, from the path's levels downwards
abbrev pub guest_level : GuestPath → ℕ → ℕ
guest_level path place = path.levels - place

-- these reads can have happened, and the walk then stands here: at the leaf, at the fault, or at its next read
pub record IsGuestWalk (path : GuestPath) (reads : List GuestRead) (stands : GuestEnd) : Type 0 where
  -- at most one a level
  pub few : length reads ≤ path.levels
  -- the first table is the root
  pub root_first : (read : GuestRead) → slice_get reads 0 ≡ Some read → read.gpn ≡ path.root
  -- each index comes from the address
  pub indexes : (place : ℕ) (read : GuestRead) → slice_get reads place ≡ Some read → read.index ≡ guest_index path.address (guest_level path place)
  -- each next table comes from the value before it
  pub tables : (place : ℕ) (read next : GuestRead) → slice_get reads place ≡ Some read → slice_get reads (place + 1) ≡ Some next → next.gpn ≡ address_of read.value
  -- and that value neither faults nor is a leaf
  pub goes_on : (place : ℕ) (read next : GuestRead) → slice_get reads place ≡ Some read → slice_get reads (place + 1) ≡ Some next → after_guest_word path (guest_level path place) read.value ≡ Read next.gpn next.index
  -- where nothing was read, the root is read next
  pub first : length reads ≡ 0 → stands ≡ Read path.root (guest_index path.address path.levels)
  -- else the last value says where the walk stands
  pub last : (place : ℕ) (read : GuestRead) → length reads ≡ place + 1 → slice_get reads place ≡ Some read → stands ≡ after_guest_word path (guest_level path place) read.value

-- the words of reads
abbrev pub guest_values : List GuestRead → List ℕ
guest_values reads = map (λ read. read.value) reads

-- the reads of a walk from a level on, where it is fed with words: a word that comes after its end is not read
unfoldable pub guest_reads_from : GuestPath → ℕ → GuestEnd → List ℕ → List GuestRead
guest_reads_from path level (Read gpn index) (word ∷ words) =
    record { gpn = gpn; index = index; value = word } ∷ guest_reads_from path (level - 1) (after_guest_word path level word) words
guest_reads_from path level stands words = []

-- the reads of a walk that is fed with words
abbrev pub guest_reads : GuestPath → List ℕ → List GuestRead
guest_reads path words = guest_reads_from path path.levels (Read path.root (guest_index path.address path.levels)) words

-- an entry lets a walk pass: it is present, and writable where the access writes
pub record IsGuestPermitted (path : GuestPath) (read : GuestRead) : Type 0 where
  pub present : IsTrue (has_bit read.value 0x1)
  pub writable : IsTrue path.write → IsTrue (has_bit read.value 0x2)
