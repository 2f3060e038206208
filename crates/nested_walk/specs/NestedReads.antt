-- The reads of a nested walk that have happened (APM volume 2, 5.3 and 15.25.6): which lists of them there can be, and where the walk then stands. The values are any words at all.
use Rattle.std.specs.Prelude.{◌≡◌, ℕ, ◌+◌, ◌-◌, ◌≤◌, ◌||◌, IsTrue, List, [], ◌∷◌, length, map, slice_get, Some}
use Rattle.snp_model.specs.declared.walk.NestedPath.{NestedPath}
use Rattle.snp_model.specs.declared.walk.NestedEnd.{NestedEnd}
use Rattle.snp_model.specs.declared.walk.NestedEnd.TheVariants.{Read}
use Rattle.snp_model.specs.NestedWalk.{has_bit, nested_index, address_of, after_word}

-- one word that was read of a nested table
pub record NestedRead : Type 0 where
  pub frame : ℕ
  pub index : ℕ
  pub value : ℕ

-- the level of the table that is read at a place of the list, from 4 downwards
abbrev pub nested_level : ℕ → ℕ
nested_level place = 4 - place

-- these reads can have happened, and the walk then stands here: at the leaf, at the fault, or at its next read
pub record IsNestedWalk (path : NestedPath) (reads : List NestedRead) (stands : NestedEnd) : Type 0 where
  -- at most four
  pub few : length reads ≤ 4
  -- the first frame is the root
  pub root_first : (read : NestedRead) → slice_get reads 0 ≡ Some read → read.frame ≡ path.root
  -- each index comes from the guest page number
  pub indexes : (place : ℕ) (read : NestedRead) → slice_get reads place ≡ Some read → read.index ≡ nested_index path.gpn (nested_level place)
  -- each next frame comes from the value before it
  pub frames : (place : ℕ) (read next : NestedRead) → slice_get reads place ≡ Some read → slice_get reads (place + 1) ≡ Some next → next.frame ≡ address_of read.value
  -- and that value neither faults nor is a leaf
  pub goes_on : (place : ℕ) (read next : NestedRead) → slice_get reads place ≡ Some read → slice_get reads (place + 1) ≡ Some next → after_word path (nested_level place) read.value ≡ Read next.frame next.index
  -- where nothing was read, the root is read next
  pub first : length reads ≡ 0 → stands ≡ Read path.root (nested_index path.gpn 4)
  -- else the last value says where the walk stands
  pub last : (place : ℕ) (read : NestedRead) → length reads ≡ place + 1 → slice_get reads place ≡ Some read → stands ≡ after_word path (nested_level place) read.value

-- the words of reads
abbrev pub nested_values : List NestedRead → List ℕ
nested_values reads = map (λ read. read.value) reads

-- the reads of a walk from a level on, where it is fed with words: a word that comes after its end is not read
unfoldable pub reads_from : NestedPath → ℕ → NestedEnd → List ℕ → List NestedRead
reads_from path level (Read frame index) (word ∷ words) =
    record { frame = frame; index = index; value = word } ∷ reads_from path (level - 1) (after_word path level word) words
reads_from path level stands words = []

-- the reads of a walk that is fed with words
abbrev pub nested_reads : NestedPath → List ℕ → List NestedRead
nested_reads path words = reads_from path 4 (Read path.root (nested_index path.gpn 4)) words

-- an entry lets a walk pass: it is present, a user's, and writable where the access writes or the address is a guest table's
pub record IsPermitted (path : NestedPath) (read : NestedRead) : Type 0 where
  pub present : IsTrue (has_bit read.value 0x1)
  pub user : IsTrue (has_bit read.value 0x4)
  pub writable : IsTrue (path.write || path.table) → IsTrue (has_bit read.value 0x2)
