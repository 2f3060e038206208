-- The walk of nested page tables (APM volume 2, 5.3 and 15.25.6), over any words at all: the words are fed, and no rule here ties them to a memory.
use Rattle.std.specs.Prelude.{ℕ, ◌+◌, ◌-◌, ◌*◌, ◌/◌, ◌%◌, ◌^◌, ◌==◌, nat_lt, Bool, true, false, not, ◌&&◌, ◌||◌, if◌then◌else◌, List, ◌∷◌}
use Rattle.snp_model.specs.declared.entry.PageSize.TheVariants.{Small, Large}
use Rattle.snp_model.specs.declared.walk.NestedPath.{NestedPath}
use Rattle.snp_model.specs.declared.walk.NestedEnd.{NestedEnd}
use Rattle.snp_model.specs.declared.walk.NestedEnd.TheVariants.{Read, Leaf, Fault}
use Rattle.snp_model.specs.Faults.{code_of}

-- whether the bit with this value is set
abbrev pub has_bit : ℕ → ℕ → Bool
has_bit word value = word / value % 2 == 1

-- the index at a level, 4 to 1, into the table of that level
abbrev pub nested_index : ℕ → ℕ → ℕ
nested_index gpn level = gpn / 512 ^ (level - 1) % 512

-- the address of a table entry, as a frame: bits 47:12
abbrev pub address_of : ℕ → ℕ
address_of word = word / 4096 % 0x10_0000_0000

-- whether an entry is a 2 MB leaf: bit 7, at level 2 only
abbrev pub is_large_leaf : ℕ → ℕ → Bool
is_large_leaf level word = (level == 2) && has_bit word 0x80

-- the frame that an entry leads to
abbrev pub frame_below : NestedPath → ℕ → ℕ → ℕ
frame_below path level word =
    if is_large_leaf level word then address_of word / 512 * 512 + path.gpn % 512 else address_of word

-- the fault of a walk, with P where the entry is present
abbrev pub walk_fault : NestedPath → Bool → NestedEnd
walk_fault path present =
    Fault (code_of (record { present = present; write = path.write; rmp = false; table = path.table; private = path.private; size = false; vmpl = false }))

-- where the walk stands once it has read a word at a level: bit 0 is present, bit 2 user, bit 1 writable; guests walk as users, and a guest table's address is walked as a write
unfoldable pub after_word : NestedPath → ℕ → ℕ → NestedEnd
after_word path level word =
    if not (has_bit word 0x1) || not (nat_lt (frame_below path level word) path.frames) then walk_fault path false
    else if not (has_bit word 0x4) then walk_fault path true
    else if (path.write || path.table) && not (has_bit word 0x2) then walk_fault path true
    else if is_large_leaf level word then Leaf (frame_below path level word) Large
    else if level == 1 then Leaf (frame_below path level word) Small
    else Read (frame_below path level word) (nested_index path.gpn (level - 1))

-- where the walk stands after further words, from a level on
unfoldable pub walk_from : NestedPath → ℕ → NestedEnd → List ℕ → NestedEnd
walk_from path level (Read frame index) (word ∷ words) = walk_from path (level - 1) (after_word path level word) words
walk_from path level stands words = stands

-- the first word that it reads
abbrev pub first_read : NestedPath → NestedEnd
first_read path = Read path.root (nested_index path.gpn 4)

-- where the walk stands after the words that it has read so far
abbrev pub nested_end : NestedPath → List ℕ → NestedEnd
nested_end path words = walk_from path 4 (first_read path) words
