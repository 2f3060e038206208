-- Where a walk goes on.
use Rattle.std.specs.Prelude.{⊤}
use Rattle.snp_model.specs.declared.walk.NestedEnd.{NestedEnd}
use Rattle.snp_model.specs.declared.walk.NestedEnd.TheVariants.{Read, Leaf, Fault}

-- the walk reads a word
abbrev pub IsRead : NestedEnd → Type 0
IsRead (Read frame index) = ⊤
IsRead (Leaf frame size) = ⊥
IsRead (Fault code) = ⊥
