-- What a `NestedWalk` answers where it is fed with a word.
use Rattle.std.specs.Prelude.{ℕ, ◌<◌, List, ⊤}
use Rattle.snp_model.specs.declared.walk.NestedPath.{NestedPath}
use Rattle.snp_model.specs.declared.walk.NestedEnd.{NestedEnd}
use Rattle.snp_model.specs.declared.walk.NestedEnd.TheVariants.{Read, Leaf, Fault}
use Rattle.snp_model.specs.NestedWalk.{nested_end}
use Rattle.nested_walk.specs.declared.walk.Walked.{Walked}
use Rattle.nested_walk.specs.declared.walk.Walked.TheVariants.{More, Leaf as LeafAt, Npf}

-- the answer for a walk that has read these words and now stands here
abbrev pub answer_at : NestedPath → List ℕ → NestedEnd → Walked
answer_at path words (Read frame index) = More (record { path = path; words = words })
answer_at path words (Leaf frame size) = LeafAt frame size
answer_at path words (Fault code) = Npf code

-- the answer for a walk that has read these words
abbrev pub answer_of : NestedPath → List ℕ → Walked
answer_of path words = answer_at path words (nested_end path words)

-- the frame of a leaf is one of so many
abbrev pub LeafIsInside : ℕ → Walked → Type 0
LeafIsInside frames (More walk) = ⊤
LeafIsInside frames (LeafAt frame size) = frame < frames
LeafIsInside frames (Npf code) = ⊤

-- where the walk of an answer stands
abbrev pub end_of : Walked → NestedEnd
end_of (More walk) = nested_end walk.path walk.words
end_of (LeafAt frame size) = Leaf frame size
end_of (Npf code) = Fault code
