-- What a `GuestWalk` answers where it is fed with a word.
use Rattle.std.specs.Prelude.{ℕ, ◌^◌, ◌<◌, List, ⊤}
use Rattle.snp_model.specs.declared.walk.GuestPath.{GuestPath}
use Rattle.snp_model.specs.declared.walk.GuestEnd.{GuestEnd}
use Rattle.snp_model.specs.declared.walk.GuestEnd.TheVariants.{Read, Leaf, Fault}
use Rattle.snp_model.specs.GuestWalk.{guest_end}
use Rattle.guest_walk.specs.declared.walk.GuestWalked.{GuestWalked}
use Rattle.guest_walk.specs.declared.walk.GuestWalked.TheVariants.{More, Leaf as LeafAt, Pf}

-- the answer for a walk that has read these words and now stands here
abbrev pub answer_at : GuestPath → List ℕ → GuestEnd → GuestWalked
answer_at path words (Read gpn index) = More (record { path = path; words = words })
answer_at path words (Leaf gpn private size) = LeafAt gpn private size
answer_at path words (Fault code) = Pf code

-- the answer for a walk that has read these words
abbrev pub answer_of : GuestPath → List ℕ → GuestWalked
answer_of path words = answer_at path words (guest_end path words)

-- the guest page number of a leaf is below 2^36
abbrev pub LeafIsBelow : GuestWalked → Type 0
LeafIsBelow (More walk) = ⊤
LeafIsBelow (LeafAt gpn private size) = gpn < 2 ^ 36
LeafIsBelow (Pf code) = ⊤

-- where the walk of an answer stands
abbrev pub end_of : GuestWalked → GuestEnd
end_of (More walk) = guest_end walk.path walk.words
end_of (LeafAt gpn private size) = Leaf gpn private size
end_of (Pf code) = Fault code
