-- A walk that goes over its words.
use Rattle.std.proofs.Common.{◌≡◌, ℕ, Bool, suc, ◌+◌, ◌-◌, ◌<◌, ◌≤◌, List, [], ◌∷◌, ◌++◌, length, get_or, drop, refl, sym, ap, ◌∙◌, arith, drop-cons}
use Rattle.std.proofs.lemmas.List.{drop_all}
use Rattle.snp_model.specs.declared.entry.PageSize.{PageSize}
use Rattle.snp_model.specs.declared.walk.GuestPath.{GuestPath}
use Rattle.snp_model.specs.declared.walk.GuestEnd.{GuestEnd}
use Rattle.snp_model.specs.declared.walk.GuestEnd.TheVariants.{Read, Leaf, Fault}
use Rattle.snp_model.specs.GuestWalk.{guest_index, after_guest_word, guest_walk_from, first_guest_read, guest_end}
use Rattle.guest_walk.proofs.GuestReadsLaws.{link_of, guest_end-push}

walk_next : (path : GuestPath) (level table index word : ℕ) (words : List ℕ) → guest_walk_from path level (Read table index) (word ∷ words) ≡ guest_walk_from path (level - 1) (after_guest_word path level word) words
unfolding guest_walk_from
walk_next path level table index word words = refl

-- the next word
pub stand_next : (path : GuestPath) (level table index i : ℕ) (words : List ℕ) (whole next : GuestEnd) → i < length words
    → whole ≡ guest_walk_from path level (Read table index) (drop i words) → next ≡ after_guest_word path level (get_or words i 0) → whole ≡ guest_walk_from path (level - 1) next (drop (i + 1) words)
stand_next path level table index i words whole next h w n =
    let e : suc i ≡ i + 1 = omega arith in
    w ∙ ap (guest_walk_from path level (Read table index)) (drop-cons words i 0 h) ∙ walk_next path level table index _ _
    ∙ ap (λ (k : ℕ). guest_walk_from path (level - 1) (after_guest_word path level (get_or words i 0)) (drop k words)) e
    ∙ ap (λ (s : GuestEnd). guest_walk_from path (level - 1) s (drop (i + 1) words)) (sym n)

-- it goes on
pub stand_more : (path : GuestPath) (level table index i frame place : ℕ) (words : List ℕ) (whole : GuestEnd) → i < length words
    → whole ≡ guest_walk_from path level (Read table index) (drop i words) → Read frame place ≡ after_guest_word path level (get_or words i 0)
    → whole ≡ guest_walk_from path (level - 1) (Read frame (guest_index path.address (level - 1))) (drop (i + 1) words)
stand_more path level table index i frame place words whole h w n =
    let l = link_of path level _ frame place (sym n) in
    stand_next path level table index i words whole (Read frame place) h w n
    ∙ ap (λ (k : ℕ). guest_walk_from path (level - 1) (Read frame k) (drop (i + 1) words)) l.index_is

pub not_last : (path : GuestPath) (level word frame place : ℕ) → Read frame place ≡ after_guest_word path level word → 1 ≤ level → 1 < level
not_last path level word frame place n h = let l = link_of path level word frame place (sym n) in omega (arith, l.not_last)

walk_leaf : (path : GuestPath) (level frame : ℕ) (private : Bool) (size : PageSize) (words : List ℕ) → guest_walk_from path level (Leaf frame private size) words ≡ Leaf frame private size
unfolding guest_walk_from
walk_leaf path level frame private size words = refl

walk_fault : (path : GuestPath) (level code : ℕ) (words : List ℕ) → guest_walk_from path level (Fault code) words ≡ Fault code
unfolding guest_walk_from
walk_fault path level code words = refl

walk_none : (path : GuestPath) (level : ℕ) (stands : GuestEnd) → guest_walk_from path level stands [] ≡ stands
unfolding guest_walk_from
walk_none path level (Read f i) = refl
walk_none path level (Leaf f b s) = refl
walk_none path level (Fault c) = refl

-- it ends
pub stand_leaf : (path : GuestPath) (level table index i frame : ℕ) (private : Bool) (size : PageSize) (words : List ℕ) (whole : GuestEnd) → i < length words
    → whole ≡ guest_walk_from path level (Read table index) (drop i words) → Leaf frame private size ≡ after_guest_word path level (get_or words i 0) → Leaf frame private size ≡ whole
stand_leaf path level table index i frame private size words whole h w n =
    sym (stand_next path level table index i words whole (Leaf frame private size) h w n ∙ walk_leaf path (level - 1) frame private size _)

pub stand_fault : (path : GuestPath) (level table index i code : ℕ) (words : List ℕ) (whole : GuestEnd) → i < length words
    → whole ≡ guest_walk_from path level (Read table index) (drop i words) → Fault code ≡ after_guest_word path level (get_or words i 0) → Fault code ≡ whole
stand_fault path level table index i code words whole h w n =
    sym (stand_next path level table index i words whole (Fault code) h w n ∙ walk_fault path (level - 1) code _)

-- no word is left
pub stand_last : (path : GuestPath) (level table index i : ℕ) (words : List ℕ) (whole : GuestEnd) → length words ≤ i
    → whole ≡ guest_walk_from path level (Read table index) (drop i words) → Read table index ≡ whole
stand_last path level table index i words whole h w =
    sym (w ∙ ap (guest_walk_from path level (Read table index)) (drop_all i words h) ∙ walk_none path level (Read table index))

-- one word more where it has ended
leaf_stays : (path : GuestPath) (level : ℕ) (stands : GuestEnd) (words : List ℕ) (word frame : ℕ) (private : Bool) (size : PageSize) → guest_walk_from path level stands words ≡ Leaf frame private size
    → guest_walk_from path level stands (words ++ word ∷ []) ≡ Leaf frame private size
unfolding guest_walk_from
leaf_stays path level (Read f i) [] word frame private size e = cc
leaf_stays path level (Read f i) (w ∷ ws) word frame private size e = leaf_stays path (level - 1) (after_guest_word path level w) ws word frame private size e
leaf_stays path level (Leaf f b s) words word frame private size e = e
leaf_stays path level (Fault c) words word frame private size e = e

fault_stays : (path : GuestPath) (level : ℕ) (stands : GuestEnd) (words : List ℕ) (word code : ℕ) → guest_walk_from path level stands words ≡ Fault code
    → guest_walk_from path level stands (words ++ word ∷ []) ≡ Fault code
unfolding guest_walk_from
fault_stays path level (Read f i) [] word code e = cc
fault_stays path level (Read f i) (w ∷ ws) word code e = fault_stays path (level - 1) (after_guest_word path level w) ws word code e
fault_stays path level (Leaf f b s) words word code e = e
fault_stays path level (Fault c) words word code e = e

pub leaf_with : (path : GuestPath) (words : List ℕ) (word frame : ℕ) (private : Bool) (size : PageSize) → Leaf frame private size ≡ guest_end path words → Leaf frame private size ≡ guest_end path (words ++ word ∷ [])
leaf_with path words word frame private size e = sym (leaf_stays path path.levels (first_guest_read path) words word frame private size (sym e))

pub fault_with : (path : GuestPath) (words : List ℕ) (word code : ℕ) → Fault code ≡ guest_end path words → Fault code ≡ guest_end path (words ++ word ∷ [])
fault_with path words word code e = sym (fault_stays path path.levels (first_guest_read path) words word code (sym e))

pub read_with : (path : GuestPath) (words : List ℕ) (word frame index : ℕ) (next : GuestEnd) → Read frame index ≡ guest_end path words → next ≡ after_guest_word path (path.levels - length words) word → next ≡ guest_end path (words ++ word ∷ [])
read_with path words word frame index next e n = n ∙ sym (guest_end-push path words word frame index (sym e))

-- a walk at a read has read fewer than four words
few_next : (path : GuestPath) (level frame place word : ℕ) (words : List ℕ) (next : GuestEnd) → 1 ≤ level → after_guest_word path level word ≡ next → guest_walk_from path (level - 1) next words ≡ Read frame place
    → ((f i : ℕ) → 1 ≤ level - 1 → guest_walk_from path (level - 1) (Read f i) words ≡ Read frame place → length words < level - 1) → length (word ∷ words) < level
few_next path level frame place word words (Read f i) h n e rest =
    let l = link_of path level word f i n in
    let r = rest f i (omega (arith, l.not_last)) e in
    omega arith
few_next path level frame place word words (Leaf f b s) h n e rest = let z = walk_leaf path (level - 1) f b s words in absurd (cc)
few_next path level frame place word words (Fault c) h n e rest = let z = walk_fault path (level - 1) c words in absurd (cc)

few_from : (path : GuestPath) (level table index frame place : ℕ) (words : List ℕ) → 1 ≤ level → guest_walk_from path level (Read table index) words ≡ Read frame place → length words < level
few_from path level table index frame place [] h e = omega arith
few_from path level table index frame place (word ∷ words) h e =
    few_next path level frame place word words (after_guest_word path level word) h refl (sym (walk_next path level table index word words) ∙ e) (λ f i k g. few_from path (level - 1) f i frame place words k g)

pub few_words : (path : GuestPath) (words : List ℕ) (frame index : ℕ) → 0 < path.levels → Read frame index ≡ guest_end path words → length words < path.levels
few_words path words frame index h e = few_from path path.levels path.root (guest_index path.address path.levels) frame index words (omega arith) (sym e)
