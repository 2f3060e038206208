-- A walk that goes over its words.
use Rattle.std.proofs.Common.{◌≡◌, ℕ, suc, ◌+◌, ◌-◌, ◌<◌, ◌≤◌, List, [], ◌∷◌, ◌++◌, length, get_or, drop, refl, sym, ap, ◌∙◌, arith, drop-cons}
use Rattle.std.proofs.lemmas.List.{drop_all}
use Rattle.snp_model.specs.declared.entry.PageSize.{PageSize}
use Rattle.snp_model.specs.declared.walk.NestedPath.{NestedPath}
use Rattle.snp_model.specs.declared.walk.NestedEnd.{NestedEnd}
use Rattle.snp_model.specs.declared.walk.NestedEnd.TheVariants.{Read, Leaf, Fault}
use Rattle.snp_model.specs.NestedWalk.{nested_index, after_word, walk_from, first_read, nested_end}
use Rattle.nested_walk.specs.Entry.{IsRead}
use Rattle.nested_walk.proofs.NestedReadsLaws.{link_of, nested_end-push}

walk_next : (path : NestedPath) (level table index word : ℕ) (words : List ℕ) → walk_from path level (Read table index) (word ∷ words) ≡ walk_from path (level - 1) (after_word path level word) words
unfolding walk_from
walk_next path level table index word words = refl

-- the next word
pub stand_next : (path : NestedPath) (level table index i : ℕ) (words : List ℕ) (whole next : NestedEnd) → i < length words
    → whole ≡ walk_from path level (Read table index) (drop i words) → next ≡ after_word path level (get_or words i 0) → whole ≡ walk_from path (level - 1) next (drop (i + 1) words)
stand_next path level table index i words whole next h w n =
    let e : suc i ≡ i + 1 = omega arith in
    w ∙ ap (walk_from path level (Read table index)) (drop-cons words i 0 h) ∙ walk_next path level table index _ _
    ∙ ap (λ (k : ℕ). walk_from path (level - 1) (after_word path level (get_or words i 0)) (drop k words)) e
    ∙ ap (λ (s : NestedEnd). walk_from path (level - 1) s (drop (i + 1) words)) (sym n)

-- it goes on
pub stand_more : (path : NestedPath) (level table index i frame place : ℕ) (words : List ℕ) (whole : NestedEnd) → i < length words
    → whole ≡ walk_from path level (Read table index) (drop i words) → Read frame place ≡ after_word path level (get_or words i 0)
    → whole ≡ walk_from path (level - 1) (Read frame (nested_index path.gpn (level - 1))) (drop (i + 1) words)
stand_more path level table index i frame place words whole h w n =
    let l = link_of path level _ frame place (sym n) in
    stand_next path level table index i words whole (Read frame place) h w n
    ∙ ap (λ (k : ℕ). walk_from path (level - 1) (Read frame k) (drop (i + 1) words)) l.index_is

pub not_last : (path : NestedPath) (level word frame place : ℕ) → Read frame place ≡ after_word path level word → 1 ≤ level → 1 < level
not_last path level word frame place n h = let l = link_of path level word frame place (sym n) in omega (arith, l.not_last)

walk_leaf : (path : NestedPath) (level frame : ℕ) (size : PageSize) (words : List ℕ) → walk_from path level (Leaf frame size) words ≡ Leaf frame size
unfolding walk_from
walk_leaf path level frame size words = refl

walk_fault : (path : NestedPath) (level code : ℕ) (words : List ℕ) → walk_from path level (Fault code) words ≡ Fault code
unfolding walk_from
walk_fault path level code words = refl

walk_none : (path : NestedPath) (level : ℕ) (stands : NestedEnd) → walk_from path level stands [] ≡ stands
unfolding walk_from
walk_none path level (Read f i) = refl
walk_none path level (Leaf f s) = refl
walk_none path level (Fault c) = refl

-- it ends
pub stand_leaf : (path : NestedPath) (level table index i frame : ℕ) (size : PageSize) (words : List ℕ) (whole : NestedEnd) → i < length words
    → whole ≡ walk_from path level (Read table index) (drop i words) → Leaf frame size ≡ after_word path level (get_or words i 0) → Leaf frame size ≡ whole
stand_leaf path level table index i frame size words whole h w n =
    sym (stand_next path level table index i words whole (Leaf frame size) h w n ∙ walk_leaf path (level - 1) frame size _)

pub stand_fault : (path : NestedPath) (level table index i code : ℕ) (words : List ℕ) (whole : NestedEnd) → i < length words
    → whole ≡ walk_from path level (Read table index) (drop i words) → Fault code ≡ after_word path level (get_or words i 0) → Fault code ≡ whole
stand_fault path level table index i code words whole h w n =
    sym (stand_next path level table index i words whole (Fault code) h w n ∙ walk_fault path (level - 1) code _)

-- no word is left
pub stand_last : (path : NestedPath) (level table index i : ℕ) (words : List ℕ) (whole : NestedEnd) → length words ≤ i
    → whole ≡ walk_from path level (Read table index) (drop i words) → Read table index ≡ whole
stand_last path level table index i words whole h w =
    sym (w ∙ ap (walk_from path level (Read table index)) (drop_all i words h) ∙ walk_none path level (Read table index))

-- one word more where it has ended
leaf_stays : (path : NestedPath) (level : ℕ) (stands : NestedEnd) (words : List ℕ) (word frame : ℕ) (size : PageSize) → walk_from path level stands words ≡ Leaf frame size
    → walk_from path level stands (words ++ word ∷ []) ≡ Leaf frame size
unfolding walk_from
leaf_stays path level (Read f i) [] word frame size e = cc
leaf_stays path level (Read f i) (w ∷ ws) word frame size e = leaf_stays path (level - 1) (after_word path level w) ws word frame size e
leaf_stays path level (Leaf f s) words word frame size e = e
leaf_stays path level (Fault c) words word frame size e = e

fault_stays : (path : NestedPath) (level : ℕ) (stands : NestedEnd) (words : List ℕ) (word code : ℕ) → walk_from path level stands words ≡ Fault code
    → walk_from path level stands (words ++ word ∷ []) ≡ Fault code
unfolding walk_from
fault_stays path level (Read f i) [] word code e = cc
fault_stays path level (Read f i) (w ∷ ws) word code e = fault_stays path (level - 1) (after_word path level w) ws word code e
fault_stays path level (Leaf f s) words word code e = e
fault_stays path level (Fault c) words word code e = e

pub leaf_with : (path : NestedPath) (words : List ℕ) (word frame : ℕ) (size : PageSize) → Leaf frame size ≡ nested_end path words → Leaf frame size ≡ nested_end path (words ++ word ∷ [])
leaf_with path words word frame size e = sym (leaf_stays path 4 (first_read path) words word frame size (sym e))

pub fault_with : (path : NestedPath) (words : List ℕ) (word code : ℕ) → Fault code ≡ nested_end path words → Fault code ≡ nested_end path (words ++ word ∷ [])
fault_with path words word code e = sym (fault_stays path 4 (first_read path) words word code (sym e))

pub read_with : (path : NestedPath) (words : List ℕ) (word frame index : ℕ) (next : NestedEnd) → Read frame index ≡ nested_end path words → next ≡ after_word path (4 - length words) word → next ≡ nested_end path (words ++ word ∷ [])
read_with path words word frame index next e n = n ∙ sym (nested_end-push path words word frame index (sym e))

-- a walk at a read has read fewer than four words
few_next : (path : NestedPath) (level frame place word : ℕ) (words : List ℕ) (next : NestedEnd) → 1 ≤ level → after_word path level word ≡ next → walk_from path (level - 1) next words ≡ Read frame place
    → ((f i : ℕ) → 1 ≤ level - 1 → walk_from path (level - 1) (Read f i) words ≡ Read frame place → length words < level - 1) → length (word ∷ words) < level
few_next path level frame place word words (Read f i) h n e rest =
    let l = link_of path level word f i n in
    let r = rest f i (omega (arith, l.not_last)) e in
    omega arith
few_next path level frame place word words (Leaf f s) h n e rest = let z = walk_leaf path (level - 1) f s words in absurd (cc)
few_next path level frame place word words (Fault c) h n e rest = let z = walk_fault path (level - 1) c words in absurd (cc)

few_from : (path : NestedPath) (level table index frame place : ℕ) (words : List ℕ) → 1 ≤ level → walk_from path level (Read table index) words ≡ Read frame place → length words < level
few_from path level table index frame place [] h e = omega arith
few_from path level table index frame place (word ∷ words) h e =
    few_next path level frame place word words (after_word path level word) h refl (sym (walk_next path level table index word words) ∙ e) (λ f i k g. few_from path (level - 1) f i frame place words k g)

pub few_words : (path : NestedPath) (words : List ℕ) (frame index : ℕ) → Read frame index ≡ nested_end path words → length words < 4
few_words path words frame index e = few_from path 4 path.root (nested_index path.gpn 4) frame index words (omega arith) (sym e)

-- a walk that reads a word
reads_few : (path : NestedPath) (words : List ℕ) (stands : NestedEnd) → stands ≡ nested_end path words → IsRead stands → length words < 4
reads_few path words (Read f i) e r = few_words path words f i e
reads_few path words (Leaf f s) e r = absurd r
reads_few path words (Fault c) e r = absurd r

pub read_few : (path : NestedPath) (words : List ℕ) → IsRead (nested_end path words) → length words < 4
read_few path words r = reads_few path words (nested_end path words) refl r

reads_after : (path : NestedPath) (words : List ℕ) (word : ℕ) (stands next : NestedEnd) → stands ≡ nested_end path words → IsRead stands → next ≡ after_word path (4 - length words) word → next ≡ nested_end path (words ++ word ∷ [])
reads_after path words word (Read f i) next e r n = read_with path words word f i next e n
reads_after path words word (Leaf f s) next e r n = absurd r
reads_after path words word (Fault c) next e r n = absurd r

pub read_after : (path : NestedPath) (words : List ℕ) (word : ℕ) (next : NestedEnd) → IsRead (nested_end path words) → next ≡ after_word path (4 - length words) word → next ≡ nested_end path (words ++ word ∷ [])
read_after path words word next r n = reads_after path words word (nested_end path words) next refl r n
