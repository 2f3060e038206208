-- The relation of `NestedReads` holds of what `nested_end` and `nested_reads` give for any words, and of nothing else.
use Rattle.std.proofs.Common.{◌≡◌, ◌≢◌, ℕ, zero, suc, ◌-◌, ◌<◌, ◌≤◌, List, [], ◌∷◌, ◌++◌, length, Some, refl, sym, ap, ◌∙◌, subst, add-one, arith}
use Rattle.std.specs.Prelude.{slice_get}
use Rattle.std.specs.List.{All}
use Rattle.std.proofs.lemmas.Bool.Decides.{nat_tests}
use Rattle.std.proofs.lemmas.List.Elements.{All-nil, All-cons}
use Rattle.snp_model.specs.declared.entry.PageSize.{PageSize}
use Rattle.snp_model.specs.declared.walk.NestedPath.{NestedPath}
use Rattle.snp_model.specs.declared.walk.NestedEnd.{NestedEnd}
use Rattle.snp_model.specs.declared.walk.NestedEnd.TheVariants.{Read, Leaf, Fault}
use Rattle.snp_model.specs.NestedWalk.{nested_index, address_of, after_word, walk_from, nested_end}
use Rattle.nested_walk.specs.NestedReads.{NestedRead, IsNestedWalk, nested_values, reads_from, nested_reads, IsPermitted}

-- what a word that leads on says: the next frame is its address, in memory, and the level isn't the last
pub record IsLink (path : NestedPath) (level word frame index : ℕ) : Type 0 where
  pub frame_is : frame ≡ address_of word
  pub index_is : index ≡ nested_index path.gpn (level - 1)
  pub inside : frame < path.frames
  pub not_last : level ≢ 1

pub link_of : (path : NestedPath) (level word frame index : ℕ) → after_word path level word ≡ Read frame index → IsLink path level word frame index
unfolding after_word
link_of path level word frame index e = grind (arith, nat_tests)

-- the relation from a level and a frame on
pub record IsWalkFrom (path : NestedPath) (level frame : ℕ) (reads : List NestedRead) (stands : NestedEnd) : Type 0 where
  pub few : length reads ≤ level
  pub root_first : (read : NestedRead) → slice_get reads 0 ≡ Some read → read.frame ≡ frame
  pub indexes : (place : ℕ) (read : NestedRead) → slice_get reads place ≡ Some read → read.index ≡ nested_index path.gpn (level - place)
  pub links : (place : ℕ) (read next : NestedRead) → slice_get reads place ≡ Some read → slice_get reads (suc place) ≡ Some next → after_word path (level - place) read.value ≡ Read next.frame next.index
  pub first : length reads ≡ 0 → stands ≡ Read frame (nested_index path.gpn level)
  pub last : (place : ℕ) (read : NestedRead) → length reads ≡ suc place → slice_get reads place ≡ Some read → stands ≡ after_word path (level - place) read.value

sub_zero : (n : ℕ) → n - 0 ≡ n
sub_zero n = omega arith

sub_suc : (n k : ℕ) → n - suc k ≡ n - 1 - k
sub_suc n k = omega arith

-- nothing read
none : (path : NestedPath) (level frame : ℕ) → IsWalkFrom path level frame [] (Read frame (nested_index path.gpn level))
none path level frame = record {
  few = omega arith;
  root_first = λ (read : NestedRead) e. cc;
  indexes = λ (place : ℕ) (read : NestedRead) e. cc;
  links = λ (place : ℕ) (read next : NestedRead) e f. cc;
  first = λ e. refl;
  last = λ (place : ℕ) (read : NestedRead) e f. cc;
}

-- one read, whose word ends the walk
indexes-one : (path : NestedPath) (level : ℕ) (only : NestedRead) → only.index ≡ nested_index path.gpn level → (place : ℕ) (read : NestedRead) → slice_get (only ∷ []) place ≡ Some read → read.index ≡ nested_index path.gpn (level - place)
indexes-one path level only h zero read e = let z = sub_zero level in cc
indexes-one path level only h (suc place) read e = cc

last-one : (path : NestedPath) (level : ℕ) (only : NestedRead) (stands : NestedEnd) → stands ≡ after_word path level only.value → (place : ℕ) (read : NestedRead) → slice_get (only ∷ []) place ≡ Some read → stands ≡ after_word path (level - place) read.value
last-one path level only stands h zero read e = let z = sub_zero level in cc
last-one path level only stands h (suc place) read e = cc

one : (path : NestedPath) (level : ℕ) (only : NestedRead) (stands : NestedEnd) → 0 < level → only.index ≡ nested_index path.gpn level → stands ≡ after_word path level only.value → IsWalkFrom path level only.frame (only ∷ []) stands
one path level only stands p h s = record {
  few = p;
  root_first = λ (read : NestedRead) e. cc;
  indexes = indexes-one path level only h;
  links = λ (place : ℕ) (read next : NestedRead) e f. cc;
  first = λ e. cc;
  last = λ (place : ℕ) (read : NestedRead) e. last-one path level only stands s place read;
}

-- one read more, in front
indexes-more : (path : NestedPath) (level frame : ℕ) (read : NestedRead) (reads : List NestedRead) (stands : NestedEnd) → read.index ≡ nested_index path.gpn level → IsWalkFrom path (level - 1) frame reads stands → (place : ℕ) (at : NestedRead) → slice_get (read ∷ reads) place ≡ Some at → at.index ≡ nested_index path.gpn (level - place)
indexes-more path level frame read reads stands h w zero at e = let z = sub_zero level in cc
indexes-more path level frame read reads stands h w (suc place) at e = let z = sub_suc level place in let i = w.indexes place at e in cc

links-more : (path : NestedPath) (level frame : ℕ) (read : NestedRead) (reads : List NestedRead) (stands : NestedEnd) → after_word path level read.value ≡ Read frame (nested_index path.gpn (level - 1)) → IsWalkFrom path (level - 1) frame reads stands → (place : ℕ) (at next : NestedRead) → slice_get (read ∷ reads) place ≡ Some at → slice_get reads place ≡ Some next → after_word path (level - place) at.value ≡ Read next.frame next.index
links-more path level frame read reads stands h w zero at next e f =
    let z = sub_zero level in let y = sub_zero (level - 1) in let r = w.root_first next f in let i = w.indexes 0 next f in cc
links-more path level frame read reads stands h w (suc place) at next e f = let z = sub_suc level place in let i = w.links place at next e f in cc

last-more : (path : NestedPath) (level frame : ℕ) (read : NestedRead) (reads : List NestedRead) (stands : NestedEnd) → after_word path level read.value ≡ Read frame (nested_index path.gpn (level - 1)) → IsWalkFrom path (level - 1) frame reads stands → (place : ℕ) (at : NestedRead) → length reads ≡ place → slice_get (read ∷ reads) place ≡ Some at → stands ≡ after_word path (level - place) at.value
last-more path level frame read reads stands h w zero at e f = let z = sub_zero level in let s = w.first e in cc
last-more path level frame read reads stands h w (suc place) at e f = let z = sub_suc level place in let s = w.last place at e f in cc

more : (path : NestedPath) (level frame : ℕ) (read : NestedRead) (reads : List NestedRead) (stands : NestedEnd) → 0 < level → read.index ≡ nested_index path.gpn level → after_word path level read.value ≡ Read frame (nested_index path.gpn (level - 1)) → IsWalkFrom path (level - 1) frame reads stands → IsWalkFrom path level read.frame (read ∷ reads) stands
more path level frame read reads stands p h l w = record {
  few = omega (arith, w.few);
  root_first = λ (at : NestedRead) e. cc;
  indexes = indexes-more path level frame read reads stands h w;
  links = links-more path level frame read reads stands l w;
  first = λ e. absurd (omega arith);
  last = λ (place : ℕ) (at : NestedRead) e. last-more path level frame read reads stands l w place at (omega arith);
}

-- what any words give: `rest` is what the further words give
step_is : (path : NestedPath) (level frame index word : ℕ) (words : List ℕ) (stands : NestedEnd) → 0 < level → index ≡ nested_index path.gpn level → after_word path level word ≡ stands → ((f i : ℕ) → stands ≡ Read f i → 0 < level - 1 → i ≡ nested_index path.gpn (level - 1) → IsWalkFrom path (level - 1) f (reads_from path (level - 1) (Read f i) words) (walk_from path (level - 1) (Read f i) words)) → IsWalkFrom path level frame (record { frame = frame; index = index; value = word } ∷ reads_from path (level - 1) stands words) (walk_from path (level - 1) stands words)
unfolding reads_from walk_from
step_is path level frame index word words (Read f i) p h e rest =
    let l = link_of path level word f i e in
    more path level f _ _ _ p h (e ∙ ap (λ (x : ℕ). Read f x) l.index_is) (rest f i refl (omega (arith, l.not_last)) l.index_is)
step_is path level frame index word words (Leaf f s) p h e rest = one path level _ _ p h (sym e)
step_is path level frame index word words (Fault c) p h e rest = one path level _ _ p h (sym e)

walk_is : (path : NestedPath) (level frame index : ℕ) (words : List ℕ) → 0 < level → index ≡ nested_index path.gpn level → IsWalkFrom path level frame (reads_from path level (Read frame index) words) (walk_from path level (Read frame index) words)
unfolding reads_from walk_from
walk_is path level frame index [] p h = rw h (none path level frame)
walk_is path level frame index (word ∷ words) p h = step_is path level frame index word words (after_word path level word) p h refl (λ f i e q k. walk_is path (level - 1) f i words q k)

-- the walk after the first of two reads
tail_of : (path : NestedPath) (level frame : ℕ) (read next : NestedRead) (reads : List NestedRead) (stands : NestedEnd) → IsWalkFrom path level frame (read ∷ next ∷ reads) stands → IsWalkFrom path (level - 1) next.frame (next ∷ reads) stands
tail_of path level frame read next reads stands w = record {
  few = omega (arith, w.few);
  root_first = λ (at : NestedRead) e. cc;
  indexes = λ place at e. let z = sub_suc level place in let i = w.indexes (suc place) at e in cc;
  links = λ place at after e f. let z = sub_suc level place in let i = w.links (suc place) at after e f in cc;
  first = λ e. absurd (omega arith);
  last = λ place at e f. let z = sub_suc level place in let i = w.last (suc place) at (omega arith) f in cc;
}

read_is : (read : NestedRead) (frame index : ℕ) → read.frame ≡ frame → read.index ≡ index → read ≡ record { frame = frame; index = index; value = read.value }
read_is read frame index f i = rw (← f, ← i)

first_is : (path : NestedPath) (level frame : ℕ) (read : NestedRead) (reads : List NestedRead) (stands : NestedEnd) → IsWalkFrom path level frame (read ∷ reads) stands → read ≡ record { frame = frame; index = nested_index path.gpn level; value = read.value }
first_is path level frame read reads stands w =
    let z = sub_zero level in let i = w.indexes 0 read refl in read_is read frame _ (w.root_first read refl) cc

reads_from-stopped : (path : NestedPath) (level : ℕ) (stands : NestedEnd) → reads_from path level stands [] ≡ []
unfolding reads_from
reads_from-stopped path level (Read f i) = refl
reads_from-stopped path level (Leaf f s) = refl
reads_from-stopped path level (Fault c) = refl

walk_from-stopped : (path : NestedPath) (level : ℕ) (stands : NestedEnd) → walk_from path level stands [] ≡ stands
unfolding walk_from
walk_from-stopped path level (Read f i) = refl
walk_from-stopped path level (Leaf f s) = refl
walk_from-stopped path level (Fault c) = refl

-- and nothing else is a walk
only_walk : (path : NestedPath) (level frame : ℕ) (reads : List NestedRead) (stands : NestedEnd) → IsWalkFrom path level frame reads stands → (reads ≡ reads_from path level (Read frame (nested_index path.gpn level)) (nested_values reads)) × (stands ≡ walk_from path level (Read frame (nested_index path.gpn level)) (nested_values reads))
unfolding reads_from walk_from
only_walk path level frame [] stands w = (refl, w.first refl)
only_walk path level frame (read ∷ []) stands w =
    let z = sub_zero level in
    let f = first_is path level frame read [] stands w in
    let l = w.last 0 read refl refl in
    let r = reads_from-stopped path (level - 1) (after_word path level read.value) in
    let s = walk_from-stopped path (level - 1) (after_word path level read.value) in
    (cc, cc)
only_walk path level frame (read ∷ next ∷ reads) stands w =
    let z = sub_zero level in
    let f = first_is path level frame read (next ∷ reads) stands w in
    let e = w.links 0 read next refl refl in
    let t = tail_of path level frame read next reads stands w in
    let i = link_of path level read.value next.frame next.index (let x : after_word path level read.value ≡ Read next.frame next.index = cc in x) in
    let k = i.index_is in
    let h = only_walk path (level - 1) next.frame (next ∷ reads) stands t in
    let a = h.0 in
    let b = h.1 in
    (cc, cc)

-- the law of the relation: any words give a walk
pub nested_walk_is : (path : NestedPath) (words : List ℕ) → IsNestedWalk path (nested_reads path words) (nested_end path words)
nested_walk_is path words =
    let w = walk_is path 4 path.root (nested_index path.gpn 4) words (omega arith) refl in
    record {
      few = w.few;
      root_first = w.root_first;
      indexes = w.indexes;
      frames = λ place read next e f. (link_of path (4 - place) read.value next.frame next.index (w.links place read next e (rw add-one at f))).frame_is;
      goes_on = λ place read next e f. w.links place read next e (rw add-one at f);
      first = w.first;
      last = λ place read e f. w.last place read (rw add-one at e) f;
    }

-- and a walk's words give its reads and where it stands
pub only_nested_walk : (path : NestedPath) (reads : List NestedRead) (stands : NestedEnd) → IsNestedWalk path reads stands → (reads ≡ nested_reads path (nested_values reads)) × (stands ≡ nested_end path (nested_values reads))
only_nested_walk path reads stands w =
    only_walk path 4 path.root reads stands (record {
      few = w.few;
      root_first = w.root_first;
      indexes = w.indexes;
      links = λ place read next e f. w.goes_on place read next e (rw add-one f);
      first = w.first;
      last = λ place read e f. w.last place read (rw add-one e) f;
    })

walk_from-append : (path : NestedPath) (level : ℕ) (stands : NestedEnd) (words more_words : List ℕ) → walk_from path level stands (words ++ more_words) ≡ walk_from path (level - length words) (walk_from path level stands words) more_words
unfolding walk_from
walk_from-append path level (Read f i) [] more_words = let z = sub_zero level in cc
walk_from-append path level (Read f i) (word ∷ words) more_words =
    let z = sub_suc level (length words) in let h = walk_from-append path (level - 1) (after_word path level word) words more_words in cc
walk_from-append path level (Leaf f s) words more_words = refl
walk_from-append path level (Fault c) words more_words = refl

-- where a walk that stands at a read goes with one word more
pub nested_end-push : (path : NestedPath) (words : List ℕ) (word frame index : ℕ) → nested_end path words ≡ Read frame index → nested_end path (words ++ word ∷ []) ≡ after_word path (4 - length words) word
unfolding walk_from
nested_end-push path words word frame index e =
    let a = walk_from-append path 4 (Read path.root (nested_index path.gpn 4)) words (word ∷ []) in
    let b = walk_from-stopped path (4 - length words - 1) (after_word path (4 - length words) word) in
    cc

reads_from-push : (path : NestedPath) (level : ℕ) (stands : NestedEnd) (words : List ℕ) (word frame index : ℕ) → walk_from path level stands words ≡ Read frame index → reads_from path level stands (words ++ word ∷ []) ≡ reads_from path level stands words ++ record { frame = frame; index = index; value = word } ∷ []
unfolding walk_from reads_from
reads_from-push path level (Read f i) [] word frame index e = let r = reads_from-stopped path (level - 1) (after_word path level word) in cc
reads_from-push path level (Read f i) (first ∷ words) word frame index e =
    ap (λ (rest : List NestedRead). record { frame = f; index = i; value = first } ∷ rest) (reads_from-push path (level - 1) (after_word path level first) words word frame index e)
reads_from-push path level (Leaf f s) words word frame index e = cc
reads_from-push path level (Fault c) words word frame index e = cc

-- and one read more
pub nested_reads-push : (path : NestedPath) (words : List ℕ) (word frame index : ℕ) → nested_end path words ≡ Read frame index → nested_reads path (words ++ word ∷ []) ≡ nested_reads path words ++ record { frame = frame; index = index; value = word } ∷ []
nested_reads-push path words word frame index e = reads_from-push path 4 _ words word frame index e

link_permits : (path : NestedPath) (level : ℕ) (read : NestedRead) (frame index : ℕ) → after_word path level read.value ≡ Read frame index → IsPermitted path read
unfolding after_word
link_permits path level read frame index e = record { present = grind (arith, nat_tests); user = grind (arith, nat_tests); writable = λ w. grind (arith, nat_tests) }

leaf_permits : (path : NestedPath) (level : ℕ) (read : NestedRead) (frame : ℕ) (size : PageSize) → after_word path level read.value ≡ Leaf frame size → IsPermitted path read
unfolding after_word
leaf_permits path level read frame size e = record { present = grind (arith, nat_tests); user = grind (arith, nat_tests); writable = λ w. grind (arith, nat_tests) }

leaf_inside : (path : NestedPath) (level word frame : ℕ) (size : PageSize) → after_word path level word ≡ Leaf frame size → frame < path.frames
unfolding after_word
leaf_inside path level word frame size e = grind (arith, nat_tests)

step_permits : (path : NestedPath) (level word f i : ℕ) (words : List ℕ) (stands : NestedEnd) (frame : ℕ) (size : PageSize) → after_word path level word ≡ stands → walk_from path (level - 1) stands words ≡ Leaf frame size → ((g j : ℕ) → stands ≡ Read g j → All (IsPermitted path) (reads_from path (level - 1) (Read g j) words) × (frame < path.frames)) → All (IsPermitted path) (record { frame = f; index = i; value = word } ∷ reads_from path (level - 1) stands words) × (frame < path.frames)
unfolding walk_from reads_from
step_permits path level word f i words (Read g j) frame size e w rest =
    let r = rest g j refl in
    (All-cons (IsPermitted path) _ _ (link_permits path level (record { frame = f; index = i; value = word }) g j e) r.0, r.1)
step_permits path level word f i words (Leaf g s) frame size e w rest =
    let l : after_word path level word ≡ Leaf frame size = cc in
    (All-cons (IsPermitted path) _ [] (leaf_permits path level (record { frame = f; index = i; value = word }) frame size l) (All-nil (IsPermitted path)), leaf_inside path level word frame size l)
step_permits path level word f i words (Fault c) frame size e w rest = cc

walk_permits : (path : NestedPath) (level f i : ℕ) (words : List ℕ) (frame : ℕ) (size : PageSize) → walk_from path level (Read f i) words ≡ Leaf frame size → All (IsPermitted path) (reads_from path level (Read f i) words) × (frame < path.frames)
unfolding walk_from reads_from
walk_permits path level f i [] frame size w = cc
walk_permits path level f i (word ∷ words) frame size w = step_permits path level word f i words (after_word path level word) frame size refl w (λ g j e. walk_permits path (level - 1) g j words frame size (subst (λ (x : NestedEnd). walk_from path (level - 1) x words ≡ Leaf frame size) e w))

-- a walk that reaches a leaf passed each entry on its way, and the leaf is in memory
pub nested_leaf_permits : (path : NestedPath) (words : List ℕ) (frame : ℕ) (size : PageSize) → nested_end path words ≡ Leaf frame size → All (IsPermitted path) (nested_reads path words) × (frame < path.frames)
nested_leaf_permits path words frame size e = walk_permits path 4 path.root (nested_index path.gpn 4) words frame size e
