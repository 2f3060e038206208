-- The relation of `GuestReads` holds of what `guest_end` and `guest_reads` give for any words, and of nothing else.
use Rattle.std.proofs.Common.{◌≡◌, ◌≢◌, ℕ, zero, suc, ◌-◌, ◌^◌, ◌<◌, ◌≤◌, Bool, List, [], ◌∷◌, ◌++◌, length, Some, refl, sym, ap, ◌∙◌, subst, add-one, arith}
use Rattle.std.specs.Prelude.{slice_get}
use Rattle.std.specs.List.{All}
use Rattle.std.proofs.lemmas.Bool.Decides.{nat_tests}
use Rattle.std.proofs.lemmas.List.Elements.{All-nil, All-cons}
use Rattle.snp_model.specs.declared.entry.PageSize.{PageSize}
use Rattle.snp_model.specs.declared.walk.GuestPath.{GuestPath}
use Rattle.snp_model.specs.declared.walk.GuestEnd.{GuestEnd}
use Rattle.snp_model.specs.declared.walk.GuestEnd.TheVariants.{Read, Leaf, Fault}
use Rattle.snp_model.specs.NestedWalk.{address_of}
use Rattle.snp_model.specs.GuestWalk.{guest_index, after_guest_word, guest_walk_from, guest_end}
use Rattle.guest_walk.specs.GuestReads.{GuestRead, IsGuestWalk, guest_values, guest_reads_from, guest_reads, IsGuestPermitted}

-- what a word that leads on says: the next table is at its address, and the level isn't the last
pub record IsLink (path : GuestPath) (level word gpn index : ℕ) : Type 0 where
  pub gpn_is : gpn ≡ address_of word
  pub index_is : index ≡ guest_index path.address (level - 1)
  pub inside : gpn < 2 ^ 36
  pub not_last : level ≢ 1

pub link_of : (path : GuestPath) (level word gpn index : ℕ) → after_guest_word path level word ≡ Read gpn index → IsLink path level word gpn index
unfolding after_guest_word
link_of path level word gpn index e = grind (arith, nat_tests)

-- the relation from a level and a table on
pub record IsWalkFrom (path : GuestPath) (level gpn : ℕ) (reads : List GuestRead) (stands : GuestEnd) : Type 0 where
  pub few : length reads ≤ level
  pub root_first : (read : GuestRead) → slice_get reads 0 ≡ Some read → read.gpn ≡ gpn
  pub indexes : (place : ℕ) (read : GuestRead) → slice_get reads place ≡ Some read → read.index ≡ guest_index path.address (level - place)
  pub links : (place : ℕ) (read next : GuestRead) → slice_get reads place ≡ Some read → slice_get reads (suc place) ≡ Some next → after_guest_word path (level - place) read.value ≡ Read next.gpn next.index
  pub first : length reads ≡ 0 → stands ≡ Read gpn (guest_index path.address level)
  pub last : (place : ℕ) (read : GuestRead) → length reads ≡ suc place → slice_get reads place ≡ Some read → stands ≡ after_guest_word path (level - place) read.value

sub_zero : (n : ℕ) → n - 0 ≡ n
sub_zero n = omega arith

sub_suc : (n k : ℕ) → n - suc k ≡ n - 1 - k
sub_suc n k = omega arith

-- nothing read
none : (path : GuestPath) (level gpn : ℕ) → IsWalkFrom path level gpn [] (Read gpn (guest_index path.address level))
none path level gpn = record {
  few = omega arith;
  root_first = λ (read : GuestRead) e. cc;
  indexes = λ (place : ℕ) (read : GuestRead) e. cc;
  links = λ (place : ℕ) (read next : GuestRead) e f. cc;
  first = λ e. refl;
  last = λ (place : ℕ) (read : GuestRead) e f. cc;
}

-- one read, whose word ends the walk
indexes-one : (path : GuestPath) (level : ℕ) (only : GuestRead) → only.index ≡ guest_index path.address level → (place : ℕ) (read : GuestRead) → slice_get (only ∷ []) place ≡ Some read → read.index ≡ guest_index path.address (level - place)
indexes-one path level only h zero read e = let z = sub_zero level in cc
indexes-one path level only h (suc place) read e = cc

last-one : (path : GuestPath) (level : ℕ) (only : GuestRead) (stands : GuestEnd) → stands ≡ after_guest_word path level only.value → (place : ℕ) (read : GuestRead) → slice_get (only ∷ []) place ≡ Some read → stands ≡ after_guest_word path (level - place) read.value
last-one path level only stands h zero read e = let z = sub_zero level in cc
last-one path level only stands h (suc place) read e = cc

one : (path : GuestPath) (level : ℕ) (only : GuestRead) (stands : GuestEnd) → 0 < level → only.index ≡ guest_index path.address level → stands ≡ after_guest_word path level only.value → IsWalkFrom path level only.gpn (only ∷ []) stands
one path level only stands p h s = record {
  few = p;
  root_first = λ (read : GuestRead) e. cc;
  indexes = indexes-one path level only h;
  links = λ (place : ℕ) (read next : GuestRead) e f. cc;
  first = λ e. cc;
  last = λ (place : ℕ) (read : GuestRead) e. last-one path level only stands s place read;
}

-- one read more, in front
indexes-more : (path : GuestPath) (level gpn : ℕ) (read : GuestRead) (reads : List GuestRead) (stands : GuestEnd) → read.index ≡ guest_index path.address level → IsWalkFrom path (level - 1) gpn reads stands → (place : ℕ) (at : GuestRead) → slice_get (read ∷ reads) place ≡ Some at → at.index ≡ guest_index path.address (level - place)
indexes-more path level gpn read reads stands h w zero at e = let z = sub_zero level in cc
indexes-more path level gpn read reads stands h w (suc place) at e = let z = sub_suc level place in let i = w.indexes place at e in cc

links-more : (path : GuestPath) (level gpn : ℕ) (read : GuestRead) (reads : List GuestRead) (stands : GuestEnd) → after_guest_word path level read.value ≡ Read gpn (guest_index path.address (level - 1)) → IsWalkFrom path (level - 1) gpn reads stands → (place : ℕ) (at next : GuestRead) → slice_get (read ∷ reads) place ≡ Some at → slice_get reads place ≡ Some next → after_guest_word path (level - place) at.value ≡ Read next.gpn next.index
links-more path level gpn read reads stands h w zero at next e f =
    let z = sub_zero level in let y = sub_zero (level - 1) in let r = w.root_first next f in let i = w.indexes 0 next f in cc
links-more path level gpn read reads stands h w (suc place) at next e f = let z = sub_suc level place in let i = w.links place at next e f in cc

last-more : (path : GuestPath) (level gpn : ℕ) (read : GuestRead) (reads : List GuestRead) (stands : GuestEnd) → after_guest_word path level read.value ≡ Read gpn (guest_index path.address (level - 1)) → IsWalkFrom path (level - 1) gpn reads stands → (place : ℕ) (at : GuestRead) → length reads ≡ place → slice_get (read ∷ reads) place ≡ Some at → stands ≡ after_guest_word path (level - place) at.value
last-more path level gpn read reads stands h w zero at e f = let z = sub_zero level in let s = w.first e in cc
last-more path level gpn read reads stands h w (suc place) at e f = let z = sub_suc level place in let s = w.last place at e f in cc

more : (path : GuestPath) (level gpn : ℕ) (read : GuestRead) (reads : List GuestRead) (stands : GuestEnd) → 0 < level → read.index ≡ guest_index path.address level → after_guest_word path level read.value ≡ Read gpn (guest_index path.address (level - 1)) → IsWalkFrom path (level - 1) gpn reads stands → IsWalkFrom path level read.gpn (read ∷ reads) stands
more path level gpn read reads stands p h l w = record {
  few = omega (arith, w.few);
  root_first = λ (at : GuestRead) e. cc;
  indexes = indexes-more path level gpn read reads stands h w;
  links = links-more path level gpn read reads stands l w;
  first = λ e. absurd (omega arith);
  last = λ (place : ℕ) (at : GuestRead) e. last-more path level gpn read reads stands l w place at (omega arith);
}

-- what any words give: `rest` is what the further words give
step_is : (path : GuestPath) (level gpn index word : ℕ) (words : List ℕ) (stands : GuestEnd) → 0 < level → index ≡ guest_index path.address level → after_guest_word path level word ≡ stands → ((f i : ℕ) → stands ≡ Read f i → 0 < level - 1 → i ≡ guest_index path.address (level - 1) → IsWalkFrom path (level - 1) f (guest_reads_from path (level - 1) (Read f i) words) (guest_walk_from path (level - 1) (Read f i) words)) → IsWalkFrom path level gpn (record { gpn = gpn; index = index; value = word } ∷ guest_reads_from path (level - 1) stands words) (guest_walk_from path (level - 1) stands words)
unfolding guest_reads_from guest_walk_from
step_is path level gpn index word words (Read f i) p h e rest =
    let l = link_of path level word f i e in
    more path level f _ _ _ p h (e ∙ ap (λ (x : ℕ). Read f x) l.index_is) (rest f i refl (omega (arith, l.not_last)) l.index_is)
step_is path level gpn index word words (Leaf f b s) p h e rest = one path level _ _ p h (sym e)
step_is path level gpn index word words (Fault c) p h e rest = one path level _ _ p h (sym e)

walk_is : (path : GuestPath) (level gpn index : ℕ) (words : List ℕ) → 0 < level → index ≡ guest_index path.address level → IsWalkFrom path level gpn (guest_reads_from path level (Read gpn index) words) (guest_walk_from path level (Read gpn index) words)
unfolding guest_reads_from guest_walk_from
walk_is path level gpn index [] p h = rw h (none path level gpn)
walk_is path level gpn index (word ∷ words) p h = step_is path level gpn index word words (after_guest_word path level word) p h refl (λ f i e q k. walk_is path (level - 1) f i words q k)

-- the walk after the first of two reads
tail_of : (path : GuestPath) (level gpn : ℕ) (read next : GuestRead) (reads : List GuestRead) (stands : GuestEnd) → IsWalkFrom path level gpn (read ∷ next ∷ reads) stands → IsWalkFrom path (level - 1) next.gpn (next ∷ reads) stands
tail_of path level gpn read next reads stands w = record {
  few = omega (arith, w.few);
  root_first = λ (at : GuestRead) e. cc;
  indexes = λ place at e. let z = sub_suc level place in let i = w.indexes (suc place) at e in cc;
  links = λ place at after e f. let z = sub_suc level place in let i = w.links (suc place) at after e f in cc;
  first = λ e. absurd (omega arith);
  last = λ place at e f. let z = sub_suc level place in let i = w.last (suc place) at (omega arith) f in cc;
}

read_is : (read : GuestRead) (gpn index : ℕ) → read.gpn ≡ gpn → read.index ≡ index → read ≡ record { gpn = gpn; index = index; value = read.value }
read_is read gpn index f i = rw (← f, ← i)

first_is : (path : GuestPath) (level gpn : ℕ) (read : GuestRead) (reads : List GuestRead) (stands : GuestEnd) → IsWalkFrom path level gpn (read ∷ reads) stands → read ≡ record { gpn = gpn; index = guest_index path.address level; value = read.value }
first_is path level gpn read reads stands w =
    let z = sub_zero level in let i = w.indexes 0 read refl in read_is read gpn _ (w.root_first read refl) cc

guest_reads_from-stopped : (path : GuestPath) (level : ℕ) (stands : GuestEnd) → guest_reads_from path level stands [] ≡ []
unfolding guest_reads_from
guest_reads_from-stopped path level (Read f i) = refl
guest_reads_from-stopped path level (Leaf f b s) = refl
guest_reads_from-stopped path level (Fault c) = refl

guest_walk_from-stopped : (path : GuestPath) (level : ℕ) (stands : GuestEnd) → guest_walk_from path level stands [] ≡ stands
unfolding guest_walk_from
guest_walk_from-stopped path level (Read f i) = refl
guest_walk_from-stopped path level (Leaf f b s) = refl
guest_walk_from-stopped path level (Fault c) = refl

-- and nothing else is a walk
only_walk : (path : GuestPath) (level gpn : ℕ) (reads : List GuestRead) (stands : GuestEnd) → IsWalkFrom path level gpn reads stands → (reads ≡ guest_reads_from path level (Read gpn (guest_index path.address level)) (guest_values reads)) × (stands ≡ guest_walk_from path level (Read gpn (guest_index path.address level)) (guest_values reads))
unfolding guest_reads_from guest_walk_from
only_walk path level gpn [] stands w = (refl, w.first refl)
only_walk path level gpn (read ∷ []) stands w =
    let z = sub_zero level in
    let f = first_is path level gpn read [] stands w in
    let l = w.last 0 read refl refl in
    let r = guest_reads_from-stopped path (level - 1) (after_guest_word path level read.value) in
    let s = guest_walk_from-stopped path (level - 1) (after_guest_word path level read.value) in
    (cc, cc)
only_walk path level gpn (read ∷ next ∷ reads) stands w =
    let z = sub_zero level in
    let f = first_is path level gpn read (next ∷ reads) stands w in
    let e = w.links 0 read next refl refl in
    let t = tail_of path level gpn read next reads stands w in
    let i = link_of path level read.value next.gpn next.index (let x : after_guest_word path level read.value ≡ Read next.gpn next.index = cc in x) in
    let k = i.index_is in
    let h = only_walk path (level - 1) next.gpn (next ∷ reads) stands t in
    let a = h.0 in
    let b = h.1 in
    (cc, cc)

-- the law of the relation: any words give a walk
pub guest_walk_is : (path : GuestPath) (words : List ℕ) → 0 < path.levels → IsGuestWalk path (guest_reads path words) (guest_end path words)
guest_walk_is path words p =
    let w = walk_is path path.levels path.root (guest_index path.address path.levels) words p refl in
    record {
      few = w.few;
      root_first = w.root_first;
      indexes = w.indexes;
      tables = λ place read next e f. (link_of path (path.levels - place) read.value next.gpn next.index (w.links place read next e (rw add-one at f))).gpn_is;
      goes_on = λ place read next e f. w.links place read next e (rw add-one at f);
      first = w.first;
      last = λ place read e f. w.last place read (rw add-one at e) f;
    }

-- and a walk's words give its reads and where it stands
pub only_guest_walk : (path : GuestPath) (reads : List GuestRead) (stands : GuestEnd) → IsGuestWalk path reads stands → (reads ≡ guest_reads path (guest_values reads)) × (stands ≡ guest_end path (guest_values reads))
only_guest_walk path reads stands w =
    only_walk path path.levels path.root reads stands (record {
      few = w.few;
      root_first = w.root_first;
      indexes = w.indexes;
      links = λ place read next e f. w.goes_on place read next e (rw add-one f);
      first = w.first;
      last = λ place read e f. w.last place read (rw add-one e) f;
    })

guest_walk_from-append : (path : GuestPath) (level : ℕ) (stands : GuestEnd) (words more_words : List ℕ) → guest_walk_from path level stands (words ++ more_words) ≡ guest_walk_from path (level - length words) (guest_walk_from path level stands words) more_words
unfolding guest_walk_from
guest_walk_from-append path level (Read f i) [] more_words = let z = sub_zero level in cc
guest_walk_from-append path level (Read f i) (word ∷ words) more_words =
    let z = sub_suc level (length words) in let h = guest_walk_from-append path (level - 1) (after_guest_word path level word) words more_words in cc
guest_walk_from-append path level (Leaf f b s) words more_words = refl
guest_walk_from-append path level (Fault c) words more_words = refl

-- where a walk that stands at a read goes with one word more
pub guest_end-push : (path : GuestPath) (words : List ℕ) (word gpn index : ℕ) → guest_end path words ≡ Read gpn index → guest_end path (words ++ word ∷ []) ≡ after_guest_word path (path.levels - length words) word
unfolding guest_walk_from
guest_end-push path words word gpn index e =
    let a = guest_walk_from-append path path.levels (Read path.root (guest_index path.address path.levels)) words (word ∷ []) in
    let b = guest_walk_from-stopped path (path.levels - length words - 1) (after_guest_word path (path.levels - length words) word) in
    cc

guest_reads_from-push : (path : GuestPath) (level : ℕ) (stands : GuestEnd) (words : List ℕ) (word gpn index : ℕ) → guest_walk_from path level stands words ≡ Read gpn index → guest_reads_from path level stands (words ++ word ∷ []) ≡ guest_reads_from path level stands words ++ record { gpn = gpn; index = index; value = word } ∷ []
unfolding guest_walk_from guest_reads_from
guest_reads_from-push path level (Read f i) [] word gpn index e = let r = guest_reads_from-stopped path (level - 1) (after_guest_word path level word) in cc
guest_reads_from-push path level (Read f i) (first ∷ words) word gpn index e =
    ap (λ (rest : List GuestRead). record { gpn = f; index = i; value = first } ∷ rest) (guest_reads_from-push path (level - 1) (after_guest_word path level first) words word gpn index e)
guest_reads_from-push path level (Leaf f b s) words word gpn index e = cc
guest_reads_from-push path level (Fault c) words word gpn index e = cc

-- and one read more
pub guest_reads-push : (path : GuestPath) (words : List ℕ) (word gpn index : ℕ) → guest_end path words ≡ Read gpn index → guest_reads path (words ++ word ∷ []) ≡ guest_reads path words ++ record { gpn = gpn; index = index; value = word } ∷ []
guest_reads-push path words word gpn index e = guest_reads_from-push path path.levels _ words word gpn index e

link_permits : (path : GuestPath) (level : ℕ) (read : GuestRead) (gpn index : ℕ) → after_guest_word path level read.value ≡ Read gpn index → IsGuestPermitted path read
unfolding after_guest_word
link_permits path level read gpn index e = record { present = grind (arith, nat_tests); writable = λ w. grind (arith, nat_tests) }

leaf_permits : (path : GuestPath) (level : ℕ) (read : GuestRead) (gpn : ℕ) (private : Bool) (size : PageSize) → after_guest_word path level read.value ≡ Leaf gpn private size → IsGuestPermitted path read
unfolding after_guest_word
leaf_permits path level read gpn private size e = record { present = grind (arith, nat_tests); writable = λ w. grind (arith, nat_tests) }

leaf_inside : (path : GuestPath) (level word gpn : ℕ) (private : Bool) (size : PageSize) → after_guest_word path level word ≡ Leaf gpn private size → gpn < 2 ^ 36
unfolding after_guest_word
leaf_inside path level word gpn private size e = grind (arith, nat_tests)

step_permits : (path : GuestPath) (level word f i : ℕ) (words : List ℕ) (stands : GuestEnd) (gpn : ℕ) (private : Bool) (size : PageSize) → after_guest_word path level word ≡ stands → guest_walk_from path (level - 1) stands words ≡ Leaf gpn private size → ((g j : ℕ) → stands ≡ Read g j → All (IsGuestPermitted path) (guest_reads_from path (level - 1) (Read g j) words) × (gpn < 2 ^ 36)) → All (IsGuestPermitted path) (record { gpn = f; index = i; value = word } ∷ guest_reads_from path (level - 1) stands words) × (gpn < 2 ^ 36)
unfolding guest_walk_from guest_reads_from
step_permits path level word f i words (Read g j) gpn private size e w rest =
    let r = rest g j refl in
    (All-cons (IsGuestPermitted path) _ _ (link_permits path level (record { gpn = f; index = i; value = word }) g j e) r.0, r.1)
step_permits path level word f i words (Leaf g b s) gpn private size e w rest =
    let l : after_guest_word path level word ≡ Leaf gpn private size = cc in
    (All-cons (IsGuestPermitted path) _ [] (leaf_permits path level (record { gpn = f; index = i; value = word }) gpn private size l) (All-nil (IsGuestPermitted path)), leaf_inside path level word gpn private size l)
step_permits path level word f i words (Fault c) gpn private size e w rest = cc

walk_permits : (path : GuestPath) (level f i : ℕ) (words : List ℕ) (gpn : ℕ) (private : Bool) (size : PageSize) → guest_walk_from path level (Read f i) words ≡ Leaf gpn private size → All (IsGuestPermitted path) (guest_reads_from path level (Read f i) words) × (gpn < 2 ^ 36)
unfolding guest_walk_from guest_reads_from
walk_permits path level f i [] gpn private size w = cc
walk_permits path level f i (word ∷ words) gpn private size w = step_permits path level word f i words (after_guest_word path level word) gpn private size refl w (λ g j e. walk_permits path (level - 1) g j words gpn private size (subst (λ (x : GuestEnd). guest_walk_from path (level - 1) x words ≡ Leaf gpn private size) e w))

-- a walk that reaches a leaf passed each entry on its way, and the leaf's page number is below 2 ^ 36
pub guest_leaf_permits : (path : GuestPath) (words : List ℕ) (gpn : ℕ) (private : Bool) (size : PageSize) → guest_end path words ≡ Leaf gpn private size → All (IsGuestPermitted path) (guest_reads path words) × (gpn < 2 ^ 36)
guest_leaf_permits path words gpn private size e = walk_permits path path.levels path.root (guest_index path.address path.levels) words gpn private size e
