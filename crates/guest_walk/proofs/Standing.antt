-- A walk that is fed with a word and goes on stands at its next read.
use Rattle.std.proofs.Common.{◌≡◌, ℕ, suc, ◌+◌, ◌-◌, ◌^◌, ◌<◌, ◌≤◌, List, [], ◌∷◌, ◌++◌, length, take, set, replicate, refl, sym, ap, ◌∙◌, subst, append_assoc, length-set, arith}
use Rattle.std.proofs.lemmas.List.{take_more_set, set_at, length-take-le}
use Rattle.snp_model.specs.declared.walk.GuestPath.{GuestPath}
use Rattle.snp_model.specs.declared.walk.GuestEnd.{GuestEnd}
use Rattle.snp_model.specs.declared.walk.GuestEnd.TheVariants.{Read, Leaf, Fault}
use Rattle.snp_model.specs.GuestWalk.{guest_index, after_guest_word, guest_walk_from, guest_end}
use Rattle.guest_walk.specs.GuestReads.{IsGuestWalk, guest_reads}
use Rattle.guest_walk.specs.declared.walk.GuestWalked.{GuestWalked}
use Rattle.guest_walk.specs.declared.walk.GuestWalked.TheVariants.{More}
use Rattle.guest_walk.specs.Walk.{Walk, IsStanding}
use Rattle.guest_walk.specs.Answer.{answer_at, answer_of, end_of}
use Rattle.guest_walk.proofs.GuestReadsLaws.{link_of, guest_end-push, guest_walk_is}

-- a walk that has read nothing stands at its first read
pub standing_first : (path : GuestPath) → 4 ≤ path.levels → path.levels ≤ 5 → path.root < 2 ^ 36 → IsStanding path path.root (0 ∷ 0 ∷ 0 ∷ 0 ∷ 0 ∷ []) 0
unfolding guest_walk_from
standing_first path low high below =
    let d : path.levels ≡ path.levels - 0 = omega arith in
    record {
      levels = omega arith;
      room = refl;
      goes_on = omega arith;
      rest = refl;
      below = below;
      stands = ap (λ (x : ℕ). Read path.root (guest_index path.address x)) d;
    }

replicate_less : (n count : ℕ) → count < n → replicate {A = ℕ} (n - count) 0 ≡ 0 ∷ replicate (n - (count + 1)) 0
replicate_less n count h = ap (λ (x : ℕ). replicate {A = ℕ} x 0) (let e : n - count ≡ suc (n - (count + 1)) = omega arith in e)

length_front : (words : List ℕ) (count : ℕ) → count < length words → length (take count words) ≡ count
length_front words count h = length-take-le count words (omega arith)

rest_more : (words : List ℕ) (n count word : ℕ) → length words ≡ n → count < n → words ≡ take count words ++ replicate (n - count) 0 → set words count word ≡ take (count + 1) (set words count word) ++ replicate (n - (count + 1)) 0
rest_more words n count word l h e =
    let q : List ℕ = replicate (n - (count + 1)) 0 in
    let f : length (take count words) ≡ count = length_front words count (omega arith) in
    let w : words ≡ take count words ++ 0 ∷ q = e ∙ ap (λ (x : List ℕ). take count words ++ x) (replicate_less n count h) in
    let s : set words count word ≡ take count words ++ word ∷ q = ap (λ (x : List ℕ). set x count word) w ∙ set_at (take count words) 0 q word count f in
    let t : take (count + 1) (set words count word) ≡ take count words ++ word ∷ [] = take_more_set words count word (omega arith) in
    s ∙ sym (ap (λ (x : List ℕ). x ++ q) t ∙ append_assoc (take count words) (word ∷ []) q)

pub standing_more : (path : GuestPath) (table : ℕ) (words : List ℕ) (count word gpn index : ℕ) → IsStanding path table words count → after_guest_word path (path.levels - count) word ≡ Read gpn index → gpn < 2 ^ 36 → IsStanding path gpn (set words count word) (count + 1)
standing_more path table words count word gpn index s e below =
    let l = link_of path (path.levels - count) word gpn index e in
    let c = s.goes_on in
    let t : take (count + 1) (set words count word) ≡ take count words ++ word ∷ [] = take_more_set words count word (omega (arith, s.room, s.levels)) in
    let f : length (take count words) ≡ count = length_front words count (omega (arith, s.room, s.levels)) in
    let p = guest_end-push path (take count words) word table _ s.stands in
    let d : path.levels - count - 1 ≡ path.levels - (count + 1) = omega arith in
    record {
      levels = s.levels;
      room = length-set words count word ∙ s.room;
      goes_on = omega (arith, l.not_last);
      rest = rest_more words 5 count word s.room (omega (arith, s.levels)) s.rest;
      below = below;
      stands = ap (guest_end path) t ∙ p ∙ ap (λ (x : ℕ). after_guest_word path (path.levels - x) word) f ∙ e ∙ ap (λ (x : ℕ). Read gpn x) (l.index_is ∙ ap (guest_index path.address) d);
    }

-- what a walk answers where it is fed with a word
pub answer_is : (path : GuestPath) (table : ℕ) (words : List ℕ) (count word : ℕ) (self : Walk) → IsStanding path table words count → record { path = path; words = take count words } ≡ self → answer_at path (take count words ++ word ∷ []) (after_guest_word path (path.levels - count) word) ≡ answer_of self.path (self.words ++ word ∷ [])
answer_is path table words count word self s e =
    let f : length (take count words) ≡ count = length_front words count (omega (arith, s.room, s.levels, s.goes_on)) in
    let p = guest_end-push path (take count words) word table _ s.stands in
    let d : guest_end path (take count words ++ word ∷ []) ≡ after_guest_word path (path.levels - count) word = p ∙ ap (λ (x : ℕ). after_guest_word path (path.levels - x) word) f in
    ap (answer_at path (take count words ++ word ∷ [])) (sym d) ∙ ap (λ (w : Walk). answer_of w.path (w.words ++ word ∷ [])) e

-- and where it goes on
pub more_is : (path : GuestPath) (table : ℕ) (words : List ℕ) (count word gpn index : ℕ) (self : Walk) → IsStanding path table words count → record { path = path; words = take count words } ≡ self → Read gpn index ≡ after_guest_word path (path.levels - count) word → More (record { path = path; words = take (count + 1) (set words count word) }) ≡ answer_of self.path (self.words ++ word ∷ [])
more_is path table words count word gpn index self s e v =
    let t : take (count + 1) (set words count word) ≡ take count words ++ word ∷ [] = take_more_set words count word (omega (arith, s.room, s.levels, s.goes_on)) in
    ap (λ (x : List ℕ). More (record { path = path; words = x })) t ∙ ap (answer_at path (take count words ++ word ∷ [])) v ∙ answer_is path table words count word self s e

end_of-answer_at : (path : GuestPath) (words : List ℕ) (stands : GuestEnd) → guest_end path words ≡ stands → end_of (answer_at path words stands) ≡ guest_end path words
end_of-answer_at path words (Read gpn index) e = refl
end_of-answer_at path words (Leaf gpn private size) e = sym e
end_of-answer_at path words (Fault code) e = sym e

-- the answer is where the reads end
pub answered_walk : (path : GuestPath) (words : List ℕ) (answer : GuestWalked) → 0 < path.levels → answer ≡ answer_of path words → IsGuestWalk path (guest_reads path words) (end_of answer)
answered_walk path words answer p e =
    let f : end_of answer ≡ guest_end path words = ap end_of e ∙ end_of-answer_at path words (guest_end path words) refl in
    rw f (guest_walk_is path words p)

-- where a walk stands is where its reads end
pub stood_walk : (path : GuestPath) (words : List ℕ) (stands : GuestEnd) → 0 < path.levels → guest_end path words ≡ stands → IsGuestWalk path (guest_reads path words) stands
stood_walk path words stands p e = subst (λ (x : GuestEnd). IsGuestWalk path (guest_reads path words) x) e (guest_walk_is path words p)

pub has_levels : (path : GuestPath) (table : ℕ) (words : List ℕ) (count : ℕ) (self : Walk) → IsStanding path table words count → record { path = path; words = take count words } ≡ self → 0 < self.path.levels
has_levels path table words count self s e =
    let h : 0 < path.levels = omega (arith, s.goes_on) in subst (λ (w : Walk). 0 < w.path.levels) e h
