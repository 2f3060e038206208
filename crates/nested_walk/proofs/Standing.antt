-- A walk that is fed with a word and goes on stands at its next read.
use Rattle.std.proofs.Common.{◌≡◌, ℕ, suc, ◌+◌, ◌-◌, ◌^◌, ◌<◌, List, [], ◌∷◌, ◌++◌, length, take, set, replicate, refl, sym, ap, ◌∙◌, subst, append_assoc, length-set, arith}
use Rattle.std.proofs.lemmas.List.{take_more_set, set_at, length-take-le}
use Rattle.snp_model.specs.declared.walk.NestedPath.{NestedPath}
use Rattle.snp_model.specs.declared.walk.NestedEnd.{NestedEnd}
use Rattle.snp_model.specs.declared.walk.NestedEnd.TheVariants.{Read, Leaf, Fault}
use Rattle.snp_model.specs.NestedWalk.{nested_index, after_word, walk_from, nested_end}
use Rattle.nested_walk.specs.NestedReads.{IsNestedWalk, nested_reads}
use Rattle.nested_walk.specs.declared.walk.Walked.{Walked}
use Rattle.nested_walk.specs.declared.walk.Walked.TheVariants.{More}
use Rattle.nested_walk.specs.Walk.{Walk, IsStanding}
use Rattle.nested_walk.specs.Answer.{answer_at, answer_of, end_of}
use Rattle.nested_walk.proofs.NestedReadsLaws.{link_of, nested_end-push, nested_walk_is}

-- a walk that has read nothing stands at its first read
pub standing_first : (path : NestedPath) → path.gpn < 2 ^ 36 → path.root < path.frames → IsStanding path path.root (0 ∷ 0 ∷ 0 ∷ 0 ∷ []) 0
unfolding walk_from
standing_first path page inside = record { room = refl; goes_on = omega arith; rest = refl; page = page; inside = inside; stands = refl }

replicate_less : (n count : ℕ) → count < n → replicate {A = ℕ} (n - count) 0 ≡ 0 ∷ replicate (n - (count + 1)) 0
replicate_less n count h = ap (λ (x : ℕ). replicate {A = ℕ} x 0) (let e : n - count ≡ suc (n - (count + 1)) = omega arith in e)

length_front : (words : List ℕ) (count : ℕ) → count < length words → length (take count words) ≡ count
length_front words count h = length-take-le count words (omega arith)

rest_more : (words : List ℕ) (n count word : ℕ) → length words ≡ n → count < n → words ≡ take count words ++ replicate (n - count) 0 → set words count word ≡ take (count + 1) (set words count word) ++ replicate (n - (count + 1)) 0
rest_more words n count word l h e =
    let q : List ℕ = replicate (n - (count + 1)) 0 in
    let f : length (take count words) ≡ count = length_front words count (omega arith) in
    let w : words ≡ take count words ++ 0 ∷ q = e ∙ ap (λ (x : List ℕ). take count words ++ x) (replicate_less n count h) in
    let s : set words count word ≡ take count words ++ word ∷ q = ap (λ (x : List ℕ). set x count word) w ∙ set_at (take count words) 0 q word count f in
    let t : take (count + 1) (set words count word) ≡ take count words ++ word ∷ [] = take_more_set words count word (omega arith) in
    s ∙ sym (ap (λ (x : List ℕ). x ++ q) t ∙ append_assoc (take count words) (word ∷ []) q)

pub standing_more : (path : NestedPath) (table : ℕ) (words : List ℕ) (count word frame index : ℕ) → IsStanding path table words count → after_word path (4 - count) word ≡ Read frame index → frame < path.frames → IsStanding path frame (set words count word) (count + 1)
standing_more path table words count word frame index s e inside =
    let l = link_of path (4 - count) word frame index e in
    let c = s.goes_on in
    let t : take (count + 1) (set words count word) ≡ take count words ++ word ∷ [] = take_more_set words count word (omega (arith, s.room)) in
    let f : length (take count words) ≡ count = length_front words count (omega (arith, s.room)) in
    let p = nested_end-push path (take count words) word table _ s.stands in
    let d : 4 - count - 1 ≡ 4 - (count + 1) = omega arith in
    record {
      room = length-set words count word ∙ s.room;
      goes_on = omega (arith, l.not_last);
      rest = rest_more words 4 count word s.room c s.rest;
      page = s.page;
      inside = inside;
      stands = ap (nested_end path) t ∙ p ∙ ap (λ (x : ℕ). after_word path (4 - x) word) f ∙ e ∙ ap (λ (x : ℕ). Read frame x) (l.index_is ∙ ap (nested_index path.gpn) d);
    }

-- what a walk answers where it is fed with a word
pub answer_is : (path : NestedPath) (table : ℕ) (words : List ℕ) (count word : ℕ) (self : Walk) → IsStanding path table words count → record { path = path; words = take count words } ≡ self → answer_at path (take count words ++ word ∷ []) (after_word path (4 - count) word) ≡ answer_of self.path (self.words ++ word ∷ [])
answer_is path table words count word self s e =
    let f : length (take count words) ≡ count = length_front words count (omega (arith, s.room, s.goes_on)) in
    let p = nested_end-push path (take count words) word table _ s.stands in
    let d : nested_end path (take count words ++ word ∷ []) ≡ after_word path (4 - count) word = p ∙ ap (λ (x : ℕ). after_word path (4 - x) word) f in
    ap (answer_at path (take count words ++ word ∷ [])) (sym d) ∙ ap (λ (w : Walk). answer_of w.path (w.words ++ word ∷ [])) e

-- and where it goes on
pub more_is : (path : NestedPath) (table : ℕ) (words : List ℕ) (count word frame index : ℕ) (self : Walk) → IsStanding path table words count → record { path = path; words = take count words } ≡ self → Read frame index ≡ after_word path (4 - count) word → More (record { path = path; words = take (count + 1) (set words count word) }) ≡ answer_of self.path (self.words ++ word ∷ [])
more_is path table words count word frame index self s e v =
    let t : take (count + 1) (set words count word) ≡ take count words ++ word ∷ [] = take_more_set words count word (omega (arith, s.room, s.goes_on)) in
    ap (λ (x : List ℕ). More (record { path = path; words = x })) t ∙ ap (answer_at path (take count words ++ word ∷ [])) v ∙ answer_is path table words count word self s e

end_of-answer_at : (path : NestedPath) (words : List ℕ) (stands : NestedEnd) → nested_end path words ≡ stands → end_of (answer_at path words stands) ≡ nested_end path words
end_of-answer_at path words (Read frame index) e = refl
end_of-answer_at path words (Leaf frame size) e = sym e
end_of-answer_at path words (Fault code) e = sym e

-- the answer is where the reads end
pub answered_walk : (path : NestedPath) (words : List ℕ) (answer : Walked) → answer ≡ answer_of path words → IsNestedWalk path (nested_reads path words) (end_of answer)
answered_walk path words answer e =
    let f : end_of answer ≡ nested_end path words = ap end_of e ∙ end_of-answer_at path words (nested_end path words) refl in
    rw f (nested_walk_is path words)

-- where a walk stands is where its reads end
pub stood_walk : (path : NestedPath) (words : List ℕ) (stands : NestedEnd) → nested_end path words ≡ stands → IsNestedWalk path (nested_reads path words) stands
stood_walk path words stands e = subst (λ (x : NestedEnd). IsNestedWalk path (nested_reads path words) x) e (nested_walk_is path words)
