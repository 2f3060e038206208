-- Texts that are written, and read, piece by piece.
use Rattle.std.proofs.Common.{◌≡◌, ℕ, List, [], ◌++◌, Option, Some, None, Result, Ok, Err, sym, ap, ◌∙◌, subst, refl, append_assoc, append-nil}
use Rattle.snp_model.specs.Outside.{Adds, AddsPrefix, HasLeft, Takes, Writes}

-- adding nothing
pub adds_none : (old : Option (List ℕ)) → Adds old old []
adds_none None = tt
adds_none (Some written) = ap (λ (w : List ℕ). Some w) (sym (append-nil written))

-- adding twice
pub adds_twice : (old mid now : Option (List ℕ)) (xs ys : List ℕ) → Adds old mid xs → Adds mid now ys → Adds old now (xs ++ ys)
adds_twice None mid now xs ys a b = tt
adds_twice (Some w) mid now xs ys a b =
    let P : Option (List ℕ) → Type 0 = λ m. Adds m now ys in
    let b' : now ≡ Some ((w ++ xs) ++ ys) = subst P a b in
    b' ∙ ap (λ (v : List ℕ). Some v) (append_assoc w xs ys)

-- at the start
pub left_at_first : (old : Option (List ℕ)) (whole : List ℕ) → HasLeft old old whole whole
left_at_first old whole = record { front = []; adds = adds_none old; parts = refl }

-- after one more piece
pub left_after : (old mid now : Option (List ℕ)) (rest whole piece more : List ℕ) → HasLeft old mid rest whole → Adds mid now piece → rest ≡ piece ++ more → HasLeft old now more whole
left_after old mid now rest whole piece more h a e = record {
  front = h.front ++ piece;
  adds = adds_twice old mid now h.front piece h.adds a;
  parts = h.parts ∙ ap (λ (r : List ℕ). h.front ++ r) e ∙ sym (append_assoc h.front piece more);
}

-- at the end
pub left_all : (old now : Option (List ℕ)) (whole : List ℕ) → HasLeft old now [] whole → Adds old now whole
left_all old now whole h =
    let P : List ℕ → Type 0 = λ w. Adds old now w in
    subst P (sym (append-nil h.front) ∙ sym h.parts) h.adds

pub left_done : (old now : Option (List ℕ)) (rest whole : List ℕ) → rest ≡ [] → HasLeft old now rest whole → Adds old now whole
left_done old now rest whole e h =
    let P : List ℕ → Type 0 = λ r. HasLeft old now r whole in
    left_all old now whole (subst P e h)

-- where a piece failed midway
pub prefix_after : (old mid now : Option (List ℕ)) (rest whole piece more : List ℕ) → HasLeft old mid rest whole → AddsPrefix mid now piece → rest ≡ piece ++ more → AddsPrefix old now whole
prefix_after old mid now rest whole piece more h p e =
    let l = p.left in
    record {
      rest = p.rest ++ more;
      left = left_after old mid now rest whole l.front (p.rest ++ more) h l.adds (e ∙ ap (λ (x : List ℕ). x ++ more) l.parts ∙ append_assoc l.front p.rest more);
    }

-- where a piece failed at once
pub prefix_none : (old mid now : Option (List ℕ)) (rest whole : List ℕ) → HasLeft old mid rest whole → Adds mid now [] → AddsPrefix old now whole
prefix_none old mid now rest whole h a = record { rest = rest; left = left_after old mid now rest whole [] rest h a refl }

-- the last piece
pub writes_last : {T E : Type 0} (old mid now : Option (List ℕ)) (result : Result T E) (rest whole : List ℕ) → HasLeft old mid rest whole → Writes mid now result rest → Writes old now result whole
writes_last old mid now (Ok x) rest whole h a = left_all old now whole (left_after old mid now rest whole rest [] h a (sym (append-nil rest)))
writes_last old mid now (Err e) rest whole h p = prefix_after old mid now rest whole rest [] h p (sym (append-nil rest))

-- taking nothing
pub takes_none : (old : Option (List ℕ)) → Takes old old []
takes_none None = tt
takes_none (Some left) = (left, refl, refl)

-- taking twice
pub takes_twice : (old mid now : Option (List ℕ)) (xs ys : List ℕ) → Takes old mid xs → Takes mid now ys → Takes old now (xs ++ ys)
takes_twice None mid now xs ys a b = tt
takes_twice (Some left) mid now xs ys a b =
    let P : Option (List ℕ) → Type 0 = λ m. Takes m now ys in
    let c = subst P a.1 b in
    (c.0, c.1, a.2 ∙ ap (λ (r : List ℕ). xs ++ r) c.2 ∙ sym (append_assoc xs ys c.0))
