-- What a sink holds, after texts that are written piece by piece.
use Rattle.std.proofs.Common.{◌≡◌, ℕ, List, [], ◌++◌, Result, Ok, Err, sym, ap, ◌∙◌, subst, refl, append_assoc, append-nil}
use Rattle.outside_port.specs.Holding.{Held, HoldsMore}

-- a front of the whole was added to what is held, and the rest of it is still to come
pub record HoldsLeft (old now : List ℕ → Type 0) (rest whole : List ℕ) : Type 0 where
  pub front : List ℕ
  pub holds : HoldsMore old now front
  pub parts : whole ≡ front ++ rest

-- adding nothing
pub holds_none : (old : List ℕ → Type 0) → HoldsMore old old []
holds_none old text h = subst old (sym (append-nil text)) h

-- adding twice
pub holds_twice : (old mid now : List ℕ → Type 0) (xs ys : List ℕ) → HoldsMore old mid xs → HoldsMore mid now ys → HoldsMore old now (xs ++ ys)
holds_twice old mid now xs ys a b text h = subst now (append_assoc text xs ys) (b (text ++ xs) (a text h))

-- at the start
pub holds_at_first : (old : List ℕ → Type 0) (whole : List ℕ) → HoldsLeft old old whole whole
holds_at_first old whole = record { front = []; holds = holds_none old; parts = refl }

-- after one more piece
pub holds_after : (old mid now : List ℕ → Type 0) (rest whole piece more : List ℕ) → HoldsLeft old mid rest whole → HoldsMore mid now piece → rest ≡ piece ++ more → HoldsLeft old now more whole
holds_after old mid now rest whole piece more h a e = record {
  front = h.front ++ piece;
  holds = holds_twice old mid now h.front piece h.holds a;
  parts = h.parts ∙ ap (λ (r : List ℕ). h.front ++ r) e ∙ sym (append_assoc h.front piece more);
}

-- at the end
pub holds_done : (old now : List ℕ → Type 0) (rest whole : List ℕ) → rest ≡ [] → HoldsLeft old now rest whole → HoldsMore old now whole
holds_done old now rest whole e h =
    let whole_is : h.front ≡ whole = sym (append-nil h.front) ∙ ap (λ (r : List ℕ). h.front ++ r) (sym e) ∙ sym h.parts in
    subst (λ (w : List ℕ). HoldsMore old now w) whole_is h.holds

-- the last piece
pub holds_last : {T E : Type 0} (old mid now : List ℕ → Type 0) (result : Result T E) (rest whole : List ℕ) → HoldsLeft old mid rest whole → Held mid now result rest → Held old now result whole
holds_last old mid now (Ok x) rest whole h a = holds_done old now [] whole refl (holds_after old mid now rest whole rest [] h a (sym (append-nil rest)))
holds_last old mid now (Err e) rest whole h a = tt
