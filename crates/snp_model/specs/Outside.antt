-- What sources give and sinks take, where they tell their bytes, and how their faults are counted. This project's own.
use Rattle.std.specs.Prelude.{◌≡◌, ◌↔◌, ℕ, ◌+◌, ◌-◌, ◌^◌, ◌<◌, ◌≤◌, min, List, [], ◌++◌, length, take, IfSome, Option, Some, Result, Ok, Err}

-- what a sink holds is what it held followed by these bytes; nothing is said where it didn't tell
abbrev pub Adds : Option (List ℕ) → Option (List ℕ) → List ℕ → Type 0
Adds old now bytes = IfSome old (λ written. now ≡ Some (written ++ bytes))

-- a front of the whole was added, and the rest of it is still to come
pub record HasLeft (old now : Option (List ℕ)) (rest whole : List ℕ) : Type 0 where
  pub front : List ℕ
  pub adds : Adds old now front
  pub parts : whole ≡ front ++ rest

-- some front of these bytes was added
pub record AddsPrefix (old now : Option (List ℕ)) (bytes : List ℕ) : Type 0 where
  pub rest : List ℕ
  pub left : HasLeft old now rest bytes

-- all of a text was added, or a front of it where the writing failed
abbrev pub Writes : {T E : Type 0} → Option (List ℕ) → Option (List ℕ) → Result T E → List ℕ → Type 0
Writes old now (Ok x) text = Adds old now text
Writes old now (Err e) text = AddsPrefix old now text

-- a write of n bytes adds the first n of its piece, and one that fails adds none
abbrev pub WriteAdds : {E : Type 0} → Option (List ℕ) → Option (List ℕ) → Result ℕ E → List ℕ → Type 0
WriteAdds old now (Ok n) piece = Adds old now (take n piece)
WriteAdds old now (Err e) piece = Adds old now []

-- what was left is these bytes followed by what is left now; nothing is said where it wasn't told
abbrev pub Takes : Option (List ℕ) → Option (List ℕ) → List ℕ → Type 0
Takes old now bytes = IfSome old (λ left. (rest : List ℕ) × (now ≡ Some rest) × (left ≡ bytes ++ rest))

-- a read of n bytes takes them into the front of the buffer, and one that fails takes none
abbrev pub ReadTakes : {E : Type 0} → Option (List ℕ) → Option (List ℕ) → Result ℕ E → List ℕ → Type 0
ReadTakes old now (Ok n) buffer = Takes old now (take n buffer)
ReadTakes old now (Err e) buffer = Takes old now []

-- a read into a buffer that isn't empty gives no byte exactly where none is left
abbrev pub EndsWhereEmpty : {E : Type 0} → Option (List ℕ) → Result ℕ E → List ℕ → Type 0
EndsWhereEmpty old (Ok n) buffer = IfSome old (λ left. 0 < length buffer → ((n ≡ 0) ↔ (left ≡ [])))
EndsWhereEmpty old (Err e) buffer = Unit {0}

-- all that was left was taken, and it is these bytes
abbrev pub TakesAll : Option (List ℕ) → Option (List ℕ) → List ℕ → Type 0
TakesAll old now bytes = IfSome old (λ left. (now ≡ Some []) × (left ≡ bytes))

-- a count of faults rose, or stands at its last value
abbrev pub Rose : ℕ → ℕ → Type 0
Rose before now = (before ≤ now) × (min (before + 1) (2 ^ 64 - 1) ≤ now)
