-- A text that is read piece by piece.
use Rattle.std.proofs.Common.{◌≡◌, ℕ, ◌+◌, ◌≤◌, List, ◌++◌, length, take, Option, Result, Ok, Err, IfOk, sym, subst, arith, length-append, length-take}
use Rattle.std.proofs.lemmas.List.{take-append-le}
use Rattle.snp_model.specs.Outside.{ReadTakes, Takes}
use Rattle.snp_model.proofs.Adding.{takes_twice}

-- a read into the front of a longer buffer
pub read_front : {E : Type 0} (old now : Option (List ℕ)) (result : Result ℕ E) (piece rest whole : List ℕ) → length piece ≡ length whole → IfOk result (λ n. n ≤ length whole) → ReadTakes old now result piece → ReadTakes old now result (piece ++ rest)
read_front old now (Ok n) piece rest whole same within takes =
    let P : List ℕ → Type 0 = λ bytes. Takes old now bytes in
    subst P (sym (take-append-le n piece rest (omega arith))) takes
read_front old now (Err e) piece rest whole same within takes = takes

-- a piece more, which may not find its place in memory
pub takes_piece : (old mid now : Option (List ℕ)) (bytes buffer : List ℕ) (count room most : ℕ) → Takes old mid bytes → Takes mid now (take count buffer) → count ≤ room → length bytes + room ≤ most
    → (whole : List ℕ) × (length whole ≤ most) × Takes old now whole
takes_piece old mid now bytes buffer count room most first second within few =
    (bytes ++ take count buffer, omega (arith, length-append bytes (take count buffer), length-take count buffer), takes_twice old mid now bytes (take count buffer) first second)
