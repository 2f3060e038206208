-- The steps of reading a measure text line by line.
use Rattle.std.proofs.Common.{◌≡◌, ℕ, ◌+◌, List, [], ◌∷◌, Ok, Err, refl, sym, subst}
use Rattle.snp_model.specs.declared.reading.Reason.{Reason}
use Rattle.snp_model.specs.Lines.{parts_at}
use Rattle.snp_model.specs.MeasureText.{Keeper, Measured, measure_end, measure_line, measure_parts}
use Rattle.snp_model.proofs.ReadingLaws.{some_part}

step_parts : {K : Type 0} (keeper : Keeper K) (n : ℕ) (made next : Measured K) (line part : List ℕ) (parts : List (List ℕ)) → measure_line keeper made line ≡ Ok next
    → measure_parts keeper n made (line ∷ part ∷ parts) ≡ measure_parts keeper (n + 1) next (part ∷ parts)
unfolding measure_parts
step_parts keeper n made next line part parts e = rw e refl

stop_parts : {K : Type 0} (keeper : Keeper K) (n : ℕ) (made : Measured K) (line part : List ℕ) (parts : List (List ℕ)) (reason : Reason) → measure_line keeper made line ≡ Err reason
    → measure_parts keeper n made (line ∷ part ∷ parts) ≡ Err (n, reason)
unfolding measure_parts
stop_parts keeper n made line part parts reason e = rw e refl

-- a line that fits is passed
pub step_line : {K : Type 0} (keeper : Keeper K) (n : ℕ) (made next : Measured K) (line more : List ℕ) → measure_line keeper made line ≡ Ok next
    → measure_parts keeper n made (line ∷ parts_at 10 more) ≡ measure_parts keeper (n + 1) next (parts_at 10 more)
step_line keeper n made next line more e =
    let s = some_part 10 more in
    let P : List (List ℕ) → Type 0 = λ ps. measure_parts keeper n made (line ∷ ps) ≡ measure_parts keeper (n + 1) next ps in
    subst P (sym s.is) (step_parts keeper n made next line s.part s.parts e)

-- one that doesn't fit stops the reading
pub stop_line : {K : Type 0} (keeper : Keeper K) (n : ℕ) (made : Measured K) (line more : List ℕ) (reason : Reason) → measure_line keeper made line ≡ Err reason
    → measure_parts keeper n made (line ∷ parts_at 10 more) ≡ Err (n, reason)
stop_line keeper n made line more reason e =
    let s = some_part 10 more in
    let P : List (List ℕ) → Type 0 = λ ps. measure_parts keeper n made (line ∷ ps) ≡ Err (n, reason) in
    subst P (sym s.is) (stop_parts keeper n made line s.part s.parts reason e)

-- the last part is the end
pub end_parts : {K : Type 0} (keeper : Keeper K) (n : ℕ) (made : Measured K) (rest : List ℕ) → measure_parts keeper n made (rest ∷ []) ≡ measure_end n made rest
unfolding measure_parts
end_parts keeper n made rest = refl
