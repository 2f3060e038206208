-- What a text says, read line by line from the first.
use Rattle.std.specs.Prelude.{ℕ, ◌+◌, List, [], ◌∷◌, Result, Ok, Err}
use Rattle.snp_model.specs.declared.scenario.Scenario.{Scenario}
use Rattle.snp_model.specs.declared.reading.Reason.TheVariants.{Cut, End}
use Rattle.snp_model.specs.Lines.{parts_at, ◌>>=◌}
use Rattle.snp_model.specs.Reading.{Made, nothing, closed, Fault, refused, fit}

-- a result, or a fault at line n
abbrev pub at_line : {A : Type 0} → ℕ → Result A Fault → Result A (ℕ × Fault)
at_line n (Ok x) = Ok x
at_line n (Err fault) = Err (n, fault)

-- the end of a text, whose line n would be what no line feed ends
unfoldable pub end_of : ℕ → Made → List ℕ → Result Scenario (ℕ × Fault)
end_of n made (byte ∷ bytes) = Err (n, refused Cut)
end_of n (closed c) [] = Ok c
end_of n made [] = Err (n, refused End)

-- what parts of a text say from line n on, the last part being what no line feed ends
unfoldable pub read_parts : ℕ → Made → List (List ℕ) → Result Scenario (ℕ × Fault)
read_parts n made [] = end_of n made []
read_parts n made (rest ∷ []) = end_of n made rest
read_parts n made (line ∷ part ∷ parts) = do
  next ← at_line n (fit made line)
  read_parts (n + 1) next (part ∷ parts)

-- what a text says, that isn't too long
unfoldable pub read_text : List ℕ → Result Scenario (ℕ × Fault)
read_text text = read_parts 1 nothing (parts_at 10 text)
