-- Reading a text line by line finds what the text says, or the first thing that is wrong with it.
use Rattle.std.proofs.Common.{◌≡◌, ℕ, ◌+◌, ◌⊎◌, List, [], ◌∷◌, ◌++◌, length, Result, Ok, Err, Some, refl, ap, inl, inr, arith}
use Rattle.std.specs.Prelude.{◌==◌}
use Rattle.std.proofs.lemmas.List.Splits.{length-slice_split}
use Rattle.snp_model.specs.declared.scenario.Scenario.{Scenario}
use Rattle.snp_model.specs.declared.reading.Reason.{Reason}
use Rattle.snp_model.specs.declared.reading.Reason.TheVariants.{Cut, End}
use Rattle.snp_model.specs.Lines.{◌>>=◌, parts_at}
use Rattle.snp_model.specs.Reading.{Made, nothing, reading, closed, Fault, refused, fit, Makes, ending_of}
use Rattle.snp_model.specs.Texts.{at_line, end_of, read_parts}

-- bytes have at least one part
pub record SomePart (ps : List (List ℕ)) : Type 0 where
  pub part : List ℕ
  pub parts : List (List ℕ)
  pub is : ps ≡ part ∷ parts

nonempty : (ps : List (List ℕ)) (n : ℕ) → length ps ≡ n + 1 → SomePart ps
nonempty [] n e = absurd (omega arith)
nonempty (part ∷ parts) n e = record { part = part; parts = parts; is = refl }

pub some_part : (c : ℕ) (bytes : List ℕ) → SomePart (parts_at c bytes)
some_part c bytes = nonempty (parts_at c bytes) _ (length-slice_split (λ b. b == c) bytes)

-- a line of these parts is the first that doesn't fit, where the first part is line n
pub record Stops (n : ℕ) (made : Made) (parts : List (List ℕ)) (m : ℕ) (fault : Fault) : Type 0 where
  pub before : List (List ℕ)
  pub line : List ℕ
  pub behind : List (List ℕ)
  pub rest : List ℕ
  pub middle : Made
  pub whole : parts ≡ (before ++ line ∷ behind) ++ rest ∷ []
  pub number : m ≡ length before + n
  pub makes : Makes made before middle
  pub stops : fit middle line ≡ Err fault

-- all lines of these parts fit, and the end is wrong
pub record Ends (n : ℕ) (made : Made) (parts : List (List ℕ)) (m : ℕ) (fault : Fault) : Type 0 where
  pub lines : List (List ℕ)
  pub rest : List ℕ
  pub middle : Made
  pub reason : Reason
  pub whole : parts ≡ lines ++ rest ∷ []
  pub number : m ≡ length lines + n
  pub makes : Makes made lines middle
  pub ends : ending_of middle rest ≡ Some reason
  pub fault_is : fault ≡ refused reason

-- all lines of these parts fit, and the last is `end`
pub record Closes (made : Made) (parts : List (List ℕ)) (c : Scenario) : Type 0 where
  pub lines : List (List ℕ)
  pub whole : parts ≡ lines ++ [] ∷ []
  pub makes : Makes made lines (closed c)

-- what the end says
abbrev pub Said : ℕ → Made → List (List ℕ) → Result Scenario (ℕ × Fault) → Type 0
Said n made parts (Ok c) = Closes made parts c
Said n made parts (Err stop) = Stops n made parts stop.0 stop.1 ⊎ Ends n made parts stop.0 stop.1

here : (n : ℕ) (made : Made) (rest : List ℕ) (reason : Reason) → ending_of made rest ≡ Some reason → Ends n made (rest ∷ []) n (refused reason)
unfolding Makes
here n made rest reason e = record { lines = []; rest = rest; middle = made; reason = reason; whole = refl; number = omega arith; makes = refl; ends = e; fault_is = refl }

at_end : (n : ℕ) (made : Made) (rest : List ℕ) → Said n made (rest ∷ []) (end_of n made rest)
unfolding end_of Makes
at_end n made (byte ∷ bytes) = inr (here n made (byte ∷ bytes) Cut refl)
at_end n nothing [] = inr (here n nothing [] End refl)
at_end n (reading c) [] = inr (here n (reading c) [] End refl)
at_end n (closed c) [] = record { lines = []; whole = refl; makes = refl }

-- a line that fits, before what is said of the parts behind it
later : (n : ℕ) (made next : Made) (line : List ℕ) (parts : List (List ℕ)) (answer : Result Scenario (ℕ × Fault)) → fit made line ≡ Ok next → Said (n + 1) next parts answer → Said n made (line ∷ parts) answer
unfolding Makes
later n made next line parts (Ok c) e s = record { lines = line ∷ s.lines; whole = ap (λ (ps : List (List ℕ)). line ∷ ps) s.whole; makes = (next, e, s.makes) }
later n made next line parts (Err stop) e (inl s) = inl (record { before = line ∷ s.before; line = s.line; behind = s.behind; rest = s.rest; middle = s.middle; whole = ap (λ (ps : List (List ℕ)). line ∷ ps) s.whole; number = omega (arith, s.number); makes = (next, e, s.makes); stops = s.stops })
later n made next line parts (Err stop) e (inr s) = inr (record { lines = line ∷ s.lines; rest = s.rest; middle = s.middle; reason = s.reason; whole = ap (λ (ps : List (List ℕ)). line ∷ ps) s.whole; number = omega (arith, s.number); makes = (next, e, s.makes); ends = s.ends; fault_is = s.fault_is })

-- a line that doesn't fit
split_last : (part : List ℕ) (parts : List (List ℕ)) → (lines : List (List ℕ)) × (rest : List ℕ) × (part ∷ parts ≡ lines ++ rest ∷ [])
split_last part [] = ([], part, refl)
split_last part (other ∷ parts) = let s = split_last other parts in (part ∷ s.0, s.1, ap (λ (ps : List (List ℕ)). part ∷ ps) s.2)

stopped : (n : ℕ) (made : Made) (line part : List ℕ) (parts : List (List ℕ)) (fault : Fault) → fit made line ≡ Err fault → Stops n made (line ∷ part ∷ parts) n fault
unfolding Makes
stopped n made line part parts fault e =
    let s = split_last part parts in
    record { before = []; line = line; behind = s.0; rest = s.1; middle = made; whole = ap (λ (ps : List (List ℕ)). line ∷ ps) s.2; number = omega arith; makes = refl; stops = e }

by_fit : (n : ℕ) (made : Made) (line part : List ℕ) (parts : List (List ℕ)) (fits : Result Made Fault) → fit made line ≡ fits → ((next : Made) → Said (n + 1) next (part ∷ parts) (read_parts (n + 1) next (part ∷ parts))) → Said n made (line ∷ part ∷ parts) (at_line n fits >>= (λ next. read_parts (n + 1) next (part ∷ parts)))
by_fit n made line part parts (Ok next) e more = later n made next line (part ∷ parts) (read_parts (n + 1) next (part ∷ parts)) e (more next)
by_fit n made line part parts (Err fault) e more = inl (stopped n made line part parts fault e)

-- what is read of parts is said by them
pub read_parts-said : (n : ℕ) (made : Made) (part : List ℕ) (parts : List (List ℕ)) → Said n made (part ∷ parts) (read_parts n made (part ∷ parts))
unfolding read_parts
read_parts-said n made part [] = at_end n made part
read_parts-said n made part (other ∷ parts) = by_fit n made part other parts (fit made part) refl (λ next. read_parts-said (n + 1) next other parts)
