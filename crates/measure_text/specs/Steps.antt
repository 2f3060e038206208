-- What the steps of reading a measure text answer.
use Rattle.std.specs.Prelude.{◌≡◌, ℕ, List, Result, Ok, Err}
use Rattle.snp_model.specs.declared.reading.Reason.{Reason}
use Rattle.snp_model.specs.Measurement.{LaunchedPage}
use Rattle.snp_model.specs.MeasureText.{Measured, untitled, paged, ended}
use Rattle.measure_text.specs.declared.text.RefusedLine.{RefusedLine}
use Rattle.measure_text.specs.declared.reading.Made.{Made}
use Rattle.measure_text.specs.declared.reading.Tally.{Tally}
use Rattle.measure_text.specs.declared.reading.Made.TheVariants.{Untitled, Paged, Ended}

-- what is made so far, of which the digest is kept
abbrev pub made_of : Made → Measured (List ℕ)
made_of Untitled = untitled
made_of (Paged tally) = paged tally.digest tally.last
made_of (Ended digest) = ended digest

-- the page becomes this one, or the line is refused
abbrev pub Contains : Result (Unit {0}) Reason → LaunchedPage → Result LaunchedPage Reason → Type 0
Contains (Ok done) page answer = answer ≡ Ok page
Contains (Err reason) page answer = answer ≡ Err reason

-- the same of what is made so far
abbrev pub Changes : Result (Unit {0}) Reason → Made → Result (Measured (List ℕ)) Reason → Type 0
Changes (Ok done) made answer = answer ≡ Ok (made_of made)
Changes (Err reason) made answer = answer ≡ Err reason

-- and of one that changes the pages
abbrev pub Grows : Result (Unit {0}) Reason → Tally → Result (Measured (List ℕ)) Reason → Type 0
Grows (Ok done) tally answer = answer ≡ Ok (paged tally.digest tally.last)
Grows (Err reason) tally answer = answer ≡ Err reason

-- the result of a text is this one
abbrev pub Says : Result (List ℕ) RefusedLine → Result (List ℕ) (ℕ × Reason) → Type 0
Says (Ok digest) answer = answer ≡ Ok digest
Says (Err refused) answer = answer ≡ Err (refused.line, refused.reason)
