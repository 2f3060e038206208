-- What a measure text says, and what its reader answers.
use Rattle.std.specs.Prelude.{◌≡◌, ℕ, List, Result, Ok, Err}
use Rattle.snp_model.specs.Measurement.{LaunchedPage, measure}
use Rattle.snp_model.specs.MeasureText.{SaysPages, RefusesPages}
use Rattle.measure_text.specs.declared.text.RefusedLine.{RefusedLine}

-- the text says some pages, and this is their launch digest; or this line is the first that is wrong, with the first reason that applies
abbrev pub Answers : Result (List ℕ) RefusedLine → List ℕ → Type 0
Answers (Ok digest) text = (pages : List LaunchedPage) × SaysPages text pages × (digest ≡ measure pages)
Answers (Err refused) text = RefusesPages text refused.line refused.reason
