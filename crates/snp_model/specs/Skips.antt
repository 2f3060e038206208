-- Skips (this project's own): an item that passes over items after it, by a test on its actor's last outcome that isn't of a skip.
use Rattle.std.specs.Prelude.{ℕ, ◌==◌, Bool, false, if◌then◌else◌, Option, Some, None}
use Rattle.snp_model.specs.declared.event.Outcome.{Outcome}
use Rattle.snp_model.specs.declared.event.Outcome.TheVariants.{Loaded, Swapped, Compared, Next, Skipped}
use Rattle.snp_model.specs.declared.item.SkipTest.{SkipTest}
use Rattle.snp_model.specs.declared.item.SkipTest.TheVariants.{Good, Bad, Value}
use Rattle.snp_model.specs.Outcomes.{is_good, is_bad}

-- whether an outcome gives this value; a compare gives the word that it found, whether or not it wrote
unfoldable pub gives : ℕ → Outcome → Bool
gives value (Loaded word) = word == value
gives value (Swapped word) = word == value
gives value (Compared found written) = found == value
gives value outcome = false

-- whether a test holds of an outcome
unfoldable pub test_holds : SkipTest → Outcome → Bool
test_holds Good outcome = is_good outcome
test_holds Bad outcome = is_bad outcome
test_holds (Value value) outcome = gives value outcome

-- how a skip of so many items ends, by the last outcome that isn't of a skip; where there is none, the test fails
unfoldable pub skip_outcome : ℕ → SkipTest → Option Outcome → Outcome
skip_outcome count test None = Next
skip_outcome count test (Some last) = if test_holds test last then Skipped count else Next
