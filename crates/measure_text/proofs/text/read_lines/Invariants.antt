use Rattle.std.proofs.Common.{◌≡◌, ◌+◌, ◌≤◌, length}
use Rattle.snp_model.specs.Lines.{parts_at}
use Rattle.snp_model.specs.MeasureText.{hashing, kept_of, measure_parts}
use Rattle.snp_model.specs.Reading.{most_bytes}
use Rattle.measure_text.specs.Steps.{made_of}
use Rattle.measure_text.proofs.text.read_lines.Given as goal

abbrev pub invariant-lines : goal.invariant-lines
invariant-lines l = (l.line + length l.rest ≤ most_bytes + 1) × (measure_parts hashing l.line (made_of l.made) (parts_at 10 l.rest) ≡ kept_of hashing l.text)

abbrev pub decreases-lines : goal.decreases-lines
decreases-lines l = length l.rest
