use Rattle.std.proofs.Common.{◌≡◌, ◌+◌, ◌≤◌, length}
use Rattle.snp_model.specs.Lines.{parts_at}
use Rattle.snp_model.specs.Reading.{most_bytes}
use Rattle.snp_model.specs.Texts.{read_parts, read_text}
use Rattle.scenario_text.specs.Steps.{made_of}
use Rattle.scenario_text.proofs.text.read_lines.Given as goal

abbrev pub invariant-lines : goal.invariant-lines
invariant-lines l = (l.line + length l.rest ≤ most_bytes + 1) × (read_parts l.line (made_of l.made) (parts_at 10 l.rest) ≡ read_text l.text)

abbrev pub decreases-lines : goal.decreases-lines
decreases-lines l = length l.rest
