-- the attempts so far and those that are left
use Rattle.std.proofs.Common.{◌≡◌, ◌+◌, drop}
use Rattle.snp_model.specs.Attempts.{script_attempts}
use Rattle.snp_model.proofs.attempts.count_script.Given as goal

abbrev pub invariant-lines : goal.invariant-lines
invariant-lines l = l.count + script_attempts (drop l.line-index l.script) ≡ script_attempts l.script
