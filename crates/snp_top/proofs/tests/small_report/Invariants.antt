use Rattle.std.proofs.Common.{◌≡◌, length}
use Rattle.snp_top.proofs.tests.small_report.Given as goal

abbrev pub invariant-loop-k : goal.invariant-loop-k
invariant-loop-k l = (length l.journal.list ≡ l.k) × (l.journal.room ≡ 18)
