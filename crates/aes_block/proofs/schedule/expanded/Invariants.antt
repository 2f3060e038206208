use Rattle.aes_block.proofs.ScheduleLaws.{IsSchedule}
use Rattle.aes_block.proofs.schedule.expanded.Given as goal

abbrev pub invariant-key : goal.invariant-key
invariant-key l = IsSchedule l.key l.words l.i

abbrev pub invariant-rest : goal.invariant-rest
invariant-rest l = IsSchedule l.key l.words l.i
