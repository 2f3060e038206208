-- none of the locks so far is of the frame
use Rattle.std.proofs.Common.{◌≡◌, drop}
use Rattle.rmp_table.specs.Locks.{holder_among}
use Rattle.rmp_table.proofs.locks.holder_among.Given as goal

abbrev pub invariant-locks : goal.invariant-locks
invariant-locks l = holder_among (drop l.lock-index l.locks) l.slot ≡ holder_among l.locks l.slot
