use Rattle.std.proofs.Common.{◌≤◌, length}
use Rattle.snp_model.specs.Outside.{HasLeft}
use Rattle.outside_port.proofs.HoldingLaws.{HoldsLeft}
use Rattle.outside_port.proofs.sink.write_all.Given as goal

abbrev pub invariant-pieces : goal.invariant-pieces
invariant-pieces g l = record {
  later : g.K.Sink.faults l.initial.sink ≤ g.K.Sink.faults l.sink;
  left : HasLeft (g.K.Sink.written l.initial.sink) (g.K.Sink.written l.sink) l.rest l.bytes;
  held : HoldsLeft (g.K.Sink.holds l.initial.sink) (g.K.Sink.holds l.sink) l.rest l.bytes;
}

abbrev pub decreases-pieces : goal.decreases-pieces
decreases-pieces g l = length l.rest
