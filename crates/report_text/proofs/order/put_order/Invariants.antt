use Rattle.std.proofs.Common.{◌≡◌, ◌+◌, ◌*◌, ◌≤◌, ◌++◌, length, take, drop}
use Rattle.snp_model.specs.Journal.{actors_of}
use Rattle.snp_model.specs.Report.{order_lines, order_rest, runs_of}
use Rattle.report_text.proofs.order.put_order.Given as goal

abbrev pub invariant-runs : goal.invariant-runs
invariant-runs l = record {
  room : l.room ≤ 16;
  later : l.at + 16 ≤ l.next + l.room;
  within : l.next ≤ length l.journal.list;
  place : l.end + 42 * l.room ≤ 677;
  text : order_lines (runs_of (drop l.at (actors_of l.journal.list))) ≡ take l.end l.out ++ order_rest l.room (runs_of (drop l.next (actors_of l.journal.list)));
}

abbrev pub decreases-runs : goal.decreases-runs
decreases-runs l = l.room
