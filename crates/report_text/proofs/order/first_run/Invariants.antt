use Rattle.std.proofs.Common.{◌≡◌, ◌-◌, ◌<◌, ◌≤◌, length, drop}
use Rattle.snp_model.specs.Journal.{actors_of}
use Rattle.snp_model.specs.Report.{runs_after, runs_of}
use Rattle.report_text.proofs.order.first_run.Given as goal

abbrev pub invariant-run : goal.invariant-run
invariant-run l = record {
  later : l.at < l.end;
  within : l.end ≤ length l.journal.list;
  run : runs_of (drop l.at (actors_of l.journal.list)) ≡ runs_after l.actor (l.end - l.at) (drop l.end (actors_of l.journal.list));
}

abbrev pub decreases-run : goal.decreases-run
decreases-run l = length l.journal.list - l.end
