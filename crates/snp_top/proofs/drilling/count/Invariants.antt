-- the events that were counted and those that are left
use Rattle.std.proofs.Common.{◌≡◌, ◌+◌, ◌≤◌, drop}
use Rattle.snp_model.specs.Drill.{count_where}
use Rattle.snp_top.specs.Drills.{is_of}
use Rattle.snp_top.proofs.drilling.count.Given as goal

abbrev pub invariant-events : goal.invariant-events
invariant-events l = record {
  counted : l.count + count_where (is_of l.sort) (drop l.k l.journal.list) ≡ count_where (is_of l.sort) l.journal.list;
  few : l.count ≤ l.k;
}
