use Rattle.run_theorems.proofs.ArchiveLaws.{run_below, run_stays}
use Rattle.run_theorems.proofs.CounterLaws.{never_falls}
use Rattle.run_theorems.proofs.counter.sealing_counters.Goals as goal

pub returns-clause-never_falls : goal.returns-clause-never_falls
returns-clause-never_falls c = never_falls

pub returns-clause-below : goal.returns-clause-below
returns-clause-below c = run_below

pub returns-clause-stays : goal.returns-clause-stays
returns-clause-stays c = run_stays
