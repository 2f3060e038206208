use Rattle.snp_model.proofs.SoundLaws.{valid_is_sound}
use Rattle.run_laws.proofs.LocalityLaws.{step_local}
use Rattle.run_laws.proofs.LockedRuns.{run_exclusive, run_tested}
use Rattle.run_laws.proofs.OpeningInvariant.{opening_unique}
use Rattle.run_laws.proofs.ReadyLaws.{run_ready}
use Rattle.run_laws.proofs.RoomLaws.{run_bounded}
use Rattle.run_laws.proofs.SealedLaws.{run_locked, run_shaped}
use Rattle.machine_core.proofs.law.machine_laws.Goals as goal

pub returns-clause-local : goal.returns-clause-local
returns-clause-local c = step_local

pub returns-clause-short : goal.returns-clause-short
returns-clause-short c = run_bounded

pub returns-clause-ready : goal.returns-clause-ready
returns-clause-ready c = λ scenario schedule valid defined. run_ready scenario schedule (valid_is_sound scenario valid) defined

pub returns-clause-locked : goal.returns-clause-locked
returns-clause-locked c = λ scenario schedule valid defined. run_locked scenario schedule (valid_is_sound scenario valid) defined

pub returns-clause-whole : goal.returns-clause-whole
returns-clause-whole c = λ scenario schedule frame valid defined large. (run_shaped scenario schedule (valid_is_sound scenario valid) defined).whole frame large

pub returns-clause-opening : goal.returns-clause-opening
returns-clause-opening c = λ scenario guest past valid some most. opening_unique scenario guest past (valid_is_sound scenario valid) some most

pub returns-clause-exclusive : goal.returns-clause-exclusive
returns-clause-exclusive c = run_exclusive

pub returns-clause-tested : goal.returns-clause-tested
returns-clause-tested c = run_tested
