use Rattle.audit_laws.proofs.EventFits.{run_event_fits}
use Rattle.audit_laws.proofs.OwnReport.{own_audited, run_written}
use Rattle.audit_laws.proofs.RunHeard.{said_is}
use Rattle.audit_laws.proofs.laws.own_reports.Goals as goal

pub returns-clause-fits : goal.returns-clause-fits
returns-clause-fits c = run_event_fits

pub returns-clause-written : goal.returns-clause-written
returns-clause-written c = run_written

pub returns-clause-said : goal.returns-clause-said
returns-clause-said c = said_is

pub returns-clause-audited : goal.returns-clause-audited
returns-clause-audited c = own_audited
