use Rattle.text_laws.proofs.OrderLaws.{run_prints, written_again, schedule_spelled, read_again, replayed_again, reported_again}
use Rattle.text_laws.proofs.order.printed_orders.Goals as goal

pub returns-clause-printed : goal.returns-clause-printed
returns-clause-printed c = run_prints

pub returns-clause-written : goal.returns-clause-written
returns-clause-written c = written_again

pub returns-clause-spelled : goal.returns-clause-spelled
returns-clause-spelled c = schedule_spelled

pub returns-clause-read : goal.returns-clause-read
returns-clause-read c = read_again

pub returns-clause-replayed : goal.returns-clause-replayed
returns-clause-replayed c = replayed_again

pub returns-clause-reported : goal.returns-clause-reported
returns-clause-reported c = reported_again
