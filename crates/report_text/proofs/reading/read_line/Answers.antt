use Rattle.std.proofs.Common.{◌∙◌}
use Rattle.report_text.proofs.EventAgain.{read_again_of, read_every}
use Rattle.report_text.proofs.reading.read_line.Goals as goal

pub returns-clause-written : goal.returns-clause-written
returns-clause-written c = λ k actor event is. c.read_checked.ensures ∙ read_again_of c.args.line.now k actor event is

pub returns-clause-every : goal.returns-clause-every
returns-clause-every c = rw c.read_checked.ensures (read_every c.args.line.now)
