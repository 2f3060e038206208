use Rattle.std.proofs.Common.{ap}
use Rattle.machine_core.specs.Machine.{state_of}
use Rattle.snp_model.specs.Journal.{JournalImage}
use Rattle.snp_top.proofs.WholeLaws.{idle_whole}
use Rattle.snp_top.proofs.run.without_actors.Goals as goal

pub returns : goal.returns
returns c = idle_whole c.args.scenario.now (state_of c.in_ok-machine.machine) c.take_guests.new.guests.items _ c.requires.none c.in_ok-machine.ensures c.take_guests.ensures (ap (λ (j : JournalImage). j.list) c.in_ok-journal.ensures)
