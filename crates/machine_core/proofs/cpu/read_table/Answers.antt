use Rattle.std.proofs.Common.{None, Some, sym, ◌∙◌}
use Rattle.machine_core.specs.Moves.{processor_of}
use Rattle.machine_core.proofs.CpuLaws.{table_read_shown}
use Rattle.machine_core.proofs.cpu.read_table.Goals as goal

pub returns-in-None-clause-shown : goal.returns-in-None-clause-shown
returns-in-None-clause-shown g c =
    λ frames.
    let walker = c.args.walker.now in
    let place = c.args.place.now in
    table_read_shown frames (processor_of walker.cpu) walker.lookup c.args.actor.now.deeds place.gpn place.index c.args.frame c.in-Ok.word _ _ _ None _ c.guest_words-words.ensures (sym c.in-Ok.is ∙ c.guest_table_word.ensures)
    c.in-None.is (c.fault_by_table.ensures frames walker.cpu.npt) c.quiet.ensures

pub returns-in-Some-clause-shown : goal.returns-in-Some-clause-shown
returns-in-Some-clause-shown g c =
    λ frames.
    let walker = c.args.walker.now in
    let place = c.args.place.now in
    table_read_shown frames (processor_of walker.cpu) walker.lookup c.args.actor.now.deeds place.gpn place.index c.args.frame c.in-Ok.word _ _ _ (Some c.in-Some.code) _ c.guest_words-words.ensures (sym c.in-Ok.is ∙ c.guest_table_word.ensures)
    c.in-Some.is (c.fault_by_table.ensures frames walker.cpu.npt) c.last.ensures
