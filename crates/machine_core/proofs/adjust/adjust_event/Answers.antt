use Rattle.std.proofs.Common.{refl}
use Rattle.machine_core.specs.Moves.{processor_of}
use Rattle.machine_core.proofs.ArrivedLaws.{adjust_admitted}
use Rattle.machine_core.proofs.adjust.adjust_event.Goals as goal

pub adjust_page-requires-clause-input : goal.adjust_page-requires-clause-input
adjust_page-requires-clause-input g c =
    adjust_admitted (processor_of c.args.cpu) c.args.ask.now.address c.args.ask.now.size c.args.ask.now.target c.args.ask.now.mask (c.requires.input (c.in-Some.ensures.begun refl))
