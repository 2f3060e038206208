use Rattle.std.proofs.Common.{ap, ◌∙◌}
use Rattle.machine_core.specs.CommandPages.{released_in}
use Rattle.machine_core.proofs.SwapLaws.{both_released, three_released}
use Rattle.machine_core.proofs.swap.release_sealing.Goals as goal

pub returns-in-OfEntry-clause-locks : goal.returns-in-OfEntry-clause-locks
returns-in-OfEntry-clause-locks g c =
    c.release-in-OfEntry.ensures.locks
    ∙ ap (released_in _ c.args.number) (c.release-2.ensures.locks ∙ ap (released_in _ c.args.number) c.release.ensures.locks)
    ∙ three_released c.args.number c.args.sealing.now.source c.args.sealing.now.target c.in-OfEntry.metadata c.in-OfEntry.number c.args.sealing.now.slot (g.P.Parts.stock c.args.parts.now) c.in-OfEntry.is c.requires.holds

pub returns-in-OfRoot-clause-locks : goal.returns-in-OfRoot-clause-locks
returns-in-OfRoot-clause-locks g c =
    c.release-2.ensures.locks
    ∙ ap (released_in _ c.args.number) c.release.ensures.locks
    ∙ both_released c.args.number c.args.sealing.now.source c.args.sealing.now.target c.args.sealing.now.slot (g.P.Parts.stock c.args.parts.now) c.in-OfRoot.is c.requires.holds
