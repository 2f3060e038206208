use Rattle.machine_core.proofs.LaunchedLaws.{launched_after}
use Rattle.machine_core.proofs.launch.commit_launched.Goals as goal

pub returns-clause-contexts : goal.returns-clause-contexts
returns-clause-contexts g c =
    λ guests.
    launched_after c.args.command.now c.args.guest c.args.frame (g.P.Parts.stock c.args.parts.now) (g.P.Parts.stock c.commit_page-entry.new.parts) (g.P.Parts.stock c.commit_context.new.parts) c.commit_page-entry.result c.commit_page-entry.new.words guests
    c.commit_page-entry.ensures.entry c.commit_page-entry.ensures.words c.commit_page-entry.ensures.pages c.commit_page-entry.ensures.contexts c.commit_context.ensures.bays (c.commit_context.ensures.contexts guests)
