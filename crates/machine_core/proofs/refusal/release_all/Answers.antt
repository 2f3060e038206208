use Rattle.std.proofs.Common.{ap, ◌∙◌, List}
use Rattle.snp_model.specs.State.{PageLock}
use Rattle.machine_core.specs.Bays.{holders_of}
use Rattle.machine_core.specs.Commands.{let_go_in}
use Rattle.machine_core.proofs.ReleaseLaws.{all_let_go}
use Rattle.machine_core.proofs.refusal.release_all.Goals as goal

pub returns-in-None-clause-locks : goal.returns-in-None-clause-locks
returns-in-None-clause-locks g c =
    let before = holders_of (g.P.Parts.stock c.args.parts.now).bays in
    c.release_pages.ensures.locks ∙ ap (λ (locks : List PageLock). let_go_in c.args.number locks before) c.locks.ensures ∙ all_let_go c.args.number c.args.actor.now.standing.locks before c.requires.regions c.requires.owns.only

pub returns-in-Some-clause-locks : goal.returns-in-Some-clause-locks
returns-in-Some-clause-locks g c =
    let before = holders_of (g.P.Parts.stock c.args.parts.now).bays in
    ap holders_of c.release_context.ensures.bays
    ∙ c.release_pages.ensures.locks ∙ ap (λ (locks : List PageLock). let_go_in c.args.number locks before) c.locks.ensures ∙ all_let_go c.args.number c.args.actor.now.standing.locks before c.requires.regions c.requires.owns.only
