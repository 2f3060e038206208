use Rattle.std.proofs.Common.{sym, ◌∙◌}
use Rattle.scenario_text.proofs.StepLaws.{idle_pushed}
use Rattle.scenario_text.proofs.draft.Draft.add_actor.Goals as goal

pub invariant_of-self-clause-attempts_counted : goal.invariant_of-self-clause-attempts_counted
invariant_of-self-clause-attempts_counted c =
    c.args.self.now.attempts_counted ∙ sym (idle_pushed c.push.result c.args.self.now.scenario.actors _ _ c.in_ok-role.role c.push.ensures.ok c.push.ensures.err c.idle.ensures)
