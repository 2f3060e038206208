use Rattle.std.proofs.Common.{arith}
use Rattle.scenario_text.proofs.StepLaws.{Grown, line_grows, no_attempts}
use Rattle.scenario_text.proofs.draft.Draft.add_item.Goals as goal

pub invariant_of-self-clause-attempts_counted : goal.invariant_of-self-clause-attempts_counted
invariant_of-self-clause-attempts_counted c =
    let grown : Grown c.args.self.now.scenario.actors c.push_line.new.actors c.in_ok-line.line = line_grows c.as_slice.result.now _ _ _ c.in-Some.role c.as_slice.ensures c.in-Some.ensures c.in-Ok.ensures in
    omega (arith, grown.0, c.args.self.now.attempts_counted, c.from.ensures)

pub invariant_of-self-clause-actors_most : goal.invariant_of-self-clause-actors_most
invariant_of-self-clause-actors_most c =
    let grown : Grown c.args.self.now.scenario.actors c.push_line.new.actors c.in_ok-line.line = line_grows c.as_slice.result.now _ _ _ c.in-Some.role c.as_slice.ensures c.in-Some.ensures c.in-Ok.ensures in
    omega (arith, grown.1, c.args.self.now.actors_most)

pub invariant_of-self-in-Err-clause-attempts_counted : goal.invariant_of-self-in-Err-clause-attempts_counted
invariant_of-self-in-Err-clause-attempts_counted c = no_attempts _ c.new.ensures
