use Rattle.std.proofs.Common.{◌∷◌, [], ◌++◌, sym, ap, ◌∙◌}
use Rattle.guest_walk.proofs.Standing.{standing_more, more_is, answer_is, answered_walk, has_levels}
use Rattle.guest_walk.specs.Answer.{answer_at}
use Rattle.guest_walk.proofs.walk.GuestWalk.feed.Goals as goal

pub invariant_of-result : goal.invariant_of-result
invariant_of-result c =
    standing_more c.self.inside.path c.self.inside.table c.self.inside.words c.self.inside.count c.args.word c.in-Read.gpn _ c.self.invariant (sym c.in-Read.ensures.value) c.in-Read.ensures.inside.0

pub returns-in-Read-clause-answer : goal.returns-in-Read-clause-answer
returns-in-Read-clause-answer c =
    more_is c.self.inside.path c.self.inside.table c.self.inside.words c.self.inside.count c.args.word c.in-Read.gpn _ c.args.self c.self.invariant c.self.view_is c.in-Read.ensures.value

pub returns-in-Read-clause-walk : goal.returns-in-Read-clause-walk
returns-in-Read-clause-walk c = answered_walk c.args.self.path (c.args.self.words ++ c.args.word ∷ []) _ (has_levels c.self.inside.path c.self.inside.table c.self.inside.words c.self.inside.count c.args.self c.self.invariant c.self.view_is) (returns-in-Read-clause-answer c)

pub returns-in-Leaf-clause-answer : goal.returns-in-Leaf-clause-answer
returns-in-Leaf-clause-answer c =
    ap (answer_at c.self.inside.path _) c.in-Leaf.ensures.value ∙ answer_is c.self.inside.path c.self.inside.table c.self.inside.words c.self.inside.count c.args.word c.args.self c.self.invariant c.self.view_is

pub returns-in-Leaf-clause-walk : goal.returns-in-Leaf-clause-walk
returns-in-Leaf-clause-walk c = answered_walk c.args.self.path (c.args.self.words ++ c.args.word ∷ []) _ (has_levels c.self.inside.path c.self.inside.table c.self.inside.words c.self.inside.count c.args.self c.self.invariant c.self.view_is) (returns-in-Leaf-clause-answer c)

pub returns-in-Fault-clause-answer : goal.returns-in-Fault-clause-answer
returns-in-Fault-clause-answer c =
    ap (answer_at c.self.inside.path _) c.in-Fault.ensures.value ∙ answer_is c.self.inside.path c.self.inside.table c.self.inside.words c.self.inside.count c.args.word c.args.self c.self.invariant c.self.view_is

pub returns-in-Fault-clause-walk : goal.returns-in-Fault-clause-walk
returns-in-Fault-clause-walk c = answered_walk c.args.self.path (c.args.self.words ++ c.args.word ∷ []) _ (has_levels c.self.inside.path c.self.inside.table c.self.inside.words c.self.inside.count c.args.self c.self.invariant c.self.view_is) (returns-in-Fault-clause-answer c)
