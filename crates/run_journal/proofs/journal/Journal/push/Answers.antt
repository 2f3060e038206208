use Rattle.std.proofs.Common.{◌≡◌, ◌<◌, ℕ, ◌∷◌, [], ◌++◌, List, length, vec_capacity, refl, ap, ◌∙◌, arith}
use Rattle.snp_model.specs.declared.event.Event.{Event}
use Rattle.snp_model.specs.Journal.{JournalImage}
use Rattle.run_journal.specs.Shorts.{entries_of}
use Rattle.run_journal.proofs.ShortLaws.{shorts_more, entries_more, length_entries}
use Rattle.run_journal.proofs.journal.Journal.push.Goals as goal

pub invariant_of-self : goal.invariant_of-self
invariant_of-self c =
    let marks = c.self.inside.marks.items in
    let shorts = c.self.inside.events.items in
    let outcomes = c.self.inside.outcomes.items in
    let list : length (entries_of outcomes marks shorts) ≡ length c.args.self.now.list = ap (λ (e : JournalImage). length e.list) c.self.view_is in
    let room : vec_capacity c.self.inside.events ≡ c.args.self.now.room = ap (λ (e : JournalImage). e.room) c.self.view_is in
    let long = length_entries outcomes marks shorts c.self.invariant.whose in
    let some : length shorts < vec_capacity c.self.inside.events = omega (arith, c.requires) in
    shorts_more marks _ _ _ shorts _ _ _ outcomes _ _ _ _ _ _ _ c.self.invariant c.keep_outcome-end.ensures.kept c.push_reserved.ensures.items c.push_reserved-2.ensures.items c.push_reserved.ensures.capacity c.push_reserved-2.ensures.capacity c.keep_outcome-end.ensures.capacity refl some

pub returns-clause-list : goal.returns-clause-list
returns-clause-list c =
    let marks = c.self.inside.marks.items in
    let shorts = c.self.inside.events.items in
    let outcomes = c.self.inside.outcomes.items in
    let after = c.keep_outcome-end.new.outcomes.items in
    let list : entries_of outcomes marks shorts ≡ c.args.self.now.list = ap (λ (e : JournalImage). e.list) c.self.view_is in
    (λ i. entries_of after (c.push_reserved.ensures.items i) (c.push_reserved-2.ensures.items i))
    ∙ entries_more outcomes after c.args.event _ c.args.actor marks shorts _ _ c.keep_outcome-end.ensures.kept c.self.invariant.within c.self.invariant.whose refl c.from_event.ensures.item c.from_event.ensures.attempt c.from_event.ensures.deed
    ∙ ap (λ (es : List (ℕ × Event)). es ++ (c.args.actor, c.args.event) ∷ []) list
