use Rattle.std.proofs.Common.{◌∙◌, sym, inl, inr}
use Rattle.std.proofs.lemmas.Bool.{false≢true}
use Rattle.fw_reclaim.proofs.ReclaimLaws.{contexts_stay, frames_given_back, frames_released, frames_stay}
use Rattle.fw_reclaim.proofs.reclaim.reclaim_commit.Goals as goal
use Rattle.fw_reclaim.proofs.reclaim.reclaim_commit.Goals.{then-not-entry-via-then-not-entry, then-not-entry-via-else-not-entry+then-not-entry-2}

pub returns-then-not-entry-clause-pages : goal.returns-then-not-entry-clause-pages
returns-then-not-entry-clause-pages c =
    frames_stay c.args.memory.now c.args.rmp.now c.args.slot c.page_entry-entry.result (record { table = c.whole.ensures; below = c.requires.slot_below; is = c.page_entry-entry.ensures.entry })
    (elim c.then-not-entry.branch [
      | then-not-entry-via-then-not-entry w ↦ inl w.if-not-entry.true
      | then-not-entry-via-else-not-entry+then-not-entry-2 w ↦ inr (w.if-not-entry.false, w.if-not-entry-2.true)
    ])

pub returns-then-entry-ne0-clause-pages : goal.returns-then-entry-ne0-clause-pages
returns-then-entry-ne0-clause-pages c =
    frames_given_back c.args.memory.now c.args.rmp.now c.give_back.new.rmp c.args.slot c.page_entry-entry.result (record { table = c.whole.ensures; below = c.requires.slot_below; is = c.page_entry-entry.ensures.entry })
    c.if-not-entry.false c.if-not-entry-2.false c.if-entry-ne0.true c.give_back.ensures.facts

pub returns-then-not-is_context-clause-pages : goal.returns-then-not-is_context-clause-pages
returns-then-not-is_context-clause-pages c =
    c.release.ensures.pages
    ∙ frames_released c.args.memory.now c.args.rmp.now c.args.slot c.page_entry-entry.result (record { table = c.whole.ensures; below = c.requires.slot_below; is = c.page_entry-entry.ensures.entry })
    c.if-not-entry.false c.if-not-entry-2.false c.if-entry-ne0.false (λ context. false≢true (sym c.if-not-is_context.true ∙ c.is_context.ensures.1 context))

pub returns-else-not-is_context-clause-pages : goal.returns-else-not-is_context-clause-pages
returns-else-not-is_context-clause-pages c =
    contexts_stay c.args.memory.now c.args.rmp.now c.args.slot c.page_entry-entry.result (record { table = c.whole.ensures; below = c.requires.slot_below; is = c.page_entry-entry.ensures.entry })
    c.if-not-entry.false c.if-not-entry-2.false c.if-entry-ne0.false (c.is_context.ensures.0 c.if-not-is_context.false)
