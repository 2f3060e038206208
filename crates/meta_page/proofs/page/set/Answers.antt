use Rattle.std.proofs.Common.{ap, ◌∙◌, List, ℕ}
use Rattle.snp_model.specs.Metadata.{with_entry, with_slot}
use Rattle.snp_model.specs.RegionWords.{page_at, page_set}
use Rattle.meta_page.proofs.SlotLaws.{entry_set, others_set}
use Rattle.meta_page.proofs.page.set.Goals as goal

pub returns-clause-in_use : goal.returns-clause-in_use
unfolding with_entry
returns-clause-in_use c =
    entry_set c.args.memory.now _ c.args.page c.args.number c.args.entry.now c.whole.ensures c.requires.page_below c.requires.number_below c.entry_words.ensures.fits
    (c.write_slot.ensures ∙ ap (λ (new : List ℕ). page_set c.args.memory.now c.args.page (with_slot (page_at c.args.memory.now c.args.page) c.args.number new)) c.entry_words.ensures.words)

pub returns-clause-others : goal.returns-clause-others
unfolding with_entry
returns-clause-others c = λ other apart.
    others_set c.args.memory.now _ c.args.page c.args.number other c.args.entry.now c.whole.ensures c.requires.page_below c.requires.number_below c.entry_words.ensures.fits apart
    (c.write_slot.ensures ∙ ap (λ (new : List ℕ). page_set c.args.memory.now c.args.page (with_slot (page_at c.args.memory.now c.args.page) c.args.number new)) c.entry_words.ensures.words)
