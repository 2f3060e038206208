use Rattle.std.proofs.Common.{[]}
use Rattle.std.proofs.lemmas.List.{get_or_read}
use Rattle.phys_memory.proofs.PageLaws.{word_written}
use Rattle.phys_memory.proofs.region.set_word.Goals as goal

pub returns-clause-set : goal.returns-clause-set
returns-clause-set c =
    (word_written c.args.pages.now.items c.args.pages.now.cap c.args.page c.args.index c.args.value _ c.requires.pages c.requires.below
    (get_or_read c.args.pages.now.items c.args.page _ c.requires.below c.index_mut.ensures.value [])).0

pub returns-clause-pages : goal.returns-clause-pages
returns-clause-pages c =
    (word_written c.args.pages.now.items c.args.pages.now.cap c.args.page c.args.index c.args.value _ c.requires.pages c.requires.below
    (get_or_read c.args.pages.now.items c.args.page _ c.requires.below c.index_mut.ensures.value [])).1
