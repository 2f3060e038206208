use Rattle.std.proofs.Common.{◌∙◌, ap}
use Rattle.machine_core.specs.Bays.{pages_of}
use Rattle.machine_core.specs.CommandPages.{released_in}
use Rattle.machine_core.proofs.PageMoveLaws.{both_released, move_pages, move_shown, still_small}
use Rattle.machine_core.proofs.page_move.commit_move.Goals as goal

pub put_in-requires-clause-small : goal.put_in-requires-clause-small
put_in-requires-clause-small g c =
    still_small c.args.source c.args.target (pages_of (g.P.Parts.stock c.args.parts.now).bays) _ c.requires.source_tested.small c.requires.target_tested.small c.take_out-moved.ensures.pages

pub returns-clause-shown : goal.returns-clause-shown
returns-clause-shown g c =
    move_shown c.args.target (pages_of (g.P.Parts.stock c.take_out-moved.new.parts).bays) (pages_of (g.P.Parts.stock c.put_in.new.parts).bays) _ c.take_out-moved.result c.take_out-moved.new.words c.last.result c.put_in.ensures.pages
    (c.release-2.ensures.pages ∙ c.release.ensures.pages) c.last.ensures

pub returns-clause-pages : goal.returns-clause-pages
returns-clause-pages g c =
    (c.release-2.ensures.pages ∙ c.release.ensures.pages)
    ∙ move_pages c.args.source c.args.target (pages_of (g.P.Parts.stock c.args.parts.now).bays) (pages_of (g.P.Parts.stock c.take_out-moved.new.parts).bays) _ c.take_out-moved.result c.take_out-moved.new.words c.take_out-moved.ensures.entry
    c.take_out-moved.ensures.words c.take_out-moved.ensures.pages c.put_in.ensures.pages

pub returns-clause-locks : goal.returns-clause-locks
returns-clause-locks g c =
    c.release-2.ensures.locks
    ∙ ap (released_in _ c.args.number) (c.release.ensures.locks ∙ ap (released_in _ c.args.number) (c.put_in.ensures.locks ∙ c.take_out-moved.ensures.locks))
    ∙ both_released c.args.number c.args.source c.args.target (g.P.Parts.stock c.args.parts.now) c.requires.holds
