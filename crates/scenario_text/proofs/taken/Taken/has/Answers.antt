use Rattle.scenario_text.proofs.PagesLaws.{by_frame, by_gpn}
use Rattle.scenario_text.proofs.taken.Taken.has.Goals as goal

pub returns-then-has_frames : goal.returns-then-has_frames
returns-then-has_frames c =
    λ pages known. by_frame c.args.self.now c.args.page.now pages _ _ known c.frames-count.ensures.frames c.has_frames.ensures c.if-has_frames.true

pub returns-else-has_frames : goal.returns-else-has_frames
returns-else-has_frames c =
    λ pages known. by_gpn c.args.self.now c.args.page.now pages _ _ _ known c.frames-count.ensures.frames c.has_frames.ensures c.if-has_frames.false c.has_gpns.ensures
