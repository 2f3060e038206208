use Rattle.std.proofs.Common.{sym, ◌∙◌, arith}
use Rattle.scenario_text.specs.Pages.{frame_taken}
use Rattle.scenario_text.proofs.PagesLaws.{some_in, none_in}
use Rattle.scenario_text.proofs.taken.Taken.has_frames.Goals as goal

pub returns-then-has_frame : goal.returns-then-has_frame
returns-then-has_frame c =
    some_in (frame_taken c.args.self.now) c.args.base c.args.count c.loop-frame.frame (omega arith) (omega arith) (sym c.has_frame.ensures ∙ c.if-has_frame.true)

pub returns : goal.returns
returns c =
    none_in (frame_taken c.args.self.now) c.args.base c.args.count (λ n low high. c.loop-frame.invariant n low (omega arith))
