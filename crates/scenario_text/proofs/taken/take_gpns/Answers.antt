use Rattle.std.proofs.Common.{arith}
use Rattle.scenario_text.proofs.PagesLaws.{one_more}
use Rattle.scenario_text.proofs.taken.take_gpns.Goals as goal

pub loop-gpn-preserved : goal.loop-gpn-preserved
loop-gpn-preserved c =
    λ q. one_more c.args.guest c.args.base c.loop-gpn.gpn q _ _ _ (omega arith) (c.in_ok-insert.ensures.updates.0 q) (c.loop-gpn.invariant q)
