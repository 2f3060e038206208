use Rattle.std.proofs.Common.{◌∙◌, ℕ, List, ap, length, arith, length-set}
use Rattle.snp_model.specs.RegionWords.{page_at}
use Rattle.fw_reclaim.proofs.ReclaimLaws.{by_size, emptied_large, emptied_small, zeros_more}
use Rattle.fw_reclaim.proofs.reclaim.empty.Goals as goal

pub returns-in-Small : goal.returns-in-Small
returns-in-Small c =
    by_size c.args.memory.now c.page_fill.new.self c.args.slot _ c.args.size c.in-Small.is
    (emptied_small c.args.memory.now c.page_fill.new.self c.args.slot (omega (arith, c.whole.ensures.pages_count)) c.page_fill.ensures)

pub frames-preserved : goal.frames-preserved
frames-preserved c = record {
  long = ap length c.page_fill-in-frames.ensures ∙ length-set c.frames.memory c.frames.frame _ ∙ c.frames.invariant.long;
  zero = λ k below. ap (λ (pages : List (List ℕ)). page_at pages k) c.page_fill-in-frames.ensures ∙ zeros_more c.frames.memory c.frames.frame (omega (arith, c.frames.invariant.long)) c.frames.invariant.zero k below;
}

pub returns-after-frames : goal.returns-after-frames
returns-after-frames c =
    by_size c.args.memory.now c.frames.memory c.args.slot _ c.args.size c.in-Large.is
    (emptied_large c.args.memory.now c.frames.memory c.args.slot c.requires c.whole.ensures.pages_count c.frames.invariant.long (λ k below. c.frames.invariant.zero k (omega arith)))
