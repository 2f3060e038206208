use Rattle.aes_block.proofs.ScheduleLaws.{key_mask_at_0, key_mask_at_4}
use Rattle.aes_block.proofs.schedule.key_mask.Goals as goal

pub returns-then-i-eq0 : goal.returns-then-i-eq0
returns-then-i-eq0 c =
    key_mask_at_0 c.args.i c.args.previous _ _ _ c.if-i-eq0.true c.to_be_bytes.ensures c.substituted_column.ensures c.word_of.ensures

pub returns-then-i-eq4 : goal.returns-then-i-eq4
returns-then-i-eq4 c =
    key_mask_at_4 c.args.i c.args.previous _ _ c.if-i-eq4.true c.to_be_bytes.ensures c.substituted_column-then-i-eq4.ensures
