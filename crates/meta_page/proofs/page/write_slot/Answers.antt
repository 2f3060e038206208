use Rattle.meta_page.proofs.SlotLaws.{region_none}
use Rattle.meta_page.proofs.page.write_slot.Goals as goal

pub loop-i-init : goal.loop-i-init
loop-i-init c = record { whole = c.whole.ensures; written = region_none c.args.memory.now c.args.page c.args.number c.args.words.now }
