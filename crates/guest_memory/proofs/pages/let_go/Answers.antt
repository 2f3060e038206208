use Rattle.std.proofs.Common.{◌∙◌, ◌+◌, refl, ap}
use Rattle.std.specs.FinMap.{remove}
use Rattle.snp_model.specs.GuestMemory.{without_pages, Memory}
use Rattle.guest_memory.proofs.PagesLaws.{memory_set, without_pages_more}
use Rattle.guest_memory.proofs.pages.let_go.Goals as goal

pub loop-i-init : goal.loop-i-init
unfolding without_pages
loop-i-init c = refl

pub loop-i-preserved : goal.loop-i-preserved
loop-i-preserved c =
    let i = c.loop-i.i in
    memory_set c.loop-i.pages.entries (c.args.gpn + i) _ c.remove.new.self.entries c.remove.ensures.updates.0
    ∙ ap (λ (m : Memory). remove m (c.args.gpn + i)) c.loop-i.invariant
    ∙ without_pages_more c.args.gpn i _
