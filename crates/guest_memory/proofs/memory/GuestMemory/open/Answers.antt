use Rattle.std.proofs.Common.{refl, ap, ◌+◌, ℕ}
use Rattle.snp_model.specs.GuestMemory.{with_frames}
use Rattle.guest_memory.proofs.OpeningLaws.{opened_more}
use Rattle.guest_memory.proofs.memory.GuestMemory.open.Goals as goal

pub loop-i-init : goal.loop-i-init
unfolding with_frames
loop-i-init c = refl

pub loop-i-preserved : goal.loop-i-preserved
loop-i-preserved c =
    let page = c.args.page.now in
    opened_more _ page.frame page.gpn c.loop-i.i _ _ _ c.loop-i.self _ (ap (λ (n : ℕ). page.gpn + n) c.from.ensures) c.opening_words-content.ensures c.loop-i.invariant c.in_ok-launch.ensures.ok
