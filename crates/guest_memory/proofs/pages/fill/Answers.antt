use Rattle.std.proofs.Common.{rules, ◌∙◌, ◌≡◌, ◌+◌, ◌-◌, ℕ, suc, replicate, refl, ap, arith}
use Rattle.std.specs.FinMap.{insert}
use Rattle.snp_model.specs.GuestMemory.{Places, Memory, with_pages, unknown_places}
use Rattle.guest_memory.proofs.PagesLaws.{popped, same_page, some_page, memory_set, room_set, with_pages_more}
use Rattle.guest_memory.proofs.pages.fill.Goals as goal
use Rattle.guest_memory.proofs.pages.fill.Goals.{in-Some, in_default}

pub loop-i-init : goal.loop-i-init
unfolding with_pages
loop-i-init c = record { fresh = c.requires.unknown ∙ ap (λ (n : ℕ). replicate n unknown_places) (omega arith); room = c.requires.room; filled = refl }

pub loop-i-preserved : goal.loop-i-preserved
loop-i-preserved c =
    let i = c.loop-i.i in
    let left = c.args.count - (i + 1) in
    let before = c.loop-i.invariant in
    let below = c.loop-i-test.true in
    let more : c.args.count - i ≡ suc left = omega arith in
    let items = before.fresh ∙ ap (λ (n : ℕ). replicate n unknown_places) more in
    let last = popped left unknown_places c.loop-i.fresh.items c.pop.new.self.items c.pop.result c.loop-i.fresh.len (search rules) items c.pop.ensures.value c.pop.ensures.rest in
    elim c.match-pop.branch [
      | in-Some w ↦ rw (w.pages-is) (record {
        fresh = last.rest_are;
        room = room_set c.loop-i.pages.entries (c.args.gpn + i) _ w.put.new.pages.entries c.args.gpn c.args.count w.put.ensures.0 before.room;
        filled =
            memory_set c.loop-i.pages.entries (c.args.gpn + i) _ w.put.new.pages.entries w.put.ensures.0
            ∙ ap (λ (memory : Memory). insert memory (c.args.gpn + i) w.in-Some.page) before.filled
            ∙ ap (λ (page : Places). insert (with_pages c.args.gpn i unknown_places _) (c.args.gpn + i) page) (same_page c.pop.result w.in-Some.page unknown_places w.in-Some.is last.last_is)
            ∙ with_pages_more c.args.gpn i unknown_places _;
      })
      | in_default w ↦ absurd (some_page c.pop.result unknown_places w.in_default.is last.last_is)
    ]
