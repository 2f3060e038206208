use Rattle.std.proofs.Common.{◌∙◌}
use Rattle.guest_memory.proofs.PagesLaws.{room_more}
use Rattle.guest_memory.proofs.pages.make_room.Goals as goal

pub loop-i-preserved : goal.loop-i-preserved
loop-i-preserved c = record {
  same = c.make_room_at.ensures.same ∙ c.loop-i.invariant.same;
  room = room_more c.make_room_at.new.pages.entries c.args.gpn c.loop-i.i (c.make_room_at.ensures.kept c.args.gpn c.loop-i.i c.loop-i.invariant.room) c.in_ok-make_room_at.ensures.room;
}
