use Rattle.std.proofs.Common.{◌∙◌, sym, ap, refl, Option, Some}
use Rattle.snp_model.specs.GuestMemory.{Places}
use Rattle.guest_memory.proofs.PagesLaws.{memory_known, memory_unheld}
use Rattle.guest_memory.proofs.pages.learn.Goals as goal

pub returns-in-Some-room : goal.returns-in-Some-room
returns-in-Some-room c =
    let found = sym c.in-Some.ensures.value ∙ ap (λ (page : Option Places). Some page) c.in-Some-room.is in
    let written = ap (λ (places : Places). Some (Some places)) c.set.ensures in
    memory_known c.args.pages.now.entries c.args.gpn c.args.index c.args.word _ _ _ found written ((c.get_mut.follows.holds (Some c.set.new.self)).3 (rw found refl)).0

pub returns-in_default-room : goal.returns-in_default-room
returns-in_default-room c =
    let found = sym c.in-Some.ensures.value ∙ ap (λ (page : Option Places). Some page) c.in_default-room.is in
    let written = ap (λ (page : Option Places). Some page) c.in_default-room.is in
    memory_known c.args.pages.now.entries c.args.gpn c.args.index c.args.word _ _ _ found written ((c.get_mut.follows.holds c.in-Some.room.now).3 (rw found refl)).0

pub returns-in_default : goal.returns-in_default
returns-in_default c = rw (c.get_mut.follows.holds-at-none) (memory_unheld c.args.pages.now.entries c.args.gpn c.args.index c.args.word (sym c.in_default.ensures.value))
