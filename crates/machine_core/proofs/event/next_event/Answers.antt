use Rattle.std.proofs.Common.{sym, ◌∙◌}
use Rattle.snp_model.specs.Step.{item_move}
use Rattle.machine_core.specs.Bays.{view_on}
use Rattle.machine_core.proofs.HeldLaws.{moves_alike, page_alone_made, page_taken_some}
use Rattle.machine_core.proofs.event.next_event.Goals as goal

pub returns-in-Cpu-clause-moves : goal.returns-in-Cpu-clause-moves
returns-in-Cpu-clause-moves g c =
    let role = sym c.role.ensures ∙ c.in-Cpu.is in
    (λ i. item_move c.args.frames c.args.guests.now (view_on (g.P.Parts.stock c.args.parts.now) c.args.guests.now) c.args.actor.now (role i) (sym c.item-item.ensures i))
    ∙ c.cpu_event.ensures.moves
    ∙ moves_alike c.args.page.now c.cpu_event.new.shown (view_on (g.P.Parts.stock c.cpu_event.new.parts) c.args.guests.now) c.args.actor.now.standing (page_alone_made c.cpu_event.new.shown.lock c.cpu_event.ensures.page_alone)

pub returns-in-Cpu-clause-room : goal.returns-in-Cpu-clause-room
returns-in-Cpu-clause-room g c = λ takes. c.cpu_event.ensures.room (page_taken_some c.cpu_event.new.shown.lock takes)

pub returns-in-Host-clause-moves : goal.returns-in-Host-clause-moves
returns-in-Host-clause-moves g c =
    let role = sym c.role.ensures ∙ c.in-Host.is in
    (λ i. item_move c.args.frames c.args.guests.now (view_on (g.P.Parts.stock c.args.parts.now) c.args.guests.now) c.args.actor.now (role i) (sym c.item-item.ensures i))
    ∙ c.host_event.ensures.moves
    ∙ moves_alike c.args.page.now c.host_event.new.shown (view_on (g.P.Parts.stock c.host_event.new.parts) c.args.guests.now) c.args.actor.now.standing (page_alone_made c.host_event.new.shown.lock c.host_event.ensures.page_alone)

pub returns-in-Host-clause-room : goal.returns-in-Host-clause-room
returns-in-Host-clause-room g c = λ takes. c.host_event.ensures.room (page_taken_some c.host_event.new.shown.lock takes)
