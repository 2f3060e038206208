use Rattle.std.proofs.Common.{sym, ap, ◌∙◌, arith}
use Rattle.snp_model.specs.Ending.{guest_line}
use Rattle.snp_model.specs.Opening.{opening_context}
use Rattle.machine_core.specs.Machine.{MachineImage, state_of}
use Rattle.machine_core.proofs.OpeningLaws.{undeclared_context}
use Rattle.machine_core.proofs.machine.Machine.guest_line.Goals as goal

pub returns-then-len-guest : goal.returns-then-len-guest
unfolding opening_context
returns-then-len-guest c =
    let inside = c.self.inside in
    ap (guest_line c.args.guest) (sym (undeclared_context inside.parts.contexts.items inside.guests c.args.guest c.self.invariant.contexts_all (omega (arith, c.if-len-guest.true, c.len.ensures))))
    ∙ ap (λ (m : MachineImage). guest_line c.args.guest ((state_of m).contents.contexts c.args.guest)) c.self.view_is
