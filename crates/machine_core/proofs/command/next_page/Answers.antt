use Rattle.std.proofs.Common.{◌≡◌, Option, length, None, slice_get, sym, ap, ◌∙◌}
use Rattle.std.specs.Option.{option_map}
use Rattle.snp_model.specs.Firmware.{CommandPage, pages_of}
use Rattle.snp_model.specs.FirmwareStep.{pages_phase}
use Rattle.snp_model.specs.Sealing.{sealing_of}
use Rattle.machine_core.specs.declared.command.NamedPage.{NamedPage}
use Rattle.machine_core.specs.Commands.{command_page}
use Rattle.machine_core.proofs.command.next_page.Goals as goal

pub returns-in-None-clause-phase : goal.returns-in-None-clause-phase
returns-in-None-clause-phase c =
    let pages = pages_of c.args.command.now in
    let none : slice_get pages (length c.args.actor.now.standing.locks) ≡ None = ap (slice_get pages) (sym c.locks_taken.ensures) ∙ sym c.page_at.ensures ∙ ap (λ (page : Option NamedPage). option_map command_page page) c.in-None.is in
    c.once_locked.ensures.phase ∙ ap (λ (page : Option CommandPage). pages_phase page (sealing_of c.args.command.now) c.args.actor.now.standing.computed) (sym none)
