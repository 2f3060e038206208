use Rattle.std.proofs.Common.{sym, ◌∙◌}
use Rattle.machine_core.proofs.firmware.command_asid.Goals as goal

pub asid_of-requires : goal.asid_of-requires
asid_of-requires c = c.requires.guest c.in-Some.guest (sym c.guest_of.ensures ∙ c.in-Some.is)
