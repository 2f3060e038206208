-- What a command of the firmware needs once its pages are locked, and its numbers: of its guest, and of the entry that it names.
use Rattle.std.proofs.Common.{◌≡◌, ℕ, ◌<◌, true, false, is_some, Option, None, Some, refl, ap, arith}
use Rattle.snp_model.specs.declared.command.Command.{Command}
use Rattle.snp_model.specs.declared.command.Command.TheVariants as commands
use Rattle.snp_model.specs.Bounds.{IsFirmwareCommand}
use Rattle.snp_model.specs.Firmware.{entry_of, guest_of}
use Rattle.snp_model.specs.FirmwareStep.{Computing, Committing, pages_phase}
use Rattle.snp_model.specs.Sealing.{Sealing}
use Rattle.snp_model.specs.State.{Computed}
use Rattle.machine_core.specs.Commits.{IsBoundedCommand}

-- a command that seals and opens nothing commits at once
pub sealing_none : (found : Option Sealing) (computed : Option Computed) → found ≡ None → Committing ≡ pages_phase None found computed
unfolding pages_phase
sealing_none None None is = refl
sealing_none None (Some made) is = refl
sealing_none (Some sealing) computed is = absurd cc

-- and one that seals or opens a page once it has made it
pub computing : (sealing : Sealing) (found : Option Sealing) (computed : Option Computed) → found ≡ Some sealing → is_some computed ≡ false → Computing sealing ≡ pages_phase None found computed
unfolding pages_phase
computing sealing None computed is none = absurd cc
computing sealing (Some own) None is none = ap Computing (let same : sealing ≡ own = cc in same)
computing sealing (Some own) (Some made) is none = absurd cc

pub committing : (sealing : Sealing) (found : Option Sealing) (computed : Option Computed) → found ≡ Some sealing → is_some computed ≡ true → Committing ≡ pages_phase None found computed
unfolding pages_phase
committing sealing None computed is some = absurd cc
committing sealing (Some own) None is some = absurd cc
committing sealing (Some own) (Some made) is some = refl

-- the numbers of a command of a scenario
some_guest : (own guest : ℕ) → 0 < own → Some own ≡ Some guest → 0 < guest
some_guest own guest some is = let same : own ≡ guest = cc in omega arith

pub bounded : (command : Command) → IsFirmwareCommand command → IsBoundedCommand command
unfolding guest_of entry_of
bounded (commands.GctxCreate g frame) is = record { guest = λ guest named. some_guest g guest is.0 named; entry = tt }
bounded (commands.Activate g asid) is = record { guest = λ guest named. some_guest g guest is.0.0 named; entry = tt }
bounded (commands.LaunchStart g) is = record { guest = λ guest named. some_guest g guest is.0 named; entry = tt }
bounded (commands.LaunchUpdate g frame page_type imi perms) is = record { guest = λ guest named. some_guest g guest is.0.0 named; entry = tt }
bounded (commands.LaunchFinish g) is = record { guest = λ guest named. some_guest g guest is.0 named; entry = tt }
bounded (commands.MdInit frame) is = record { guest = λ guest named. absurd cc; entry = tt }
bounded (commands.PageMove g source target) is = record { guest = λ guest named. some_guest g guest is.0 named; entry = tt }
bounded (commands.SwapOut g source target metadata entry) is = record { guest = λ guest named. some_guest g guest is.0.0 named; entry = is.1 }
bounded (commands.SwapIn g source target metadata entry) is = record { guest = λ guest named. some_guest g guest is.0.0 named; entry = is.1 }
bounded (commands.Reclaim frame) is = record { guest = λ guest named. absurd cc; entry = tt }
bounded (commands.MdOut g source target metadata entry) is = record { guest = λ guest named. some_guest g guest is.0.0 named; entry = is.1 }
bounded (commands.MdIn g source target metadata entry) is = record { guest = λ guest named. some_guest g guest is.0.0 named; entry = is.1 }
bounded (commands.MdRootOut g source target) is = record { guest = λ guest named. some_guest g guest is.0 named; entry = tt }
bounded (commands.MdRootIn g source target) is = record { guest = λ guest named. some_guest g guest is.0 named; entry = tt }
