-- The states of a page, and which of them each command of the firmware takes its pages in (after the SEV-SNP firmware ABI 56860, 5.2 and chapter 8; which states each command asks is this project's own).
use Rattle.std.specs.Prelude.{◌==◌, Bool, true, false, not, ◌||◌, if◌then◌else◌}
use Rattle.snp_model.specs.declared.command.Command.{Command}
use Rattle.snp_model.specs.declared.command.Command.TheVariants as commands
use Rattle.snp_model.specs.declared.entry.Kind.{Kind}
use Rattle.snp_model.specs.declared.entry.Kind.TheVariants as kinds
use Rattle.snp_model.specs.declared.entry.RmpEntry.{RmpEntry}
use Rattle.snp_model.specs.declared.firmware.PageState.{PageState}
use Rattle.snp_model.specs.declared.firmware.PageState.TheVariants as states
use Rattle.snp_model.specs.declared.firmware.Part.{Part}
use Rattle.snp_model.specs.declared.firmware.Part.TheVariants.{Source, Target, Metadata}

-- the state of an assigned page that no guest owns and that is immutable, by its kind
abbrev pub firmware_state : Kind → PageState
firmware_state kinds.Plain = states.Firmware
firmware_state kinds.Firmware = states.Firmware
firmware_state kinds.Context = states.Context
firmware_state kinds.Metadata = states.Metadata

-- the state of a page with these facts: one case a row of the table in docs/MODEL.md, the first that applies
unfoldable pub state_of : RmpEntry → PageState
state_of facts =
    if not facts.assigned then states.Hypervisor
    else if facts.asid == 0 then (if facts.immutable then firmware_state facts.kind else states.Reclaim)
    else if facts.immutable then (if facts.validated then states.PreSwap else states.PreGuest)
    else (if facts.validated then states.GuestValid else states.GuestInvalid)

-- whether a state is Hypervisor
abbrev pub is_hypervisor : PageState → Bool
is_hypervisor states.Hypervisor = true
is_hypervisor state = false

-- whether a state is Pre-Guest
abbrev pub is_pre_guest : PageState → Bool
is_pre_guest states.PreGuest = true
is_pre_guest state = false

-- whether a state is Pre-Swap
abbrev pub is_pre_swap : PageState → Bool
is_pre_swap states.PreSwap = true
is_pre_swap state = false

-- whether a state is Firmware
abbrev pub is_firmware : PageState → Bool
is_firmware states.Firmware = true
is_firmware state = false

-- whether a state is Metadata
abbrev pub is_metadata : PageState → Bool
is_metadata states.Metadata = true
is_metadata state = false

-- what a command asks of the states of its one page, which is its target
abbrev pub target_alone : Part → Bool → Bool
target_alone Source target = false
target_alone Target target = target
target_alone Metadata target = false

-- what a command asks of the states of its source and its target
abbrev pub of_two : Part → Bool → Bool → Bool
of_two Source source target = source
of_two Target source target = target
of_two Metadata source target = false

-- what a command asks of the states of its three pages
abbrev pub of_three : Part → Bool → Bool → Bool → Bool
of_three Source source target metadata = source
of_three Target source target metadata = target
of_three Metadata source target metadata = metadata

-- whether a command takes a page in a state as this part of it; never where it has no such part
unfoldable pub allowed : Command → Part → PageState → Bool
allowed (commands.GctxCreate guest frame) part state = target_alone part (is_firmware state)
allowed (commands.Activate guest asid) part state = false
allowed (commands.LaunchStart guest) part state = false
allowed (commands.LaunchUpdate guest frame page_type imi perms) part state = target_alone part (is_pre_guest state)
allowed (commands.LaunchFinish guest) part state = false
allowed (commands.MdInit frame) part state = target_alone part (is_firmware state)
allowed (commands.PageMove guest source target) part state = of_two part (is_pre_swap state) (is_pre_guest state)
allowed (commands.SwapOut guest source target metadata entry) part state =
    of_three part (is_pre_swap state || is_pre_guest state) (is_hypervisor state) (is_metadata state)
allowed (commands.SwapIn guest source target metadata entry) part state =
    of_three part (is_hypervisor state) (is_pre_guest state) (is_metadata state)
allowed (commands.Reclaim frame) part state =
    target_alone part (is_firmware state || is_metadata state || is_pre_guest state || is_pre_swap state)
allowed (commands.MdOut guest source target metadata entry) part state =
    of_three part (is_metadata state) (is_hypervisor state) (is_metadata state)
allowed (commands.MdIn guest source target metadata entry) part state =
    of_three part (is_hypervisor state) (is_firmware state) (is_metadata state)
allowed (commands.MdRootOut guest source target) part state = of_two part (is_metadata state) (is_hypervisor state)
allowed (commands.MdRootIn guest source target) part state = of_two part (is_hypervisor state) (is_firmware state)

-- whether a command asks that the guest owns this part of it
unfoldable pub has_owner : Command → Part → Bool
has_owner (commands.GctxCreate guest frame) part = false
has_owner (commands.Activate guest asid) part = false
has_owner (commands.LaunchStart guest) part = false
has_owner (commands.LaunchUpdate guest frame page_type imi perms) part = target_alone part true
has_owner (commands.LaunchFinish guest) part = false
has_owner (commands.MdInit frame) part = false
has_owner (commands.PageMove guest source target) part = of_two part true true
has_owner (commands.SwapOut guest source target metadata entry) part = of_three part true false false
has_owner (commands.SwapIn guest source target metadata entry) part = of_three part false true false
has_owner (commands.Reclaim frame) part = false
has_owner (commands.MdOut guest source target metadata entry) part = false
has_owner (commands.MdIn guest source target metadata entry) part = false
has_owner (commands.MdRootOut guest source target) part = false
has_owner (commands.MdRootIn guest source target) part = false
