-- The commands of the firmware: the guest and the pages of each, in the order of their locks, and the statuses (after the SEV-SNP firmware ABI 56860, chapters 6 and 8).
use Rattle.std.specs.Prelude.{ℕ, ◌==◌, Bool, false, ◌||◌, List, [], ◌∷◌, Option, Some, None}
use Rattle.snp_model.specs.declared.command.Command.{Command}
use Rattle.snp_model.specs.declared.command.Command.TheVariants as commands
use Rattle.snp_model.specs.declared.firmware.Part.{Part}
use Rattle.snp_model.specs.declared.firmware.Part.TheVariants.{Source, Target, Metadata}

-- statuses (after the SEV-SNP firmware ABI 56860, 6)
abbrev pub success : ℕ
success = 0

abbrev pub invalid_guest_state : ℕ
invalid_guest_state = 0x02

abbrev pub invalid_address : ℕ
invalid_address = 0x09

abbrev pub asid_owned : ℕ
asid_owned = 0x0c

abbrev pub invalid_param : ℕ
invalid_param = 0x16

abbrev pub invalid_page_size : ℕ
invalid_page_size = 0x19

abbrev pub invalid_page_state : ℕ
invalid_page_state = 0x1a

abbrev pub invalid_mdata_entry : ℕ
invalid_mdata_entry = 0x1b

abbrev pub invalid_page_owner : ℕ
invalid_page_owner = 0x1c

abbrev pub aead_oflow : ℕ
aead_oflow = 0x1d

-- the guest that a command names, whose context it locks first
unfoldable pub guest_of : Command → Option ℕ
guest_of (commands.GctxCreate guest frame) = Some guest
guest_of (commands.Activate guest asid) = Some guest
guest_of (commands.LaunchStart guest) = Some guest
guest_of (commands.LaunchUpdate guest frame page_type imi perms) = Some guest
guest_of (commands.LaunchFinish guest) = Some guest
guest_of (commands.MdInit frame) = None
guest_of (commands.PageMove guest source target) = Some guest
guest_of (commands.SwapOut guest source target metadata entry) = Some guest
guest_of (commands.SwapIn guest source target metadata entry) = Some guest
guest_of (commands.Reclaim frame) = None
guest_of (commands.MdOut guest source target metadata entry) = Some guest
guest_of (commands.MdIn guest source target metadata entry) = Some guest
guest_of (commands.MdRootOut guest source target) = Some guest
guest_of (commands.MdRootIn guest source target) = Some guest

-- a page of a command: which part of it, and the frame that it names
pub record CommandPage : Type 0 where
  pub part : Part
  pub frame : ℕ

-- the one page of a command
abbrev pub one_page : ℕ → List CommandPage
one_page target = record { part = Target; frame = target } ∷ []

-- the source and the target of a command
abbrev pub two_pages : ℕ → ℕ → List CommandPage
two_pages source target = record { part = Source; frame = source } ∷ record { part = Target; frame = target } ∷ []

-- the source, the target and the metadata page of a command
abbrev pub three_pages : ℕ → ℕ → ℕ → List CommandPage
three_pages source target metadata =
    record { part = Source; frame = source } ∷ record { part = Target; frame = target } ∷ record { part = Metadata; frame = metadata } ∷ []

-- the pages of a command, in the order of their locks
unfoldable pub pages_of : Command → List CommandPage
pages_of (commands.GctxCreate guest frame) = one_page frame
pages_of (commands.Activate guest asid) = []
pages_of (commands.LaunchStart guest) = []
pages_of (commands.LaunchUpdate guest frame page_type imi perms) = one_page frame
pages_of (commands.LaunchFinish guest) = []
pages_of (commands.MdInit frame) = one_page frame
pages_of (commands.PageMove guest source target) = two_pages source target
pages_of (commands.SwapOut guest source target metadata entry) = three_pages source target metadata
pages_of (commands.SwapIn guest source target metadata entry) = three_pages source target metadata
pages_of (commands.Reclaim frame) = one_page frame
pages_of (commands.MdOut guest source target metadata entry) = three_pages source target metadata
pages_of (commands.MdIn guest source target metadata entry) = three_pages source target metadata
pages_of (commands.MdRootOut guest source target) = two_pages source target
pages_of (commands.MdRootIn guest source target) = two_pages source target

-- whether two of three frames are equal
abbrev pub any_equal : ℕ → ℕ → ℕ → Bool
any_equal source target metadata = (source == target) || (source == metadata) || (target == metadata)

-- whether two of a command's frames are equal
unfoldable pub has_equal_frames : Command → Bool
has_equal_frames (commands.GctxCreate guest frame) = false
has_equal_frames (commands.Activate guest asid) = false
has_equal_frames (commands.LaunchStart guest) = false
has_equal_frames (commands.LaunchUpdate guest frame page_type imi perms) = false
has_equal_frames (commands.LaunchFinish guest) = false
has_equal_frames (commands.MdInit frame) = false
has_equal_frames (commands.PageMove guest source target) = source == target
has_equal_frames (commands.SwapOut guest source target metadata entry) = any_equal source target metadata
has_equal_frames (commands.SwapIn guest source target metadata entry) = any_equal source target metadata
has_equal_frames (commands.Reclaim frame) = false
has_equal_frames (commands.MdOut guest source target metadata entry) = any_equal source target metadata
has_equal_frames (commands.MdIn guest source target metadata entry) = any_equal source target metadata
has_equal_frames (commands.MdRootOut guest source target) = source == target
has_equal_frames (commands.MdRootIn guest source target) = source == target

-- the entry that a command names, of its metadata page
unfoldable pub entry_of : Command → Option ℕ
entry_of (commands.GctxCreate guest frame) = None
entry_of (commands.Activate guest asid) = None
entry_of (commands.LaunchStart guest) = None
entry_of (commands.LaunchUpdate guest frame page_type imi perms) = None
entry_of (commands.LaunchFinish guest) = None
entry_of (commands.MdInit frame) = None
entry_of (commands.PageMove guest source target) = None
entry_of (commands.SwapOut guest source target metadata entry) = Some entry
entry_of (commands.SwapIn guest source target metadata entry) = Some entry
entry_of (commands.Reclaim frame) = None
entry_of (commands.MdOut guest source target metadata entry) = Some entry
entry_of (commands.MdIn guest source target metadata entry) = Some entry
entry_of (commands.MdRootOut guest source target) = None
entry_of (commands.MdRootIn guest source target) = None
