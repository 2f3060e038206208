-- What refuses each lock of a command of the firmware: the first test that applies. Which test gives which status, in which order, is this project's own (the commands after the SEV-SNP firmware ABI 56860, chapter 8).
use Rattle.std.specs.Prelude.{ℕ, ◌+◌, ◌==◌, nat_lt, nat_le, Bool, true, false, not, ◌&&◌, ◌||◌, if◌then◌else◌, List, [], ◌∷◌, length, Option, Some, None, is_some, Result, Ok, Err}
use Rattle.snp_model.specs.declared.command.Command.{Command}
use Rattle.snp_model.specs.declared.command.Command.TheVariants as commands
use Rattle.snp_model.specs.declared.entry.RmpEntry.{RmpEntry}
use Rattle.snp_model.specs.declared.event.FwRefusal.{FwRefusal}
use Rattle.snp_model.specs.declared.event.FwRefusal.TheVariants.{Status, InUse}
use Rattle.snp_model.specs.declared.firmware.GuestState.{GuestState}
use Rattle.snp_model.specs.declared.firmware.GuestState.TheVariants.{Absent, Init, Launching, Running}
use Rattle.snp_model.specs.declared.firmware.MetaEntry.{MetaEntry}
use Rattle.snp_model.specs.declared.firmware.Part.{Part}
use Rattle.snp_model.specs.declared.firmware.Part.TheVariants.{Source, Target, Metadata}
use Rattle.snp_model.specs.declared.scenario.GuestSpec.{GuestSpec}
use Rattle.snp_model.specs.Firmware.{has_equal_frames, invalid_guest_state, invalid_address, asid_owned, invalid_param, invalid_page_size, invalid_page_state, invalid_mdata_entry, invalid_page_owner, aead_oflow}
use Rattle.snp_model.specs.Metadata.{entry_at, owned}
use Rattle.snp_model.specs.PageStates.{state_of, allowed, has_owner}
use Rattle.snp_model.specs.State.{Context}
use Rattle.snp_model.specs.Verdicts.{is_large}

-- the answer where a refusal may stand in the way
abbrev pub firmware_answer : Option FwRefusal → Result (Unit {0}) FwRefusal
firmware_answer None = Ok tt
firmware_answer (Some refusal) = Err refusal

-- the first test of a context lock: the guest is undeclared
unfoldable pub guest_refusal : List GuestSpec → ℕ → Option FwRefusal
guest_refusal guests guest = if (guest == 0) || nat_lt (length guests) guest then Some (Status invalid_param) else None

-- the first test of a page lock: the frame isn't in memory
unfoldable pub frame_refusal : ℕ → ℕ → Option FwRefusal
frame_refusal frames frame = if nat_le frames frame then Some (Status invalid_address) else None

-- a lock that an actor holds is refused; the tests after it are made where none does
abbrev pub unless_held : Option ℕ → Option FwRefusal → Option FwRefusal
unless_held (Some holder) refusal = Some (InUse holder)
unless_held None refusal = refusal

-- whether a guest has no context
abbrev pub is_absent : GuestState → Bool
is_absent Absent = true
is_absent state = false

-- whether a guest's context was made
abbrev pub is_init : GuestState → Bool
is_init Init = true
is_init state = false

-- whether a guest's launch goes on
abbrev pub is_launching : GuestState → Bool
is_launching Launching = true
is_launching state = false

-- whether a guest runs
abbrev pub is_running : GuestState → Bool
is_running Running = true
is_running state = false

-- whether a command takes a context in this state, bound to its ASID or not; two commands take none
unfoldable pub takes_context : Command → GuestState → Bool → Bool
takes_context (commands.GctxCreate guest frame) state bound = is_absent state
takes_context (commands.Activate guest asid) state bound = (is_init state || is_launching state) && not bound
takes_context (commands.LaunchStart guest) state bound = is_init state
takes_context (commands.LaunchUpdate guest frame page_type imi perms) state bound = is_launching state && bound
takes_context (commands.LaunchFinish guest) state bound = is_launching state && bound
takes_context (commands.MdInit frame) state bound = false
takes_context (commands.PageMove guest source target) state bound = is_running state
takes_context (commands.SwapOut guest source target metadata entry) state bound = is_running state
takes_context (commands.SwapIn guest source target metadata entry) state bound = is_running state
takes_context (commands.Reclaim frame) state bound = false
takes_context (commands.MdOut guest source target metadata entry) state bound = is_running state
takes_context (commands.MdIn guest source target metadata entry) state bound = is_running state
takes_context (commands.MdRootOut guest source target) state bound = is_running state
takes_context (commands.MdRootIn guest source target) state bound = is_running state

-- whether a guest other than this one, of a list whose numbers begin at `number`, has an ASID
unfoldable pub is_of_another : ℕ → List GuestSpec → ℕ → ℕ → Bool
is_of_another number [] guest asid = false
is_of_another number (spec ∷ specs) guest asid = (not (number == guest) && (spec.asid == asid)) || is_of_another (number + 1) specs guest asid

-- the ASID that a guest is to be bound to is another's, or isn't its own
unfoldable pub asid_refusal : List GuestSpec → ℕ → ℕ → Context → Option FwRefusal
asid_refusal guests guest asid context =
    if is_of_another 1 guests guest asid then Some (Status asid_owned)
    else if not (asid == context.asid) then Some (Status invalid_param)
    else None

-- a page type that isn't launched: 1 is NORMAL, 3 is ZERO, 4 is UNMEASURED
unfoldable pub type_refusal : ℕ → Option FwRefusal
type_refusal page_type = if (page_type == 1) || (page_type == 3) || (page_type == 4) then None else Some (Status invalid_param)

-- the counter of a context that can seal nothing more
abbrev pub last_counter : ℕ
last_counter = 0xffff_ffff_ffff_ffff

-- no counter is left to seal under
unfoldable pub counter_refusal : Context → Option FwRefusal
counter_refusal context = if context.iv == last_counter then Some (Status aead_oflow) else None

-- no counter is left, or the root is in use
unfoldable pub root_out_refusal : Context → Option FwRefusal
root_out_refusal context =
    if context.iv == last_counter then Some (Status aead_oflow)
    else if is_some context.root then Some (Status invalid_mdata_entry)
    else None

-- the root isn't in use
unfoldable pub root_in_refusal : Context → Option FwRefusal
root_in_refusal context = if is_some context.root then None else Some (Status invalid_mdata_entry)

-- the last test of a context lock
unfoldable pub context_extra : List GuestSpec → Command → Context → Option FwRefusal
context_extra guests (commands.GctxCreate guest frame) context = None
context_extra guests (commands.Activate guest asid) context = asid_refusal guests guest asid context
context_extra guests (commands.LaunchStart guest) context = None
context_extra guests (commands.LaunchUpdate guest frame page_type imi perms) context = type_refusal page_type
context_extra guests (commands.LaunchFinish guest) context = None
context_extra guests (commands.MdInit frame) context = None
context_extra guests (commands.PageMove guest source target) context = None
context_extra guests (commands.SwapOut guest source target metadata entry) context = counter_refusal context
context_extra guests (commands.SwapIn guest source target metadata entry) context = None
context_extra guests (commands.Reclaim frame) context = None
context_extra guests (commands.MdOut guest source target metadata entry) context = counter_refusal context
context_extra guests (commands.MdIn guest source target metadata entry) context = None
context_extra guests (commands.MdRootOut guest source target) context = root_out_refusal context
context_extra guests (commands.MdRootIn guest source target) context = root_in_refusal context

-- what refuses the lock of a declared guest's context: the first test that applies. An actor that asks for it doesn't hold it
unfoldable pub context_refusal : List GuestSpec → Command → Context → Option ℕ → Option FwRefusal
context_refusal guests command context holder =
    if has_equal_frames command then Some (Status invalid_param)
    else unless_held holder (
    if not (takes_context command context.state context.bound) then Some (Status invalid_guest_state)
    else context_extra guests command context
    )

-- whether a command acts on pages of 2 MB
abbrev pub takes_large : Command → Bool
takes_large (commands.Reclaim frame) = true
takes_large command = false

-- what refuses the lock of a page in memory, by its facts: the first test that applies. An actor that asks for it doesn't hold it; `asid` is that of the command's guest
unfoldable pub page_refusal : Command → Part → RmpEntry → Option ℕ → ℕ → Option FwRefusal
page_refusal command part facts holder asid =
    unless_held holder (
    if is_large facts.size && not (takes_large command) then Some (Status invalid_page_size)
    else if not (allowed command part (state_of facts)) then Some (Status invalid_page_state)
    else if has_owner command part && not (facts.asid == asid) then Some (Status invalid_page_owner)
    else None
    )

-- the entry that a page is to be sealed under is in use
abbrev pub out_entry_refusal : Option MetaEntry → Option FwRefusal
out_entry_refusal None = None
out_entry_refusal (Some entry) = Some (Status invalid_mdata_entry)

-- the entry that a page of a kind is to be opened with isn't in use, is of another kind, or is another guest's
unfoldable pub in_entry_refusal : ℕ → ℕ → Option MetaEntry → Option FwRefusal
in_entry_refusal kind asid None = Some (Status invalid_mdata_entry)
in_entry_refusal kind asid (Some entry) =
    if not (entry.kind == kind) then Some (Status invalid_mdata_entry)
    else if not (entry.asid == asid) then Some (Status invalid_page_owner)
    else None

-- what the entry that a command names refuses, by the words of the metadata page
unfoldable pub entry_refusal : Command → ℕ → List ℕ → Option FwRefusal
entry_refusal (commands.GctxCreate guest frame) asid words = None
entry_refusal (commands.Activate guest own) asid words = None
entry_refusal (commands.LaunchStart guest) asid words = None
entry_refusal (commands.LaunchUpdate guest frame page_type imi perms) asid words = None
entry_refusal (commands.LaunchFinish guest) asid words = None
entry_refusal (commands.MdInit frame) asid words = None
entry_refusal (commands.PageMove guest source target) asid words = None
entry_refusal (commands.SwapOut guest source target metadata entry) asid words = out_entry_refusal (entry_at words entry)
entry_refusal (commands.SwapIn guest source target metadata entry) asid words = in_entry_refusal 1 asid (entry_at words entry)
entry_refusal (commands.Reclaim frame) asid words = None
entry_refusal (commands.MdOut guest source target metadata entry) asid words = out_entry_refusal (entry_at words entry)
entry_refusal (commands.MdIn guest source target metadata entry) asid words = in_entry_refusal 2 asid (entry_at words entry)
entry_refusal (commands.MdRootOut guest source target) asid words = None
entry_refusal (commands.MdRootIn guest source target) asid words = None

-- an entry in use of a metadata page that is to be sealed is another guest's
unfoldable pub owned_refusal : ℕ → List ℕ → Option FwRefusal
owned_refusal asid words = if owned words asid then None else Some (Status invalid_page_owner)

-- what the words of a command's source refuse
unfoldable pub source_refusal : Command → ℕ → List ℕ → Option FwRefusal
source_refusal (commands.GctxCreate guest frame) asid words = None
source_refusal (commands.Activate guest own) asid words = None
source_refusal (commands.LaunchStart guest) asid words = None
source_refusal (commands.LaunchUpdate guest frame page_type imi perms) asid words = None
source_refusal (commands.LaunchFinish guest) asid words = None
source_refusal (commands.MdInit frame) asid words = None
source_refusal (commands.PageMove guest source target) asid words = None
source_refusal (commands.SwapOut guest source target metadata entry) asid words = None
source_refusal (commands.SwapIn guest source target metadata entry) asid words = None
source_refusal (commands.Reclaim frame) asid words = None
source_refusal (commands.MdOut guest source target metadata entry) asid words = owned_refusal asid words
source_refusal (commands.MdIn guest source target metadata entry) asid words = None
source_refusal (commands.MdRootOut guest source target) asid words = owned_refusal asid words
source_refusal (commands.MdRootIn guest source target) asid words = None

-- the last test of a page lock
unfoldable pub page_extra : Command → Part → ℕ → List ℕ → Option FwRefusal
page_extra command Source asid words = source_refusal command asid words
page_extra command Target asid words = None
page_extra command Metadata asid words = entry_refusal command asid words
