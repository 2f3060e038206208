-- The events of a command of the firmware: the lock of its guest's context, the locks of its pages in their order, its compute, and its commit (after the SEV-SNP firmware ABI 56860, chapter 8). The division into events is this project's own.
use Rattle.std.specs.Prelude.{ℕ, List, [], length, slice_get, slice_index_or, Option, Some, None, unwrap_or, Result, Ok, Err}
use Rattle.std.specs.Option.{option_map, option_or}
use Rattle.snp_model.specs.declared.command.Command.{Command}
use Rattle.snp_model.specs.declared.command.Command.TheVariants as commands
use Rattle.snp_model.specs.declared.entry.PageSize.TheVariants.{Small}
use Rattle.snp_model.specs.declared.event.Deed.{Deed}
use Rattle.snp_model.specs.declared.event.Deed.TheVariants as deeds
use Rattle.snp_model.specs.declared.event.FwRefusal.{FwRefusal}
use Rattle.snp_model.specs.declared.event.FwRefusal.TheVariants as refusals
use Rattle.snp_model.specs.declared.event.Outcome.{Outcome}
use Rattle.snp_model.specs.declared.event.Outcome.TheVariants as outcomes
use Rattle.snp_model.specs.declared.scenario.GuestSpec.{GuestSpec}
use Rattle.snp_model.specs.Firmware.{CommandPage, guest_of, pages_of, success}
use Rattle.snp_model.specs.FirmwareCommits.{at_frame, at_guest, context_page, launched_page, metadata_page, taken, placed, reclaimed_page, context_after, root_after, with_root}
use Rattle.snp_model.specs.FirmwareLocks.{guest_refusal, frame_refusal, context_refusal, page_refusal, page_extra}
use Rattle.snp_model.specs.Locks.{over_lock, page_lock}
use Rattle.snp_model.specs.Moves.{Move, quiet_move, lock_move}
use Rattle.snp_model.specs.Opening.{asid_of}
use Rattle.snp_model.specs.Sealing.{GuestPage, MetadataPage, OfEntry, OfRoot, Sealing, sealing_of, compute_of, pages_out, pages_in}
use Rattle.snp_model.specs.State.{Page, Pages, Context, Contexts, Contents, Computed, Standing, PageLock, ActorPart, View}

-- what an open attempt needs next
pub data Phase : Type 0 where
  TakeContext : (guest : ℕ) → Phase
  TakePage : (page : CommandPage) → Phase
  Computing : (sealing : Sealing) → Phase
  Committing : Phase

-- once the context is locked, by the next page that is still to be locked, by what is sealed or opened, and by what the compute has made
unfoldable pub pages_phase : Option CommandPage → Option Sealing → Option Computed → Phase
pages_phase (Some page) sealing computed = TakePage page
pages_phase None (Some sealing) None = Computing sealing
pages_phase None (Some sealing) (Some made) = Committing
pages_phase None None computed = Committing

-- first of all the context is locked of the guest that the command names
unfoldable pub context_phase : Option ℕ → Option ℕ → Phase → Phase
context_phase (Some guest) None later = TakeContext guest
context_phase (Some guest) (Some locked) later = later
context_phase None locked later = later

-- what an open attempt of a command needs next, by what it has taken and made
abbrev pub phase_of : Command → Standing → Phase
phase_of command standing =
    context_phase (guest_of command) standing.context_lock
    (pages_phase (slice_get (pages_of command) (length standing.locks)) (sealing_of command) standing.computed)

-- how a refusal ends the attempt
abbrev pub refused : FwRefusal → Outcome
refused (refusals.Status status) = outcomes.Firmware status
refused (refusals.InUse holder) = outcomes.FirmwareInUse holder
refused (refusals.BadTag found kept) = outcomes.BadTag found kept

-- an event that takes a context's lock, or ends the attempt with the refusal
unfoldable pub context_taken : Contents → ActorPart → ℕ → Option FwRefusal → Move
context_taken contents part guest None =
    record { deed = deeds.LockContext guest; outcome = None; contents = contents; standing = record part.standing { context_lock = Some guest } }
context_taken contents part guest (Some refusal) = quiet_move contents part (deeds.LockContext guest) (Some (refused refusal))

-- the context of the command's guest is locked, with its tests in order
unfoldable pub take_context : List GuestSpec → View → ActorPart → Command → ℕ → Move
take_context guests view part command guest =
    context_taken view.contents part guest
    (option_or (guest_refusal guests guest) (context_refusal guests command (view.contents.contexts guest) (view.context_holder guest)))

-- the ASID of the command's guest
abbrev pub command_asid : List GuestSpec → Command → ℕ
command_asid guests command = unwrap_or (option_map (asid_of guests) (guest_of command)) 0

-- what refuses the lock of a page of a command: its tests in order
unfoldable pub lock_refusal : ℕ → ℕ → Command → CommandPage → Page → Option ℕ → Option FwRefusal
lock_refusal frames asid command page found holder =
    option_or (frame_refusal frames page.frame)
    (option_or (page_refusal command page.part found.facts holder asid) (page_extra command page.part asid found.words))

-- a page of the command is locked: the page in which its frame stands
unfoldable pub take_page : ℕ → List GuestSpec → View → ActorPart → Command → CommandPage → Move
take_page frames guests view part command page =
    let found = view.contents.pages page.frame in
    lock_move view.contents part (page_lock found.facts.size page.frame)
    (option_map refused (lock_refusal frames (command_asid guests command) command page found (view.holder page.frame)))

-- an event that makes a page, or ends the attempt with the refusal
unfoldable pub computed_move : Contents → ActorPart → Result Computed FwRefusal → Move
computed_move contents part (Ok made) =
    record { deed = deeds.Compute; outcome = None; contents = contents; standing = record part.standing { computed = Some made } }
computed_move contents part (Err refusal) = quiet_move contents part deeds.Compute (Some (refused refusal))

-- nothing was made
abbrev pub nothing_made : Computed
nothing_made = record { words = []; entry = None }

-- the lock that an attempt has taken on its one page; one that has taken none stands for the page of 4 KB
abbrev pub first_lock : List PageLock → ℕ → PageLock
first_lock locks frame = slice_index_or locks 0 (page_lock Small frame)

-- page_move: the target gets the source, which is emptied
unfoldable pub pages_moved : ℕ → ℕ → Pages → Pages
pages_moved source target pages =
    at_frame target (placed (pages source).facts (pages source).words) (at_frame source (taken (pages source)) pages)

-- memory after the commit of a command that has taken these locks and made this page; a command on one page that may be of 2 MB acts on all that is locked
unfoldable pub pages_after : Command → List PageLock → Computed → Pages → Pages
pages_after (commands.GctxCreate guest frame) locks made pages = at_frame frame (context_page (pages frame)) pages
pages_after (commands.Activate guest asid) locks made pages = pages
pages_after (commands.LaunchStart guest) locks made pages = pages
pages_after (commands.LaunchUpdate guest frame page_type imi perms) locks made pages = at_frame frame (launched_page page_type perms (pages frame)) pages
pages_after (commands.LaunchFinish guest) locks made pages = pages
pages_after (commands.MdInit frame) locks made pages = at_frame frame (metadata_page (pages frame)) pages
pages_after (commands.PageMove guest source target) locks made pages = pages_moved source target pages
pages_after (commands.SwapOut guest source target metadata entry) locks made pages = pages_out GuestPage source target (OfEntry metadata entry) made pages
pages_after (commands.SwapIn guest source target metadata entry) locks made pages = pages_in GuestPage target (OfEntry metadata entry) made pages
pages_after (commands.Reclaim frame) locks made pages = over_lock (first_lock locks frame) reclaimed_page pages
pages_after (commands.MdOut guest source target metadata entry) locks made pages = pages_out MetadataPage source target (OfEntry metadata entry) made pages
pages_after (commands.MdIn guest source target metadata entry) locks made pages = pages_in MetadataPage target (OfEntry metadata entry) made pages
pages_after (commands.MdRootOut guest source target) locks made pages = pages_out MetadataPage source target OfRoot made pages
pages_after (commands.MdRootIn guest source target) locks made pages = pages_in MetadataPage target OfRoot made pages

-- the frame of a command's first page
abbrev pub first_frame : Command → ℕ
first_frame command = unwrap_or (option_map (λ page. page.frame) (slice_get (pages_of command) 0)) 0

-- the context of the command's guest after the commit, by memory after it
unfoldable pub context_committed : Command → Computed → Pages → Context → Context
context_committed command made pages context =
    let launched = pages (first_frame command) in
    with_root (root_after command made.entry context.root) (context_after command launched.facts.gpn launched.words context)

-- contexts after the commit
unfoldable pub contexts_after : Option ℕ → Command → Computed → Pages → Contexts → Contexts
contexts_after None command made pages contexts = contexts
contexts_after (Some guest) command made pages contexts = at_guest guest (context_committed command made pages (contexts guest)) contexts

-- a commit that shows a frame with its guest page number and size
abbrev pub page_shown : ℕ → Page → Deed
page_shown frame page = deeds.Commit frame page.facts.gpn page.facts.size

-- a commit that shows a frame of 4 KB with a guest page number
abbrev pub small_shown : ℕ → ℕ → Deed
small_shown frame gpn = deeds.Commit frame gpn Small

-- what the commit of a command shows, by memory before and after it
unfoldable pub commit_deed : Command → Pages → Pages → Deed
commit_deed (commands.GctxCreate guest frame) before left = page_shown frame (before frame)
commit_deed (commands.Activate guest asid) before left = deeds.CommitContext guest
commit_deed (commands.LaunchStart guest) before left = deeds.CommitContext guest
commit_deed (commands.LaunchUpdate guest frame page_type imi perms) before left = page_shown frame (before frame)
commit_deed (commands.LaunchFinish guest) before left = deeds.CommitContext guest
commit_deed (commands.MdInit frame) before left = page_shown frame (before frame)
commit_deed (commands.PageMove guest source target) before left = small_shown target (left target).facts.gpn
commit_deed (commands.SwapOut guest source target metadata entry) before left = small_shown source (before source).facts.gpn
commit_deed (commands.SwapIn guest source target metadata entry) before left = small_shown target (left target).facts.gpn
commit_deed (commands.Reclaim frame) before left = page_shown frame (before frame)
commit_deed (commands.MdOut guest source target metadata entry) before left = small_shown source 0
commit_deed (commands.MdIn guest source target metadata entry) before left = small_shown target 0
commit_deed (commands.MdRootOut guest source target) before left = small_shown source 0
commit_deed (commands.MdRootIn guest source target) before left = small_shown target 0

-- the commit, with status 0
unfoldable pub commit_move : Contents → ActorPart → Command → Move
commit_move contents part command =
    let made = unwrap_or part.standing.computed nothing_made in
    let pages = pages_after command part.standing.locks made contents.pages in
    record {
      deed = commit_deed command contents.pages pages;
      outcome = Some (outcomes.Firmware success);
      contents = record { pages = pages; contexts = contexts_after (guest_of command) command made pages contents.contexts };
      standing = part.standing;
    }

-- the next event of a command, by what its attempt needs
unfoldable pub phase_move : ℕ → List GuestSpec → View → ActorPart → Command → Phase → Move
phase_move frames guests view part command (TakeContext guest) = take_context guests view part command guest
phase_move frames guests view part command (TakePage page) = take_page frames guests view part command page
phase_move frames guests view part command (Computing sealing) = computed_move view.contents part (compute_of view.contents sealing)
phase_move frames guests view part command Committing = commit_move view.contents part command

-- the next event of a command
abbrev pub firmware_move : ℕ → List GuestSpec → View → ActorPart → Command → Move
firmware_move frames guests view part command = phase_move frames guests view part command (phase_of command part.standing)
