-- The numbers in the events of commands of the firmware fit their types.
use Rattle.std.proofs.Common.{◌≡◌, ℕ, zero, suc, ◌^◌, ◌<◌, ◌≤◌, Bool, true, false, cond, eqb, nat_lt, nat_le, not, ◌&&◌, ◌||◌, List, [], ◌∷◌, length, Option, Some, None, slice_get, is_some, Result, Ok, Err, bytes_eq, refl, sym, subst, ◌∙◌, arith}
use Rattle.std.specs.List.{AllByRecursion}
use Rattle.std.specs.Option.{option_map, option_or}
use Rattle.std.proofs.lemmas.Bool.{cond_both}
use Rattle.snp_model.specs.declared.command.Command.{Command}
use Rattle.snp_model.specs.declared.command.Command.TheVariants as commands
use Rattle.snp_model.specs.declared.entry.RmpEntry.{RmpEntry}
use Rattle.snp_model.specs.declared.event.FwRefusal.{FwRefusal}
use Rattle.snp_model.specs.declared.event.FwRefusal.TheVariants as refusals
use Rattle.snp_model.specs.declared.firmware.MetaEntry.{MetaEntry}
use Rattle.snp_model.specs.declared.firmware.Part.{Part}
use Rattle.snp_model.specs.declared.firmware.Part.TheVariants.{Source, Target, Metadata}
use Rattle.snp_model.specs.declared.scenario.GuestSpec.{GuestSpec}
use Rattle.snp_model.specs.Bounds.{IsFirmwareCommand}
use Rattle.snp_model.specs.Firmware.{CommandPage, guest_of, pages_of, has_equal_frames}
use Rattle.snp_model.specs.FirmwareLocks.{guest_refusal, frame_refusal, unless_held, takes_context, is_of_another, asid_refusal, type_refusal, last_counter, counter_refusal, root_out_refusal, root_in_refusal, context_extra, context_refusal, takes_large, page_refusal, out_entry_refusal, in_entry_refusal, entry_refusal, owned_refusal, source_refusal, page_extra}
use Rattle.snp_model.specs.FirmwareStep.{Phase, context_phase, pages_phase, refused, context_taken, take_context, command_asid, lock_refusal, take_page, computed_move, commit_deed, commit_move, phase_move, firmware_move}
use Rattle.snp_model.specs.Locks.{page_lock}
use Rattle.snp_model.specs.Metadata.{AreBytes, IsMetaEntry, entry_at, found_tag, opened, owned}
use Rattle.snp_model.specs.Moves.{Move, lock_move}
use Rattle.snp_model.specs.PageStates.{state_of, allowed, has_owner}
use Rattle.snp_model.specs.Sealing.{What, Slot, Sealing, SealOut, SealIn, sealing_of, slot_entry, opens_as, opened_with, opened_as, compute_of}
use Rattle.snp_model.specs.Spelled.{IsWideCommand}
use Rattle.snp_model.specs.State.{Context, Contents, Computed, ActorPart, PageLock, Pages, View}
use Rattle.snp_model.specs.Verdicts.{is_large}
use Rattle.run_laws.specs.HeldLocks.{AreCommandLocks}
use Rattle.run_laws.specs.OpenAttempts.{AreLocksOf}
use Rattle.run_laws.proofs.CommandStages.{IsCommitting, HasMade, all_locked}
use Rattle.run_laws.proofs.TagLaws.{length-tag, tag_bytes}
use Rattle.report_text.specs.EventNumbers.{IsDeed, IsTag}
use Rattle.audit_laws.proofs.CpuFits.{EndingFits, LooksAt}
use Rattle.audit_laws.proofs.HostFits.{IsFitMove}

-- how a refusal ends
abbrev pub FwFits : Option FwRefusal → Type 0
FwFits refusal = EndingFits (option_map refused refusal)

either_fits : (one other : Option FwRefusal) → FwFits one → FwFits other → FwFits (option_or one other)
either_fits None other first second = second
either_fits (Some refusal) other first second = first

held_fits : (holder : Option ℕ) (later : Option FwRefusal) → ((h : ℕ) → holder ≡ Some h → h < 2 ^ 32) → FwFits later → FwFits (unless_held holder later)
held_fits None later small fits = fits
held_fits (Some h) later small fits = small h refl

-- one test, whose refusal is a status
test_fits : (test : Bool) (status : ℕ) (later : Option FwRefusal) → status < 2 ^ 16 → FwFits later → FwFits (cond test (Some (refusals.Status status)) later)
test_fits true status later small fits = small
test_fits false status later small fits = fits

-- tests of a context
guest_fits : (guests : List GuestSpec) (guest : ℕ) → FwFits (guest_refusal guests guest)
unfolding guest_refusal
guest_fits guests guest = test_fits (eqb guest 0 || nat_lt (length guests) guest) _ None (omega arith) tt

asid_fits : (guests : List GuestSpec) (guest asid : ℕ) (context : Context) → FwFits (asid_refusal guests guest asid context)
unfolding asid_refusal
asid_fits guests guest asid context = test_fits (is_of_another 1 guests guest asid) _ _ (omega arith) (test_fits (not (eqb asid context.asid)) _ None (omega arith) tt)

type_fits : (page_type : ℕ) → FwFits (type_refusal page_type)
unfolding type_refusal
type_fits page_type = cond_both (eqb page_type 1 || eqb page_type 3 || eqb page_type 4) _ _ FwFits (λ _. tt) (λ _. omega arith)

counter_fits : (context : Context) → FwFits (counter_refusal context)
unfolding counter_refusal
counter_fits context = test_fits (eqb context.iv last_counter) _ None (omega arith) tt

root_out_fits : (context : Context) → FwFits (root_out_refusal context)
unfolding root_out_refusal
root_out_fits context = test_fits (eqb context.iv last_counter) _ _ (omega arith) (test_fits (is_some context.root) _ None (omega arith) tt)

root_in_fits : (context : Context) → FwFits (root_in_refusal context)
unfolding root_in_refusal
root_in_fits context = cond_both (is_some context.root) _ _ FwFits (λ _. tt) (λ _. omega arith)

extra_fits : (guests : List GuestSpec) (command : Command) (context : Context) → FwFits (context_extra guests command context)
unfolding context_extra
extra_fits guests (commands.GctxCreate guest frame) context = tt
extra_fits guests (commands.Activate guest asid) context = asid_fits guests guest asid context
extra_fits guests (commands.LaunchStart guest) context = tt
extra_fits guests (commands.LaunchUpdate guest frame page_type imi perms) context = type_fits page_type
extra_fits guests (commands.LaunchFinish guest) context = tt
extra_fits guests (commands.MdInit frame) context = tt
extra_fits guests (commands.PageMove guest source target) context = tt
extra_fits guests (commands.SwapOut guest source target metadata entry) context = counter_fits context
extra_fits guests (commands.SwapIn guest source target metadata entry) context = tt
extra_fits guests (commands.Reclaim frame) context = tt
extra_fits guests (commands.MdOut guest source target metadata entry) context = counter_fits context
extra_fits guests (commands.MdIn guest source target metadata entry) context = tt
extra_fits guests (commands.MdRootOut guest source target) context = root_out_fits context
extra_fits guests (commands.MdRootIn guest source target) context = root_in_fits context

context_fits : (guests : List GuestSpec) (command : Command) (context : Context) (holder : Option ℕ) → ((h : ℕ) → holder ≡ Some h → h < 2 ^ 32) → FwFits (context_refusal guests command context holder)
unfolding context_refusal
context_fits guests command context holder small =
    test_fits (has_equal_frames command) _ _ (omega arith)
    (held_fits holder _ small (test_fits (not (takes_context command context.state context.bound)) _ _ (omega arith) (extra_fits guests command context)))

-- tests of a page
frame_fits : (frames frame : ℕ) → FwFits (frame_refusal frames frame)
unfolding frame_refusal
frame_fits frames frame = test_fits (nat_le frames frame) _ None (omega arith) tt

page_fits : (command : Command) (part : Part) (facts : RmpEntry) (holder : Option ℕ) (asid : ℕ) → ((h : ℕ) → holder ≡ Some h → h < 2 ^ 32) → FwFits (page_refusal command part facts holder asid)
unfolding page_refusal
page_fits command part facts holder asid small =
    held_fits holder _ small
    (test_fits (is_large facts.size && not (takes_large command)) _ _ (omega arith)
    (test_fits (not (allowed command part (state_of facts))) _ _ (omega arith)
    (test_fits (has_owner command part && not (eqb facts.asid asid)) _ None (omega arith) tt)))

out_entry_fits : (entry : Option MetaEntry) → FwFits (out_entry_refusal entry)
out_entry_fits None = tt
out_entry_fits (Some entry) = omega arith

in_entry_fits : (kind asid : ℕ) (entry : Option MetaEntry) → FwFits (in_entry_refusal kind asid entry)
unfolding in_entry_refusal
in_entry_fits kind asid None = omega arith
in_entry_fits kind asid (Some entry) = test_fits (not (eqb entry.kind kind)) _ _ (omega arith) (test_fits (not (eqb entry.asid asid)) _ None (omega arith) tt)

entry_tests_fit : (command : Command) (asid : ℕ) (words : List ℕ) → FwFits (entry_refusal command asid words)
unfolding entry_refusal
entry_tests_fit (commands.GctxCreate guest frame) asid words = tt
entry_tests_fit (commands.Activate guest own) asid words = tt
entry_tests_fit (commands.LaunchStart guest) asid words = tt
entry_tests_fit (commands.LaunchUpdate guest frame page_type imi perms) asid words = tt
entry_tests_fit (commands.LaunchFinish guest) asid words = tt
entry_tests_fit (commands.MdInit frame) asid words = tt
entry_tests_fit (commands.PageMove guest source target) asid words = tt
entry_tests_fit (commands.SwapOut guest source target metadata entry) asid words = out_entry_fits (entry_at words entry)
entry_tests_fit (commands.SwapIn guest source target metadata entry) asid words = in_entry_fits 1 asid (entry_at words entry)
entry_tests_fit (commands.Reclaim frame) asid words = tt
entry_tests_fit (commands.MdOut guest source target metadata entry) asid words = out_entry_fits (entry_at words entry)
entry_tests_fit (commands.MdIn guest source target metadata entry) asid words = in_entry_fits 2 asid (entry_at words entry)
entry_tests_fit (commands.MdRootOut guest source target) asid words = tt
entry_tests_fit (commands.MdRootIn guest source target) asid words = tt

owned_fits : (asid : ℕ) (words : List ℕ) → FwFits (owned_refusal asid words)
unfolding owned_refusal
owned_fits asid words = cond_both (owned words asid) _ _ FwFits (λ _. tt) (λ _. omega arith)

source_fits : (command : Command) (asid : ℕ) (words : List ℕ) → FwFits (source_refusal command asid words)
unfolding source_refusal
source_fits (commands.GctxCreate guest frame) asid words = tt
source_fits (commands.Activate guest own) asid words = tt
source_fits (commands.LaunchStart guest) asid words = tt
source_fits (commands.LaunchUpdate guest frame page_type imi perms) asid words = tt
source_fits (commands.LaunchFinish guest) asid words = tt
source_fits (commands.MdInit frame) asid words = tt
source_fits (commands.PageMove guest source target) asid words = tt
source_fits (commands.SwapOut guest source target metadata entry) asid words = tt
source_fits (commands.SwapIn guest source target metadata entry) asid words = tt
source_fits (commands.Reclaim frame) asid words = tt
source_fits (commands.MdOut guest source target metadata entry) asid words = owned_fits asid words
source_fits (commands.MdIn guest source target metadata entry) asid words = tt
source_fits (commands.MdRootOut guest source target) asid words = owned_fits asid words
source_fits (commands.MdRootIn guest source target) asid words = tt

page_extra_fits : (command : Command) (part : Part) (asid : ℕ) (words : List ℕ) → FwFits (page_extra command part asid words)
unfolding page_extra
page_extra_fits command Source asid words = source_fits command asid words
page_extra_fits command Target asid words = tt
page_extra_fits command Metadata asid words = entry_tests_fit command asid words

-- the guest of a command is a byte, and its frames are words
one_small : (owner guest : ℕ) → owner ≤ 8 → Some owner ≡ Some guest → guest < 2 ^ 8
one_small owner guest most is = let same : owner ≡ guest = cc in omega (arith, same, most)

guest_small : (command : Command) (guest : ℕ) → IsFirmwareCommand command → guest_of command ≡ Some guest → guest < 2 ^ 8
unfolding guest_of
guest_small (commands.GctxCreate owner frame) guest is of = one_small owner guest is.1 of
guest_small (commands.Activate owner asid) guest is of = one_small owner guest is.0.1 of
guest_small (commands.LaunchStart owner) guest is of = one_small owner guest is.1 of
guest_small (commands.LaunchUpdate owner frame page_type imi perms) guest is of = one_small owner guest is.0.1 of
guest_small (commands.LaunchFinish owner) guest is of = one_small owner guest is.1 of
guest_small (commands.MdInit frame) guest is of = cc
guest_small (commands.PageMove owner source target) guest is of = one_small owner guest is.1 of
guest_small (commands.SwapOut owner source target metadata entry) guest is of = one_small owner guest is.0.1 of
guest_small (commands.SwapIn owner source target metadata entry) guest is of = one_small owner guest is.0.1 of
guest_small (commands.Reclaim frame) guest is of = cc
guest_small (commands.MdOut owner source target metadata entry) guest is of = one_small owner guest is.0.1 of
guest_small (commands.MdIn owner source target metadata entry) guest is of = one_small owner guest is.0.1 of
guest_small (commands.MdRootOut owner source target) guest is of = one_small owner guest is.1 of
guest_small (commands.MdRootIn owner source target) guest is of = one_small owner guest is.1 of

-- each frame of a list of pages
abbrev AreWidePages : List CommandPage → Type 0
AreWidePages pages = AllByRecursion (λ (page : CommandPage). page.frame < 2 ^ 64) pages

pages_wide : (command : Command) → IsWideCommand command → AreWidePages (pages_of command)
unfolding pages_of
pages_wide (commands.GctxCreate guest frame) wide = (wide, tt)
pages_wide (commands.Activate guest asid) wide = tt
pages_wide (commands.LaunchStart guest) wide = tt
pages_wide (commands.LaunchUpdate guest frame page_type imi perms) wide = (wide, tt)
pages_wide (commands.LaunchFinish guest) wide = tt
pages_wide (commands.MdInit frame) wide = (wide, tt)
pages_wide (commands.PageMove guest source target) wide = (wide.0, (wide.1, tt))
pages_wide (commands.SwapOut guest source target metadata entry) wide = (wide.0, (wide.1, (wide.2, tt)))
pages_wide (commands.SwapIn guest source target metadata entry) wide = (wide.0, (wide.1, (wide.2, tt)))
pages_wide (commands.Reclaim frame) wide = (wide, tt)
pages_wide (commands.MdOut guest source target metadata entry) wide = (wide.0, (wide.1, (wide.2, tt)))
pages_wide (commands.MdIn guest source target metadata entry) wide = (wide.0, (wide.1, (wide.2, tt)))
pages_wide (commands.MdRootOut guest source target) wide = (wide.0, (wide.1, tt))
pages_wide (commands.MdRootIn guest source target) wide = (wide.0, (wide.1, tt))

page_wide : (pages : List CommandPage) (k : ℕ) (page : CommandPage) → AreWidePages pages → slice_get pages k ≡ Some page → page.frame < 2 ^ 64
page_wide [] k page wide is = cc
page_wide (first ∷ pages) zero page wide is = let same : first ≡ page = cc in subst (λ (p : CommandPage). p.frame < 2 ^ 64) same wide.0
page_wide (first ∷ pages) (suc k) page wide is = page_wide pages k page wide.1 is

-- the lock of a context, and that of a page
taken_fits : (contents : Contents) (part : ActorPart) (guest : ℕ) (refusal : Option FwRefusal) → guest < 2 ^ 8 → FwFits refusal → IsFitMove (context_taken contents part guest refusal)
unfolding context_taken
taken_fits contents part guest None small fits = record { deed = small; outcome = tt }
taken_fits contents part guest (Some refusal) small fits = record { deed = small; outcome = fits }

takes_fit : (frames : ℕ) (guests : List GuestSpec) (view : View) (part : ActorPart) (command : Command) (guest : ℕ) → LooksAt frames view → guest < 2 ^ 8 → IsFitMove (take_context guests view part command guest)
unfolding take_context
takes_fit frames guests view part command guest looks small =
    taken_fits view.contents part guest _ small
    (either_fits (guest_refusal guests guest) _ (guest_fits guests guest) (context_fits guests command (view.contents.contexts guest) (view.context_holder guest) (looks.context_holders guest)))

locked_fits : (contents : Contents) (part : ActorPart) (lock : PageLock) (refusal : Option FwRefusal) → lock.frame < 2 ^ 64 → FwFits refusal → IsFitMove (lock_move contents part lock (option_map refused refusal))
unfolding lock_move
locked_fits contents part lock None small fits = record { deed = small; outcome = tt }
locked_fits contents part lock (Some refusal) small fits = record { deed = small; outcome = fits }

lock_tests_fit : (frames asid : ℕ) (command : Command) (page : CommandPage) (view : View) → LooksAt frames view → FwFits (lock_refusal frames asid command page (view.contents.pages page.frame) (view.holder page.frame))
unfolding lock_refusal
lock_tests_fit frames asid command page view looks =
    let found = view.contents.pages page.frame in
    either_fits (frame_refusal frames page.frame) _ (frame_fits frames page.frame)
    (either_fits (page_refusal command page.part found.facts (view.holder page.frame) asid) _ (page_fits command page.part found.facts (view.holder page.frame) asid (looks.holders page.frame))
    (page_extra_fits command page.part asid found.words))

page_taken_fits : (frames : ℕ) (guests : List GuestSpec) (view : View) (part : ActorPart) (command : Command) (page : CommandPage) → LooksAt frames view → page.frame < 2 ^ 64 → IsFitMove (take_page frames guests view part command page)
unfolding take_page
page_taken_fits frames guests view part command page looks small =
    locked_fits view.contents part (page_lock (view.contents.pages page.frame).facts.size page.frame) _ small (lock_tests_fit frames (command_asid guests command) command page view looks)

-- what a compute refuses: both tags are of 16 bytes
abbrev ComputeFits : {A : Type 0} → Result A FwRefusal → Type 0
ComputeFits (Ok made) = Unit {0}
ComputeFits (Err refusal) = FwFits (Some refusal)

found_is : (key : List ℕ) (entry : MetaEntry) (words : List ℕ) → AreBytes key → IsTag (found_tag key entry words)
unfolding found_tag
found_is key entry words keys = (length-tag key _ _ _, tag_bytes key _ _ _ keys)

opened_fits : (context : Context) (entry : MetaEntry) (words : List ℕ) → AreBytes context.key → IsMetaEntry entry → ComputeFits (opened context entry words)
unfolding opened
opened_fits context entry words keys is =
    cond_both (bytes_eq (found_tag context.key entry words) entry.tag) _ _ (ComputeFits {A = List ℕ}) (λ _. tt) (λ _. (found_is context.key entry words keys, (is.tag_count, is.tag)))

with_fits : (what : What) (asid : ℕ) (entry : MetaEntry) (result : Result (List ℕ) FwRefusal) → ComputeFits result → ComputeFits (opened_with what asid entry result)
unfolding opened_with
with_fits what asid entry (Ok words) fits = cond_both (opens_as what asid words) _ _ (ComputeFits {A = Computed}) (λ _. tt) (λ _. omega arith)
with_fits what asid entry (Err refusal) fits = fits

as_fits : (what : What) (context : Context) (entry : Option MetaEntry) (words : List ℕ) → AreBytes context.key → ((e : MetaEntry) → entry ≡ Some e → IsMetaEntry e) → ComputeFits (opened_as what context entry words)
unfolding opened_as
as_fits what context None words keys are = omega arith
as_fits what context (Some entry) words keys are = with_fits what context.asid entry (opened context entry words) (opened_fits context entry words keys (are entry refl))

-- the keys of contexts are bytes, and each entry in use has its ranges
pub record HasSeals (contents : Contents) : Type 0 where
  pub keys : (guest : ℕ) → AreBytes (contents.contexts guest).key
  pub entries : (owner : ℕ) (slot : Slot) (entry : MetaEntry) → slot_entry contents.pages (contents.contexts owner) slot ≡ Some entry → IsMetaEntry entry

compute_fits : (contents : Contents) (sealing : Sealing) → HasSeals contents → ComputeFits (compute_of contents sealing)
unfolding compute_of
compute_fits contents (SealOut what guest source target slot) seals = tt
compute_fits contents (SealIn what guest source target slot) seals =
    as_fits what (contents.contexts guest) (slot_entry contents.pages (contents.contexts guest) slot) (contents.pages source).words (seals.keys guest) (seals.entries guest slot)

computed_fits : (contents : Contents) (part : ActorPart) (result : Result Computed FwRefusal) → ComputeFits result → IsFitMove (computed_move contents part result)
unfolding computed_move
computed_fits contents part (Ok made) fits = record { deed = tt; outcome = tt }
computed_fits contents part (Err refusal) fits = record { deed = tt; outcome = fits }

-- the commit shows frames that it has locked, and guest page numbers of memory before it and after it
record AreShown (frames : ℕ) (command : Command) (before left : Pages) : Type 0 where
  small : frames ≤ 8192
  inside : AllByRecursion (λ (page : CommandPage). page.frame < frames) (pages_of command)
  guest : (g : ℕ) → guest_of command ≡ Some g → g < 2 ^ 8
  old_gpns : (frame : ℕ) → (before frame).facts.gpn < 2 ^ 64
  new_gpns : (frame : ℕ) → (left frame).facts.gpn < 2 ^ 64

shown : (frames frame gpn : ℕ) → frames ≤ 8192 → frame < frames → gpn < 2 ^ 64 → (frame < 2 ^ 32) × (gpn < 2 ^ 64)
shown frames frame gpn small inside wide = (omega (arith, small, inside), wide)

commit_deed_fits : (frames : ℕ) (command : Command) (before left : Pages) → AreShown frames command before left → IsDeed (commit_deed command before left)
unfolding commit_deed pages_of guest_of
commit_deed_fits frames (commands.GctxCreate guest frame) before left are = shown frames frame _ are.small are.inside.0 (are.old_gpns frame)
commit_deed_fits frames (commands.Activate guest asid) before left are = are.guest guest refl
commit_deed_fits frames (commands.LaunchStart guest) before left are = are.guest guest refl
commit_deed_fits frames (commands.LaunchUpdate guest frame page_type imi perms) before left are = shown frames frame _ are.small are.inside.0 (are.old_gpns frame)
commit_deed_fits frames (commands.LaunchFinish guest) before left are = are.guest guest refl
commit_deed_fits frames (commands.MdInit frame) before left are = shown frames frame _ are.small are.inside.0 (are.old_gpns frame)
commit_deed_fits frames (commands.PageMove guest source target) before left are = shown frames target _ are.small are.inside.1.0 (are.new_gpns target)
commit_deed_fits frames (commands.SwapOut guest source target metadata entry) before left are = shown frames source _ are.small are.inside.0 (are.old_gpns source)
commit_deed_fits frames (commands.SwapIn guest source target metadata entry) before left are = shown frames target _ are.small are.inside.1.0 (are.new_gpns target)
commit_deed_fits frames (commands.Reclaim frame) before left are = shown frames frame _ are.small are.inside.0 (are.old_gpns frame)
commit_deed_fits frames (commands.MdOut guest source target metadata entry) before left are = shown frames source 0 are.small are.inside.0 (omega arith)
commit_deed_fits frames (commands.MdIn guest source target metadata entry) before left are = shown frames target 0 are.small are.inside.1.0 (omega arith)
commit_deed_fits frames (commands.MdRootOut guest source target) before left are = shown frames source 0 are.small are.inside.0 (omega arith)
commit_deed_fits frames (commands.MdRootIn guest source target) before left are = shown frames target 0 are.small are.inside.1.0 (omega arith)

-- a command whose locks are all taken has its frames in memory
all_inside : (frames : ℕ) (pages : List CommandPage) (locks : List PageLock) → AreLocksOf frames pages locks → length locks ≡ length pages → AllByRecursion (λ (page : CommandPage). page.frame < frames) pages
unfolding AreLocksOf
all_inside frames [] locks are same = tt
all_inside frames (page ∷ pages) [] are same = absurd (omega (arith, same))
all_inside frames (page ∷ pages) (lock ∷ locks) are same = (are.0.inside, all_inside frames pages locks are.1 (omega (arith, same)))

-- the move shows guest page numbers of memory after it
abbrev Shows : Move → Type 0
Shows move = ((frame : ℕ) → (move.contents.pages frame).facts.gpn < 2 ^ 64) → IsFitMove move

commit_fits : (frames : ℕ) (guests : List GuestSpec) (view : View) (part : ActorPart) (command : Command) → LooksAt frames view → IsFirmwareCommand command → AreLocksOf frames (pages_of command) part.standing.locks
    → IsCommitting frames guests view.contents command part.standing → Shows (commit_move view.contents part command)
unfolding commit_move
commit_fits frames guests view part command looks is locks stage new_gpns = record {
  deed = commit_deed_fits frames command view.contents.pages _ (record {
    small = looks.small;
    inside = all_inside frames (pages_of command) part.standing.locks locks (all_locked frames guests view.contents command part.standing stage.ready);
    guest = λ g of. guest_small command g is of;
    old_gpns = looks.gpns;
    new_gpns = new_gpns;
  });
  outcome = omega arith;
}

-- by what its attempt needs
record Stages (frames : ℕ) (guests : List GuestSpec) (view : View) (part : ActorPart) (command : Command) : Type 0 where
  takes : (guest : ℕ) → guest_of command ≡ Some guest → IsFitMove (take_context guests view part command guest)
  locks : (page : CommandPage) → slice_get (pages_of command) (length part.standing.locks) ≡ Some page → IsFitMove (take_page frames guests view part command page)
  computes : (sealing : Sealing) → IsFitMove (computed_move view.contents part (compute_of view.contents sealing))
  commits : IsCommitting frames guests view.contents command part.standing → Shows (commit_move view.contents part command)

made_one : (sealing other : Option Sealing) (computed found : Option Computed) → sealing ≡ other → computed ≡ found → HasMade other found → HasMade sealing computed
made_one sealing other computed found sealing_is computed_is has =
    subst (λ (s : Option Sealing). HasMade s computed) (sym sealing_is) (subst (λ (c : Option Computed). HasMade other c) (sym computed_is) has)

pages_stage : (frames : ℕ) (guests : List GuestSpec) (view : View) (part : ActorPart) (command : Command) (page : Option CommandPage) (sealing : Option Sealing) (computed : Option Computed)
    → Stages frames guests view part command → AreCommandLocks frames guests view.contents command part.standing
    → ((guest : ℕ) → guest_of command ≡ Some guest → part.standing.context_lock ≡ Some guest)
    → slice_get (pages_of command) (length part.standing.locks) ≡ page → sealing_of command ≡ sealing → part.standing.computed ≡ computed
    → Shows (phase_move frames guests view part command (pages_phase page sealing computed))
unfolding pages_phase phase_move
pages_stage frames guests view part command (Some page) sealing computed each tested held taken sealing_is computed_is shows = each.locks page taken
pages_stage frames guests view part command None (Some sealing) None each tested held taken sealing_is computed_is shows = each.computes sealing
pages_stage frames guests view part command None (Some sealing) (Some made) each tested held taken sealing_is computed_is shows =
    each.commits
    (record {
      ready = record { tested = tested; all = taken; held = held };
      made = made_one (sealing_of command) (Some sealing) part.standing.computed (Some made) sealing_is computed_is tt;
    })
    shows
pages_stage frames guests view part command None None computed each tested held taken sealing_is computed_is shows =
    each.commits
    (record {
      ready = record { tested = tested; all = taken; held = held };
      made = made_one (sealing_of command) None part.standing.computed computed sealing_is computed_is tt;
    })
    shows

none_some : (g : ℕ) → None ≡ Some g → ⊥
none_some g e = cc

context_stage : (frames : ℕ) (guests : List GuestSpec) (view : View) (part : ActorPart) (command : Command) (owner locked : Option ℕ) (later : Phase)
    → Stages frames guests view part command
    → (((guest : ℕ) → guest_of command ≡ Some guest → part.standing.context_lock ≡ Some guest) → Shows (phase_move frames guests view part command later))
    → AreCommandLocks frames guests view.contents command part.standing → guest_of command ≡ owner → part.standing.context_lock ≡ locked
    → Shows (phase_move frames guests view part command (context_phase owner locked later))
unfolding context_phase phase_move
context_stage frames guests view part command (Some guest) None later each goes_on tested owner_is locked_is shows = each.takes guest owner_is
context_stage frames guests view part command (Some guest) (Some own) later each goes_on tested owner_is locked_is shows =
    goes_on (λ g is. locked_is ∙ sym (tested.context own locked_is).guest_is ∙ is) shows
context_stage frames guests view part command None locked later each goes_on tested owner_is locked_is shows = goes_on (λ g is. absurd (none_some g (sym owner_is ∙ is))) shows

pub firmware_fits : (frames : ℕ) (guests : List GuestSpec) (view : View) (part : ActorPart) (command : Command) → LooksAt frames view → HasSeals view.contents → IsFirmwareCommand command → IsWideCommand command
    → AreCommandLocks frames guests view.contents command part.standing → AreLocksOf frames (pages_of command) part.standing.locks
    → ((frame : ℕ) → ((firmware_move frames guests view part command).contents.pages frame).facts.gpn < 2 ^ 64) → IsFitMove (firmware_move frames guests view part command)
firmware_fits frames guests view part command looks seals is wide tested locks shows =
    let each : Stages frames guests view part command = record {
      takes = λ guest of. takes_fit frames guests view part command guest looks (guest_small command guest is of);
      locks = λ page taken. page_taken_fits frames guests view part command page looks (page_wide (pages_of command) (length part.standing.locks) page (pages_wide command wide) taken);
      computes = λ sealing. computed_fits view.contents part (compute_of view.contents sealing) (compute_fits view.contents sealing seals);
      commits = commit_fits frames guests view part command looks is locks;
    } in
    context_stage frames guests view part command (guest_of command) part.standing.context_lock _ each
    (λ held. pages_stage frames guests view part command (slice_get (pages_of command) (length part.standing.locks)) (sealing_of command) part.standing.computed each tested held refl refl refl)
    tested refl refl shows
