-- What each event of a command that seals nothing does to the pages of a guest, and to what the guest's memory holds.
use Rattle.std.proofs.Common.{◌≡◌, ◌≢◌, ℕ, Bool, true, false, ◌&&◌, eqb, List, Option, Some, None, unwrap_or, Result, Ok, Err, refl, sym, ◌∙◌, subst}
use Rattle.std.proofs.lemmas.Bool.{cond_both, eqb-true, eqb-false}
use Rattle.snp_model.specs.declared.command.Command.{Command}
use Rattle.snp_model.specs.declared.command.Command.TheVariants as commands
use Rattle.snp_model.specs.declared.entry.RmpEntry.{RmpEntry}
use Rattle.snp_model.specs.declared.event.Deed.TheVariants as deeds
use Rattle.snp_model.specs.declared.event.FwRefusal.{FwRefusal}
use Rattle.snp_model.specs.declared.event.Outcome.TheVariants as outcomes
use Rattle.snp_model.specs.declared.firmware.Part.TheVariants.{Source, Target}
use Rattle.snp_model.specs.declared.item.Item.TheVariants as items
use Rattle.snp_model.specs.declared.scenario.GuestSpec.{GuestSpec}
use Rattle.snp_model.specs.declared.scenario.Role.TheVariants.{Firmware}
use Rattle.snp_model.specs.Firmware.{guest_of, pages_of, success}
use Rattle.snp_model.specs.FirmwareCommits.{at_guest, context_after, root_after, launched_into}
use Rattle.snp_model.specs.FirmwareStep.{refused, context_taken, computed_move, nothing_made, first_lock, pages_after, context_committed, contexts_after, commit_deed, commit_move, firmware_move}
use Rattle.snp_model.specs.GuestMemory.{Memory, Use, Untouched, Launches, use_of, firmware_use, use_for}
use Rattle.snp_model.specs.Live.{Archive}
use Rattle.snp_model.specs.Moves.{Move}
use Rattle.snp_model.specs.Opening.{asid_of}
use Rattle.snp_model.specs.PageStates.{allowed, has_owner}
use Rattle.snp_model.specs.Sealing.{sealing_of}
use Rattle.snp_model.specs.State.{Pages, Context, Contexts, Contents, Computed, ActorPart, Standing, View}
use Rattle.run_laws.specs.HeldLocks.{AreCommandLocks}
use Rattle.run_laws.specs.Shapes.{IsFirmwares}
use Rattle.run_laws.proofs.CommandTests.{IsReady, page_at, context_at, by_phase}
use Rattle.run_laws.proofs.ItemUseLaws.{lock_fine}
use Rattle.run_laws.proofs.LaunchUseLaws.{launch_own, launch_other}
use Rattle.run_laws.proofs.MoveUseLaws.{move_fine}
use Rattle.run_laws.proofs.PageStateLaws.{IsPrepared, firmware_facts, pre_guest_facts, pre_swap_facts}
use Rattle.run_laws.proofs.PageUseLaws.{KeepsEntries, fine_contexts, context_fine, metadata_fine}
use Rattle.run_laws.proofs.ReclaimUseLaws.{reclaim_fine}
use Rattle.run_laws.proofs.UseLaws.{OwnsAmong, Before, Fine, MoveFine, quiet_fine, nothing_fine}
use Rattle.run_laws.proofs.ValidateUseLaws.{LacksAccepted}

-- the lock of a context, and a compute, do nothing to pages, whatever the command is
pub context_taken_fine : (guest asid : ℕ) (archive : Archive) (memory : Memory) (old : Contents) (part : ActorPart) (command : Command) (owner : ℕ) (refusal : Option FwRefusal)
    → Before guest asid archive memory old → MoveFine guest asid archive memory old Firmware (items.Firmware command) (context_taken old part owner refusal)
unfolding context_taken use_of firmware_use
context_taken_fine guest asid archive memory old part command owner None before = record {
  fine = (quiet_fine guest asid archive memory old part Firmware (items.Firmware command) (deeds.LockContext owner) None before (record { processors = refl; firmware = λ _ _. refl })).fine;
}
context_taken_fine guest asid archive memory old part command owner (Some refusal) before =
    quiet_fine guest asid archive memory old part Firmware (items.Firmware command) (deeds.LockContext owner) (Some (refused refusal)) before (record { processors = refl; firmware = λ _ _. refl })

pub computed_fine : (guest asid : ℕ) (archive : Archive) (memory : Memory) (old : Contents) (part : ActorPart) (command : Command) (made : Result Computed FwRefusal)
    → Before guest asid archive memory old → MoveFine guest asid archive memory old Firmware (items.Firmware command) (computed_move old part made)
unfolding computed_move use_of firmware_use
computed_fine guest asid archive memory old part command (Ok made) before = record {
  fine = (quiet_fine guest asid archive memory old part Firmware (items.Firmware command) deeds.Compute None before (record { processors = refl; firmware = λ _ _. refl })).fine;
}
computed_fine guest asid archive memory old part command (Err refusal) before =
    quiet_fine guest asid archive memory old part Firmware (items.Firmware command) deeds.Compute (Some (refused refusal)) before (record { processors = refl; firmware = λ _ _. refl })

-- a commit of a command that seals nothing keeps each context's counter and root
keeps_itself : (context : Context) → KeepsEntries context context
keeps_itself context = record { iv = refl; root = refl }

committed_keeps : (command : Command) (made : Computed) (pages : Pages) (context : Context) → sealing_of command ≡ None → KeepsEntries (context_committed command made pages context) context
unfolding sealing_of context_committed context_after root_after launched_into
committed_keeps (commands.GctxCreate owner frame) made pages context plain = record { iv = refl; root = refl }
committed_keeps (commands.Activate owner asid) made pages context plain = record { iv = refl; root = refl }
committed_keeps (commands.LaunchStart owner) made pages context plain = record { iv = refl; root = refl }
committed_keeps (commands.LaunchUpdate owner frame page_type imi perms) made pages context plain = record { iv = refl; root = refl }
committed_keeps (commands.LaunchFinish owner) made pages context plain = record { iv = refl; root = refl }
committed_keeps (commands.MdInit frame) made pages context plain = record { iv = refl; root = refl }
committed_keeps (commands.PageMove owner source target) made pages context plain = record { iv = refl; root = refl }
committed_keeps (commands.SwapOut owner source target metadata entry) made pages context plain = absurd cc
committed_keeps (commands.SwapIn owner source target metadata entry) made pages context plain = absurd cc
committed_keeps (commands.Reclaim frame) made pages context plain = record { iv = refl; root = refl }
committed_keeps (commands.MdOut owner source target metadata entry) made pages context plain = absurd cc
committed_keeps (commands.MdIn owner source target metadata entry) made pages context plain = absurd cc
committed_keeps (commands.MdRootOut owner source target) made pages context plain = absurd cc
committed_keeps (commands.MdRootIn owner source target) made pages context plain = absurd cc

contexts_keep : (owner : Option ℕ) (command : Command) (made : Computed) (pages : Pages) (contexts : Contexts) (guest : ℕ) → sealing_of command ≡ None → KeepsEntries (contexts_after owner command made pages contexts guest) (contexts guest)
unfolding contexts_after at_guest
contexts_keep None command made pages contexts guest plain = keeps_itself (contexts guest)
contexts_keep (Some own) command made pages contexts guest plain =
    cond_both (eqb own guest) _ _ (λ (context : Context). KeepsEntries context (contexts guest))
    (λ same. subst (λ (g : ℕ). KeepsEntries (context_committed command made pages (contexts own)) (contexts g)) (eqb-true own guest same) (committed_keeps command made pages (contexts own) plain))
    (λ _. keeps_itself (contexts guest))

-- what a commit does is fine, where the memory lacks the pages that it makes held
abbrev CommitFine : ℕ → ℕ → Archive → Memory → Contents → ActorPart → Command → Type 0
CommitFine guest asid archive memory old part command =
    let move = commit_move old part command in
    LacksAccepted memory (use_for guest move.contents Firmware move.deed (items.Firmware command) move.outcome)
    → Fine guest asid archive memory old move.contents (use_for guest move.contents Firmware move.deed (items.Firmware command) move.outcome)

-- memory after a commit
abbrev left_pages : Contents → ActorPart → Command → Pages
left_pages old part command = pages_after command part.standing.locks (unwrap_or part.standing.computed nothing_made) old.pages

-- a commit that launches nothing
commit_by : (guest asid : ℕ) (archive : Archive) (memory : Memory) (old : Contents) (part : ActorPart) (command : Command) → sealing_of command ≡ None
    → ((left : Contents) → firmware_use guest left (commit_deed command old.pages (left_pages old part command)) (items.Firmware command) (Some (outcomes.Firmware success)) ≡ Untouched)
    → Fine guest asid archive memory old (record old { pages = left_pages old part command }) Untouched → CommitFine guest asid archive memory old part command
unfolding commit_move use_for
commit_by guest asid archive memory old part command plain idle fine lacks =
    let move = commit_move old part command in
    let keeps = contexts_keep (guest_of command) command (unwrap_or part.standing.computed nothing_made) (left_pages old part command) old.contexts guest plain in
    subst (Fine guest asid archive memory old move.contents) (sym (idle move.contents)) (fine_contexts guest asid archive memory old (left_pages old part command) move.contents.contexts Untouched keeps fine)

-- what the locks of each command have tested of its pages

create_ready : (frames : ℕ) (guests : List GuestSpec) (old : Contents) (standing : Standing) (owner frame : ℕ) → IsReady frames guests old (commands.GctxCreate owner frame) standing → IsFirmwares (old.pages frame).facts
unfolding pages_of allowed
create_ready frames guests old standing owner frame ready =
    firmware_facts (old.pages frame).facts (page_at frames guests old (commands.GctxCreate owner frame) standing 0 (record { part = Target; frame = frame }) ready refl).state

init_ready : (frames : ℕ) (guests : List GuestSpec) (old : Contents) (standing : Standing) (frame : ℕ) → IsReady frames guests old (commands.MdInit frame) standing → IsFirmwares (old.pages frame).facts
unfolding pages_of allowed
init_ready frames guests old standing frame ready =
    firmware_facts (old.pages frame).facts (page_at frames guests old (commands.MdInit frame) standing 0 (record { part = Target; frame = frame }) ready refl).state

-- a launched page is Pre-Guest, and the command's guest has it
record IsLaunchable (guests : List GuestSpec) (owner : ℕ) (facts : RmpEntry) : Type 0 where
  prepared : IsPrepared facts false
  owner_is : facts.asid ≡ asid_of guests owner

launch_ready : (frames : ℕ) (guests : List GuestSpec) (old : Contents) (standing : Standing) (owner frame page_type : ℕ) (imi : Bool) (perms : List ℕ)
    → IsReady frames guests old (commands.LaunchUpdate owner frame page_type imi perms) standing → IsLaunchable guests owner (old.pages frame).facts
unfolding guest_of pages_of allowed has_owner
launch_ready frames guests old standing owner frame page_type imi perms ready =
    let page = page_at frames guests old (commands.LaunchUpdate owner frame page_type imi perms) standing 0 (record { part = Target; frame = frame }) ready refl in
    record { prepared = pre_guest_facts (old.pages frame).facts page.state; owner_is = page.owner refl }

-- a moved page is Pre-Swap, and its target Pre-Guest
record IsMovable (source target : RmpEntry) : Type 0 where
  source_is : IsPrepared source true
  target_is : IsPrepared target false

move_ready : (frames : ℕ) (guests : List GuestSpec) (old : Contents) (standing : Standing) (owner source target : ℕ) → IsReady frames guests old (commands.PageMove owner source target) standing
    → IsMovable (old.pages source).facts (old.pages target).facts
unfolding pages_of allowed
move_ready frames guests old standing owner source target ready =
    let command = commands.PageMove owner source target in
    record {
      source_is = pre_swap_facts (old.pages source).facts (page_at frames guests old command standing 0 (record { part = Source; frame = source }) ready refl).state;
      target_is = pre_guest_facts (old.pages target).facts (page_at frames guests old command standing 1 (record { part = Target; frame = target }) ready refl).state;
    }

-- the commit of launch_update, for its guest and for another
and_one : (b c : Bool) → (b && true) ≡ c → b ≡ c
and_one true c is = is
and_one false c is = is

launch_commit : (guest asid : ℕ) (archive : Archive) (guests : List GuestSpec) (memory : Memory) (old : Contents) (part : ActorPart) (owner frame page_type : ℕ) (imi : Bool) (perms : List ℕ)
    → Before guest asid archive memory old → IsLaunchable guests owner (old.pages frame).facts → (owner ≢ guest → asid_of guests owner ≢ asid)
    → CommitFine guest asid archive memory old part (commands.LaunchUpdate owner frame page_type imi perms)
unfolding commit_move use_for firmware_use commit_deed pages_after sealing_of guest_of
launch_commit guest asid archive guests memory old part owner frame page_type imi perms before has other =
    let command = commands.LaunchUpdate owner frame page_type imi perms in
    let move = commit_move old part command in
    let pages = left_pages old part command in
    let keeps = contexts_keep (guest_of command) command (unwrap_or part.standing.computed nothing_made) pages old.contexts guest refl in
    let with_contexts = λ (does : Use). fine_contexts guest asid archive memory old pages move.contents.contexts does keeps in
    cond_both (eqb owner guest && true) (Launches (old.pages frame).facts.gpn (pages frame).words) Untouched
    (λ (does : Use). LacksAccepted memory does → Fine guest asid archive memory old move.contents does)
    (λ _ lacks. with_contexts (Launches (old.pages frame).facts.gpn (pages frame).words) (launch_own guest asid archive memory old frame page_type perms before has.prepared lacks))
    (λ differ lacks. with_contexts Untouched
    (launch_other guest asid archive memory old frame page_type perms before has.prepared (λ same. other (eqb-false owner guest (and_one (eqb owner guest) false differ)) (sym has.owner_is ∙ same))))

-- so the commit of each
some_none : {X : Type 0} (x : X) → Some x ≡ None → ⊥
some_none x e = cc

commit_fine : (guest asid : ℕ) (archive : Archive) (guests : List GuestSpec) (memory : Memory) (frames : ℕ) (old : Contents) (part : ActorPart) (command : Command) → sealing_of command ≡ None
    → Before guest asid archive memory old → OwnsAmong guest asid guests → IsReady frames guests old command part.standing → CommitFine guest asid archive memory old part command
unfolding sealing_of pages_after commit_deed firmware_use guest_of
commit_fine guest asid archive guests memory frames old part (commands.GctxCreate owner frame) plain before owns ready =
    commit_by guest asid archive memory old part (commands.GctxCreate owner frame) plain (λ _. refl) (context_fine guest asid archive memory old frame before (create_ready frames guests old part.standing owner frame ready))
commit_fine guest asid archive guests memory frames old part (commands.Activate owner own) plain before owns ready =
    commit_by guest asid archive memory old part (commands.Activate owner own) plain (λ _. refl) (nothing_fine guest asid archive memory old before)
commit_fine guest asid archive guests memory frames old part (commands.LaunchStart owner) plain before owns ready =
    commit_by guest asid archive memory old part (commands.LaunchStart owner) plain (λ _. refl) (nothing_fine guest asid archive memory old before)
commit_fine guest asid archive guests memory frames old part (commands.LaunchUpdate owner frame page_type imi perms) plain before owns ready =
    let declared = context_at frames guests old (commands.LaunchUpdate owner frame page_type imi perms) part.standing owner ready refl in
    launch_commit guest asid archive guests memory old part owner frame page_type imi perms before (launch_ready frames guests old part.standing owner frame page_type imi perms ready) (owns.each owner declared.some declared.most).other
commit_fine guest asid archive guests memory frames old part (commands.LaunchFinish owner) plain before owns ready =
    commit_by guest asid archive memory old part (commands.LaunchFinish owner) plain (λ _. refl) (nothing_fine guest asid archive memory old before)
commit_fine guest asid archive guests memory frames old part (commands.MdInit frame) plain before owns ready =
    commit_by guest asid archive memory old part (commands.MdInit frame) plain (λ _. refl) (metadata_fine guest asid archive memory old frame before owns.some (init_ready frames guests old part.standing frame ready))
commit_fine guest asid archive guests memory frames old part (commands.PageMove owner source target) plain before owns ready =
    let has = move_ready frames guests old part.standing owner source target ready in
    commit_by guest asid archive memory old part (commands.PageMove owner source target) plain (λ _. refl) (move_fine guest asid archive memory old source target before has.source_is has.target_is.some)
commit_fine guest asid archive guests memory frames old part (commands.SwapOut owner source target metadata entry) plain before owns ready = absurd (some_none _ plain)
commit_fine guest asid archive guests memory frames old part (commands.SwapIn owner source target metadata entry) plain before owns ready = absurd (some_none _ plain)
commit_fine guest asid archive guests memory frames old part (commands.Reclaim frame) plain before owns ready =
    commit_by guest asid archive memory old part (commands.Reclaim frame) plain (λ _. refl) (reclaim_fine guest asid archive memory old (first_lock part.standing.locks frame) before)
commit_fine guest asid archive guests memory frames old part (commands.MdOut owner source target metadata entry) plain before owns ready = absurd (some_none _ plain)
commit_fine guest asid archive guests memory frames old part (commands.MdIn owner source target metadata entry) plain before owns ready = absurd (some_none _ plain)
commit_fine guest asid archive guests memory frames old part (commands.MdRootOut owner source target) plain before owns ready = absurd (some_none _ plain)
commit_fine guest asid archive guests memory frames old part (commands.MdRootIn owner source target) plain before owns ready = absurd (some_none _ plain)

-- and each event of such a command
pub command_fine : (guest asid : ℕ) (archive : Archive) (guests : List GuestSpec) (memory : Memory) (frames : ℕ) (view : View) (part : ActorPart) (command : Command) → sealing_of command ≡ None
    → Before guest asid archive memory view.contents → OwnsAmong guest asid guests → AreCommandLocks frames guests view.contents command part.standing
    → let move = firmware_move frames guests view part command in
    LacksAccepted memory (use_for guest move.contents Firmware move.deed (items.Firmware command) move.outcome) → MoveFine guest asid archive memory view.contents Firmware (items.Firmware command) move
command_fine guest asid archive guests memory frames view part command plain before owns tested =
    let item = items.Firmware command in
    by_phase frames guests view part command
    (λ (move : Move). LacksAccepted memory (use_for guest move.contents Firmware move.deed item move.outcome) → MoveFine guest asid archive memory view.contents Firmware item move)
    (λ owner refusal _. context_taken_fine guest asid archive memory view.contents part command owner refusal before)
    (λ lock refusal _. lock_fine guest asid archive memory view.contents part Firmware item lock refusal before)
    (λ made _. computed_fine guest asid archive memory view.contents part command made before)
    (λ ready lacks. record { fine = commit_fine guest asid archive guests memory frames view.contents part command plain before owns ready lacks })
    tested
