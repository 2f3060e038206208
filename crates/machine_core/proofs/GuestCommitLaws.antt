-- What the commits of the commands that make, launch or activate a guest ask, of an attempt that has taken all that its command locks; and the model's commits, by what their functions show and leave.
use Rattle.std.proofs.Common.{◌≡◌, ℕ, ◌<◌, ◌^◌, Bool, false, List, length, None, Some, unwrap_or, slice_get, refl, sym, ap, ◌∙◌, arith}
use Rattle.std.proofs.lemmas.Bool.{eq-eqb, eqb-true}
use Rattle.fw_launch.specs.Commits.{HasPassed, pages_committed}
use Rattle.snp_model.specs.declared.command.Command.{Command}
use Rattle.snp_model.specs.declared.command.Command.TheVariants as commands
use Rattle.snp_model.specs.declared.entry.PageSize.TheVariants.{Small}
use Rattle.snp_model.specs.declared.event.Deed.TheVariants as deeds
use Rattle.snp_model.specs.declared.event.Outcome.TheVariants as outcomes
use Rattle.snp_model.specs.declared.firmware.Part.TheVariants.{Target}
use Rattle.snp_model.specs.declared.scenario.GuestSpec.{GuestSpec}
use Rattle.snp_model.specs.Firmware.{CommandPage, guest_of, one_page, pages_of as command_pages}
use Rattle.snp_model.specs.FirmwareCommits.{at_guest, context_after, launched_into, root_after}
use Rattle.snp_model.specs.FirmwareLocks.{context_refusal, guest_refusal, takes_large}
use Rattle.snp_model.specs.FirmwareStep.{commit_deed, commit_move, context_committed, contexts_after, nothing_made, page_shown, pages_after}
use Rattle.snp_model.specs.Locks.{page_lock}
use Rattle.snp_model.specs.Moves.{Move}
use Rattle.snp_model.specs.State.{ActorPart, Contexts, Pages}
use Rattle.run_laws.specs.KeptLocks.{OwnsContext, OwnsLocks, is_locked}
use Rattle.run_laws.proofs.CommandTests.{IsReady}
use Rattle.run_laws.proofs.LockLaws.{others_none}
use Rattle.machine_core.specs.declared.shown.Shown.{Shown}
use Rattle.machine_core.specs.Bays.{Stock, contents_of, context_holders_of, contexts_of, holders_of, pages_of, view_on}
use Rattle.machine_core.specs.CommandPages.{IsTestedFrame}
use Rattle.machine_core.specs.Commands.{HoldsContext}
use Rattle.machine_core.specs.Moves.{move_by, standing_by}
use Rattle.machine_core.specs.Ranges.{HoldsLock}
use Rattle.machine_core.proofs.HeldLaws.{holds_lock}
use Rattle.machine_core.proofs.ReadyLaws.{few_locks, one_lock, small_page}

-- What they ask

-- the context that an actor has locked is that of its attempt
pub holds_context : (actor guest : ℕ) (part : ActorPart) (stock : Stock) → OwnsContext actor part (context_holders_of stock.contexts) → part.standing.context_lock ≡ Some guest → HoldsContext actor guest stock
holds_context actor guest part stock owns locked =
    let locks = λ (g : ℕ). ap (is_locked g) locked in
    record {
      has = owns.has guest (locks guest ∙ eq-eqb guest guest refl);
      only = λ other held. sym (eqb-true guest other (sym (locks other) ∙ owns.only other held));
    }

-- what its tests asked still holds
pub has_passed : (frames : ℕ) (guests : List GuestSpec) (guest : ℕ) (command : Command) (part : ActorPart) (stock : Stock) → IsReady frames guests (contents_of stock guests) command part.standing → part.standing.context_lock ≡ Some guest
    → HasPassed command (contexts_of stock.contexts guests guest)
has_passed frames guests guest command part stock ready locked =
    (guests, others_none (guest_refusal guests guest) (context_refusal guests command (contexts_of stock.contexts guests guest) None) (ready.tested.context guest locked).passes)

-- what a commit asks that changes the context of its guest alone, as those of activate, launch_start and launch_finish
pub record MayChangeGuest (actor guest : ℕ) (command : Command) (stock : Stock) : Type 0 where
  pub tested : (guests : List GuestSpec) × HasPassed command (contexts_of stock.contexts guests guest)
  pub holds : HoldsContext actor guest stock

pub guest_ready : (frames : ℕ) (guests : List GuestSpec) (actor guest : ℕ) (command : Command) (part : ActorPart) (stock : Stock) → OwnsContext actor part (context_holders_of stock.contexts)
    → IsReady frames guests (contents_of stock guests) command part.standing → part.standing.context_lock ≡ Some guest → MayChangeGuest actor guest command stock
guest_ready frames guests actor guest command part stock owns ready locked = record {
  tested = (guests, has_passed frames guests guest command part stock ready locked);
  holds = holds_context actor guest part stock owns locked;
}

-- what those of gctx_create and launch_update ask
pub record MayLaunch (actor guest frame : ℕ) (command : Command) (stock : Stock) : Type 0 where
  pub page_tested : IsTestedFrame frame stock
  pub tested : (guests : List GuestSpec) × HasPassed command (contexts_of stock.contexts guests guest)
  pub holds : HoldsLock actor (page_lock Small frame) stock
  pub holds_context : HoldsContext actor guest stock

-- a command on one page of 4 KB
one_ready : (frames : ℕ) (guests : List GuestSpec) (actor guest frame : ℕ) (command : Command) (part : ActorPart) (stock : Stock) → frames < 2 ^ 32 → OwnsLocks actor part (holders_of stock.bays)
    → OwnsContext actor part (context_holders_of stock.contexts) → IsReady frames guests (contents_of stock guests) command part.standing → part.standing.context_lock ≡ Some guest → command_pages command ≡ one_page frame
    → takes_large command ≡ false → MayLaunch actor guest frame command stock
one_ready frames guests actor guest frame command part stock few owns owns_context ready locked pages takes =
    let contents = contents_of stock guests in
    let page = small_page frames guests contents command part.standing 0 (record { part = Target; frame = frame }) ready (ap (λ (ps : List CommandPage). slice_get ps 0) pages) takes in
    let inside = page.inside in
    let most = few_locks frames guests contents command part.standing ready in
    let length_is = ap (λ (ps : List CommandPage). length ps) pages in
    let change = guest_ready frames guests actor guest command part stock owns_context ready locked in
    record {
      page_tested = record { below = omega (arith, few, inside); small = page.small };
      tested = change.tested;
      holds = holds_lock actor part (page_lock Small frame) stock owns (one_lock part.standing.locks (page_lock Small frame) (omega (arith, most, length_is)) page.lock_is);
      holds_context = change.holds;
    }

pub create_ready : (frames : ℕ) (guests : List GuestSpec) (actor guest frame : ℕ) (command : Command) (part : ActorPart) (stock : Stock) → command ≡ commands.GctxCreate guest frame → frames < 2 ^ 32 → OwnsLocks actor part (holders_of stock.bays)
    → OwnsContext actor part (context_holders_of stock.contexts) → IsReady frames guests (contents_of stock guests) command part.standing → part.standing.context_lock ≡ Some guest → MayLaunch actor guest frame command stock
unfolding command_pages
create_ready frames guests actor guest frame command part stock is few owns owns_context ready locked =
    one_ready frames guests actor guest frame command part stock few owns owns_context ready locked (ap command_pages is) (ap (λ (c : Command). takes_large c) is)

pub update_ready : (frames : ℕ) (guests : List GuestSpec) (actor guest frame page_type : ℕ) (imi : Bool) (perms : List ℕ) (command : Command) (part : ActorPart) (stock : Stock) → command ≡ commands.LaunchUpdate guest frame page_type imi perms
    → frames < 2 ^ 32 → OwnsLocks actor part (holders_of stock.bays) → OwnsContext actor part (context_holders_of stock.contexts) → IsReady frames guests (contents_of stock guests) command part.standing
    → part.standing.context_lock ≡ Some guest → MayLaunch actor guest frame command stock
unfolding command_pages
update_ready frames guests actor guest frame page_type imi perms command part stock is few owns owns_context ready locked =
    one_ready frames guests actor guest frame command part stock few owns owns_context ready locked (ap command_pages is) (ap (λ (c : Command). takes_large c) is)

-- The model's commits

-- a commit, by what it shows of memory before and after it and of contexts after it
pub shown_commits : (guests : List GuestSpec) (part : ActorPart) (command : Command) (old new : Stock) (shown : Shown)
    → (let made = unwrap_or part.standing.computed nothing_made in pages_of new.bays ≡ pages_after command part.standing.locks made (pages_of old.bays))
    → (let made = unwrap_or part.standing.computed nothing_made in contexts_of new.contexts guests ≡ contexts_after (guest_of command) command made (pages_of new.bays) (contexts_of old.contexts guests))
    → shown ≡ record { deed = commit_deed command (pages_of old.bays) (pages_of new.bays); outcome = Some (outcomes.Firmware 0); lock = None }
    → commit_move (contents_of old guests) part command ≡ move_by shown (view_on new guests) (standing_by shown part.standing)
unfolding commit_move
shown_commits guests part command old new shown pages_are contexts_are shown_is =
    let made = unwrap_or part.standing.computed nothing_made in
    let contexts = ap (λ (pages : Pages). contexts_after (guest_of command) command made pages (contexts_of old.contexts guests)) (sym pages_are) ∙ sym contexts_are in
    (λ i. let m : Move = record {
      deed = commit_deed command (pages_of old.bays) (sym pages_are i);
      outcome = Some (outcomes.Firmware 0);
      contents = record { pages = sym pages_are i; contexts = contexts i };
      standing = part.standing;
    } in m)
    ∙ ap (λ (s : Shown). move_by s (view_on new guests) (standing_by s part.standing)) (sym shown_is)

-- the contexts that a commit leaves that makes or launches a page, and those of one that changes a context alone
abbrev pub launched_contexts : ℕ → Command → ℕ → Pages → Contexts → Contexts
launched_contexts guest command frame pages contexts = let page = pages frame in at_guest guest (context_after command page.facts.gpn page.words (contexts guest)) contexts

abbrev pub changed_contexts : ℕ → Command → List ℕ → Contexts → Contexts
changed_contexts guest command words contexts = at_guest guest (context_after command 0 words (contexts guest)) contexts

pub create_commits : (guests : List GuestSpec) (part : ActorPart) (command : Command) (guest frame : ℕ) (old new : Stock) (shown : Shown) → command ≡ commands.GctxCreate guest frame → pages_of new.bays ≡ pages_committed command frame (pages_of old.bays)
    → contexts_of new.contexts guests ≡ launched_contexts guest command frame (pages_of new.bays) (contexts_of old.contexts guests)
    → shown ≡ record { deed = page_shown frame (pages_of old.bays frame); outcome = Some (outcomes.Firmware 0); lock = None }
    → commit_move (contents_of old guests) part command ≡ move_by shown (view_on new guests) (standing_by shown part.standing)
unfolding pages_committed pages_after contexts_after context_committed context_after root_after guest_of command_pages commit_deed
create_commits guests part command guest frame old new shown is pages_are contexts_are shown_is =
    let contexts = contexts_are ∙ ap (λ (c : Command). launched_contexts guest c frame (pages_of new.bays) (contexts_of old.contexts guests)) is in
    ap (commit_move (contents_of old guests) part) is ∙ shown_commits guests part (commands.GctxCreate guest frame) old new shown (pages_are ∙ ap (λ (c : Command). pages_committed c frame (pages_of old.bays)) is) contexts shown_is

pub update_commits : (guests : List GuestSpec) (part : ActorPart) (command : Command) (guest frame page_type : ℕ) (imi : Bool) (perms : List ℕ) (old new : Stock) (shown : Shown) → command ≡ commands.LaunchUpdate guest frame page_type imi perms → pages_of new.bays ≡ pages_committed command frame (pages_of old.bays)
    → contexts_of new.contexts guests ≡ launched_contexts guest command frame (pages_of new.bays) (contexts_of old.contexts guests)
    → shown ≡ record { deed = page_shown frame (pages_of old.bays frame); outcome = Some (outcomes.Firmware 0); lock = None }
    → commit_move (contents_of old guests) part command ≡ move_by shown (view_on new guests) (standing_by shown part.standing)
unfolding pages_committed pages_after contexts_after context_committed context_after launched_into root_after guest_of command_pages commit_deed
update_commits guests part command guest frame page_type imi perms old new shown is pages_are contexts_are shown_is =
    let contexts = contexts_are ∙ ap (λ (c : Command). launched_contexts guest c frame (pages_of new.bays) (contexts_of old.contexts guests)) is in
    ap (commit_move (contents_of old guests) part) is ∙ shown_commits guests part (commands.LaunchUpdate guest frame page_type imi perms) old new shown (pages_are ∙ ap (λ (c : Command). pages_committed c frame (pages_of old.bays)) is) contexts shown_is

pub activate_commits : (guests : List GuestSpec) (part : ActorPart) (command : Command) (guest asid : ℕ) (words : List ℕ) (old new : Stock) (shown : Shown) → command ≡ commands.Activate guest asid → new.bays ≡ old.bays
    → contexts_of new.contexts guests ≡ changed_contexts guest command words (contexts_of old.contexts guests)
    → shown ≡ record { deed = deeds.CommitContext guest; outcome = Some (outcomes.Firmware 0); lock = None }
    → commit_move (contents_of old guests) part command ≡ move_by shown (view_on new guests) (standing_by shown part.standing)
unfolding pages_after contexts_after context_committed context_after root_after guest_of commit_deed
activate_commits guests part command guest asid words old new shown is bays_are contexts_are shown_is =
    let contexts = contexts_are ∙ ap (λ (c : Command). changed_contexts guest c words (contexts_of old.contexts guests)) is in
    ap (commit_move (contents_of old guests) part) is ∙ shown_commits guests part (commands.Activate guest asid) old new shown (ap pages_of bays_are) contexts shown_is

pub start_commits : (guests : List GuestSpec) (part : ActorPart) (command : Command) (guest : ℕ) (words : List ℕ) (old new : Stock) (shown : Shown) → command ≡ commands.LaunchStart guest → new.bays ≡ old.bays
    → contexts_of new.contexts guests ≡ changed_contexts guest command words (contexts_of old.contexts guests)
    → shown ≡ record { deed = deeds.CommitContext guest; outcome = Some (outcomes.Firmware 0); lock = None }
    → commit_move (contents_of old guests) part command ≡ move_by shown (view_on new guests) (standing_by shown part.standing)
unfolding pages_after contexts_after context_committed context_after root_after guest_of commit_deed
start_commits guests part command guest words old new shown is bays_are contexts_are shown_is =
    let contexts = contexts_are ∙ ap (λ (c : Command). changed_contexts guest c words (contexts_of old.contexts guests)) is in
    ap (commit_move (contents_of old guests) part) is ∙ shown_commits guests part (commands.LaunchStart guest) old new shown (ap pages_of bays_are) contexts shown_is

pub finish_commits : (guests : List GuestSpec) (part : ActorPart) (command : Command) (guest : ℕ) (words : List ℕ) (old new : Stock) (shown : Shown) → command ≡ commands.LaunchFinish guest → new.bays ≡ old.bays
    → contexts_of new.contexts guests ≡ changed_contexts guest command words (contexts_of old.contexts guests)
    → shown ≡ record { deed = deeds.CommitContext guest; outcome = Some (outcomes.Firmware 0); lock = None }
    → commit_move (contents_of old guests) part command ≡ move_by shown (view_on new guests) (standing_by shown part.standing)
unfolding pages_after contexts_after context_committed context_after root_after guest_of commit_deed
finish_commits guests part command guest words old new shown is bays_are contexts_are shown_is =
    let contexts = contexts_are ∙ ap (λ (c : Command). changed_contexts guest c words (contexts_of old.contexts guests)) is in
    ap (commit_move (contents_of old guests) part) is ∙ shown_commits guests part (commands.LaunchFinish guest) old new shown (ap pages_of bays_are) contexts shown_is
