-- The commits of the launch commands by their kind: those that change the context of their guest alone, and those that make or launch a page.
use Rattle.std.proofs.Common.{◌≡◌, ◌⊎◌, ℕ, ◌<◌, ◌^◌, Bool, List, length, slice_get, None, Some, ap, ⊎_elim}
use Rattle.fw_launch.specs.Commits.{pages_committed}
use Rattle.snp_model.specs.declared.command.Command.{Command}
use Rattle.snp_model.specs.declared.command.Command.TheVariants as commands
use Rattle.snp_model.specs.declared.event.Deed.TheVariants as deeds
use Rattle.snp_model.specs.declared.event.Outcome.TheVariants as outcomes
use Rattle.snp_model.specs.declared.firmware.Part.TheVariants.{Target}
use Rattle.snp_model.specs.declared.scenario.GuestSpec.{GuestSpec}
use Rattle.snp_model.specs.Firmware.{guest_of, pages_of as command_pages}
use Rattle.snp_model.specs.FirmwareStep.{commit_move, page_shown}
use Rattle.snp_model.specs.State.{ActorPart}
use Rattle.machine_core.specs.declared.shown.Shown.{Shown}
use Rattle.machine_core.specs.Bays.{HasFrame, Stock, contents_of, contexts_of, pages_of, view_on}
use Rattle.machine_core.specs.Commits.{MayCommit}
use Rattle.machine_core.specs.Moves.{move_by, standing_by}
use Rattle.machine_core.proofs.CommitLaws.{ready}
use Rattle.machine_core.proofs.GuestCommitLaws.{MayChangeGuest, MayLaunch, activate_commits, changed_contexts, create_commits, create_ready, finish_commits, guest_ready, launched_contexts, start_commits, update_commits, update_ready}
use Rattle.machine_core.proofs.PhaseLaws.{frame_has}

-- Those that change the context alone

abbrev pub ChangesGuest : Command → ℕ → Type 0
ChangesGuest command guest = ((asid : ℕ) × (command ≡ commands.Activate guest asid)) ⊎ ((command ≡ commands.LaunchStart guest) ⊎ (command ≡ commands.LaunchFinish guest))

by_change : (command : Command) (guest : ℕ) (P : Type 0) → ((asid : ℕ) → command ≡ commands.Activate guest asid → P) → (command ≡ commands.LaunchStart guest → P) → (command ≡ commands.LaunchFinish guest → P) → ChangesGuest command guest → P
by_change command guest P activates starts finishes kind = ⊎_elim (λ (is : (asid : ℕ) × (command ≡ commands.Activate guest asid)). activates is.0 is.1) (⊎_elim starts finishes) kind

pub change_names : (command : Command) (guest : ℕ) → ChangesGuest command guest → guest_of command ≡ Some guest
unfolding guest_of
change_names command guest kind = by_change command guest (guest_of command ≡ Some guest) (λ asid is. ap guest_of is) (ap guest_of) (ap guest_of) kind

pub change_pageless : (command : Command) (guest : ℕ) → ChangesGuest command guest → length (command_pages command) ≡ 0
unfolding command_pages
change_pageless command guest kind =
    let count = λ (c : Command). length (command_pages c) in
    by_change command guest (length (command_pages command) ≡ 0) (λ asid is. ap count is) (ap count) (ap count) kind

pub may_change : (frames : ℕ) (guests : List GuestSpec) (actor guest : ℕ) (command : Command) (part : ActorPart) (stock : Stock) → ChangesGuest command guest → MayCommit frames guests actor command part stock → MayChangeGuest actor guest command stock
may_change frames guests actor guest command part stock kind may =
    guest_ready frames guests actor guest command part stock may.owns_context (ready frames guests actor command part stock may) (may.held guest (change_names command guest kind))

pub change_commits : (guests : List GuestSpec) (part : ActorPart) (command : Command) (guest : ℕ) (words : List ℕ) (old new : Stock) (shown : Shown) → ChangesGuest command guest → new.bays ≡ old.bays
    → contexts_of new.contexts guests ≡ changed_contexts guest command words (contexts_of old.contexts guests)
    → shown ≡ record { deed = deeds.CommitContext guest; outcome = Some (outcomes.Firmware 0); lock = None }
    → commit_move (contents_of old guests) part command ≡ move_by shown (view_on new guests) (standing_by shown part.standing)
change_commits guests part command guest words old new shown kind bays contexts shown_is =
    by_change command guest (commit_move (contents_of old guests) part command ≡ move_by shown (view_on new guests) (standing_by shown part.standing))
    (λ asid is. activate_commits guests part command guest asid words old new shown is bays contexts shown_is)
    (λ is. start_commits guests part command guest words old new shown is bays contexts shown_is)
    (λ is. finish_commits guests part command guest words old new shown is bays contexts shown_is)
    kind

-- Those that make or launch a page

abbrev pub Launches : Command → ℕ → ℕ → Type 0
Launches command guest frame =
    (command ≡ commands.GctxCreate guest frame) ⊎ ((page_type : ℕ) × (imi : Bool) × (perms : List ℕ) × (command ≡ commands.LaunchUpdate guest frame page_type imi perms))

by_launch : (command : Command) (guest frame : ℕ) (P : Type 0) → (command ≡ commands.GctxCreate guest frame → P) → ((page_type : ℕ) (imi : Bool) (perms : List ℕ) → command ≡ commands.LaunchUpdate guest frame page_type imi perms → P)
    → Launches command guest frame → P
by_launch command guest frame P creates updates kind =
    ⊎_elim creates (λ (is : (page_type : ℕ) × (imi : Bool) × (perms : List ℕ) × (command ≡ commands.LaunchUpdate guest frame page_type imi perms)). updates is.0 is.1 is.2 is.3) kind

pub launch_names : (command : Command) (guest frame : ℕ) → Launches command guest frame → guest_of command ≡ Some guest
unfolding guest_of
launch_names command guest frame kind = by_launch command guest frame (guest_of command ≡ Some guest) (ap guest_of) (λ page_type imi perms is. ap guest_of is) kind

launch_page : (command : Command) (guest frame : ℕ) → Launches command guest frame → slice_get (command_pages command) 0 ≡ Some (record { part = Target; frame = frame })
unfolding command_pages
launch_page command guest frame kind =
    let first = λ (c : Command). slice_get (command_pages c) 0 in
    by_launch command guest frame (first command ≡ Some (record { part = Target; frame = frame })) (ap first) (λ page_type imi perms is. ap first is) kind

pub launch_has : (frames : ℕ) (guests : List GuestSpec) (actor guest frame : ℕ) (command : Command) (part : ActorPart) (stock : Stock) → Launches command guest frame → MayCommit frames guests actor command part stock → HasFrame stock frame
launch_has frames guests actor guest frame command part stock kind may = frame_has part.standing command 0 (record { part = Target; frame = frame }) stock may.has (launch_page command guest frame kind)

pub may_launch : (frames : ℕ) (guests : List GuestSpec) (actor guest frame : ℕ) (command : Command) (part : ActorPart) (stock : Stock) → frames < 2 ^ 32 → Launches command guest frame → MayCommit frames guests actor command part stock
    → MayLaunch actor guest frame command stock
may_launch frames guests actor guest frame command part stock few kind may =
    let is_ready = ready frames guests actor command part stock may in
    let held = may.held guest (launch_names command guest frame kind) in
    by_launch command guest frame (MayLaunch actor guest frame command stock)
    (λ is. create_ready frames guests actor guest frame command part stock is few may.owns may.owns_context is_ready held)
    (λ page_type imi perms is. update_ready frames guests actor guest frame page_type imi perms command part stock is few may.owns may.owns_context is_ready held)
    kind

pub launch_commits : (guests : List GuestSpec) (part : ActorPart) (command : Command) (guest frame : ℕ) (old new : Stock) (shown : Shown) → Launches command guest frame → pages_of new.bays ≡ pages_committed command frame (pages_of old.bays)
    → contexts_of new.contexts guests ≡ launched_contexts guest command frame (pages_of new.bays) (contexts_of old.contexts guests)
    → shown ≡ record { deed = page_shown frame (pages_of old.bays frame); outcome = Some (outcomes.Firmware 0); lock = None }
    → commit_move (contents_of old guests) part command ≡ move_by shown (view_on new guests) (standing_by shown part.standing)
launch_commits guests part command guest frame old new shown kind pages contexts shown_is =
    by_launch command guest frame (commit_move (contents_of old guests) part command ≡ move_by shown (view_on new guests) (standing_by shown part.standing))
    (λ is. create_commits guests part command guest frame old new shown is pages contexts shown_is)
    (λ page_type imi perms is. update_commits guests part command guest frame page_type imi perms old new shown is pages contexts shown_is)
    kind
