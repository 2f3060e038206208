-- The model's commits of page_move, page_reclaim and md_init, by what their functions show and leave.
use Rattle.std.proofs.Common.{◌≡◌, ℕ, List, None, Some, unwrap_or, sym, ap, ◌∙◌}
use Rattle.snp_model.specs.declared.command.Command.TheVariants as commands
use Rattle.snp_model.specs.declared.event.Outcome.TheVariants as outcomes
use Rattle.snp_model.specs.declared.scenario.GuestSpec.{GuestSpec}
use Rattle.snp_model.specs.Firmware.{guest_of}
use Rattle.snp_model.specs.FirmwareCommits.{at_frame, metadata_page, reclaimed_page}
use Rattle.snp_model.specs.FirmwareStep.{commit_deed, commit_move, contexts_after, first_lock, nothing_made, page_shown, pages_after, pages_moved, small_shown}
use Rattle.snp_model.specs.Locks.{over_lock, page_lock}
use Rattle.snp_model.specs.Moves.{Move}
use Rattle.snp_model.specs.State.{ActorPart, PageLock}
use Rattle.machine_core.specs.declared.shown.Shown.{Shown}
use Rattle.machine_core.specs.Bays.{Stock, contents_of, contexts_of, pages_of, view_on}
use Rattle.machine_core.specs.Moves.{move_by, standing_by}
use Rattle.machine_core.proofs.ReadyLaws.{move_leaves_contexts}

pub move_commits : (guests : List GuestSpec) (part : ActorPart) (guest source target : ℕ) (old new : Stock) (shown : Shown) → pages_of new.bays ≡ pages_moved source target (pages_of old.bays)
    → contexts_of new.contexts guests ≡ contexts_of old.contexts guests → shown ≡ record { deed = small_shown target (pages_of new.bays target).facts.gpn; outcome = Some (outcomes.Firmware 0); lock = None }
    → commit_move (contents_of old guests) part (commands.PageMove guest source target) ≡ move_by shown (view_on new guests) (standing_by shown part.standing)
unfolding commit_move pages_after commit_deed
move_commits guests part guest source target old new shown pages_are contexts_are shown_is =
    let made = unwrap_or part.standing.computed nothing_made in
    let contexts = move_leaves_contexts guest source target made (pages_moved source target (pages_of old.bays)) (contexts_of old.contexts guests) ∙ sym contexts_are in
    (λ i. let m : Move = record {
      deed = small_shown target (sym pages_are i target).facts.gpn;
      outcome = Some (outcomes.Firmware 0);
      contents = record { pages = sym pages_are i; contexts = contexts i };
      standing = part.standing;
    } in m)
    ∙ ap (λ (s : Shown). move_by s (view_on new guests) (standing_by s part.standing)) (sym shown_is)

pub reclaim_commits : (guests : List GuestSpec) (part : ActorPart) (frame : ℕ) (old new : Stock) (shown : Shown) → (let lock = page_lock (pages_of old.bays frame).facts.size frame in pages_of new.bays ≡ over_lock lock reclaimed_page (pages_of old.bays))
    → first_lock part.standing.locks frame ≡ page_lock (pages_of old.bays frame).facts.size frame → contexts_of new.contexts guests ≡ contexts_of old.contexts guests
    → shown ≡ record { deed = page_shown frame (pages_of old.bays frame); outcome = Some (outcomes.Firmware 0); lock = None }
    → commit_move (contents_of old guests) part (commands.Reclaim frame) ≡ move_by shown (view_on new guests) (standing_by shown part.standing)
unfolding commit_move pages_after commit_deed contexts_after guest_of
reclaim_commits guests part frame old new shown pages_are lock_is contexts_are shown_is =
    let pages = ap (λ (lock : PageLock). over_lock lock reclaimed_page (pages_of old.bays)) lock_is ∙ sym pages_are in
    (λ i. let m : Move = record {
      deed = page_shown frame (pages_of old.bays frame);
      outcome = Some (outcomes.Firmware 0);
      contents = record { pages = pages i; contexts = sym contexts_are i };
      standing = part.standing;
    } in m)
    ∙ ap (λ (s : Shown). move_by s (view_on new guests) (standing_by s part.standing)) (sym shown_is)

pub metadata_commits : (guests : List GuestSpec) (part : ActorPart) (frame : ℕ) (old new : Stock) (shown : Shown) → pages_of new.bays ≡ at_frame frame (metadata_page (pages_of old.bays frame)) (pages_of old.bays)
    → contexts_of new.contexts guests ≡ contexts_of old.contexts guests → shown ≡ record { deed = page_shown frame (pages_of old.bays frame); outcome = Some (outcomes.Firmware 0); lock = None }
    → commit_move (contents_of old guests) part (commands.MdInit frame) ≡ move_by shown (view_on new guests) (standing_by shown part.standing)
unfolding commit_move pages_after commit_deed contexts_after guest_of
metadata_commits guests part frame old new shown pages_are contexts_are shown_is =
    (λ i. let m : Move = record {
      deed = page_shown frame (pages_of old.bays frame);
      outcome = Some (outcomes.Firmware 0);
      contents = record { pages = sym pages_are i; contexts = sym contexts_are i };
      standing = part.standing;
    } in m)
    ∙ ap (λ (s : Shown). move_by s (view_on new guests) (standing_by s part.standing)) (sym shown_is)
