-- The model's commit of a command that seals or opens a page, by what its functions show and leave.
use Rattle.std.proofs.Common.{◌≡◌, ℕ, List, Option, Some, None, unwrap_or, sym, ap, ◌∙◌, subst}
use Rattle.fw_launch.specs.Commits.{HasPassed}
use Rattle.snp_model.specs.declared.command.Command.{Command}
use Rattle.snp_model.specs.declared.command.Command.TheVariants as commands
use Rattle.snp_model.specs.declared.event.Deed.{Deed}
use Rattle.snp_model.specs.declared.event.Outcome.TheVariants as outcomes
use Rattle.snp_model.specs.declared.scenario.GuestSpec.{GuestSpec}
use Rattle.snp_model.specs.Firmware.{guest_of}
use Rattle.snp_model.specs.FirmwareStep.{commit_deed, commit_move, contexts_after, nothing_made, pages_after}
use Rattle.snp_model.specs.Sealing.{Sealing, sealing_of}
use Rattle.snp_model.specs.State.{ActorPart, Computed, PageLock, Pages}
use Rattle.run_laws.proofs.CommandTests.{same_some}
use Rattle.machine_core.specs.declared.shown.Shown.{Shown}
use Rattle.machine_core.specs.Bays.{GuestContexts, Stock, contents_of, contexts_of, pages_of, view_on}
use Rattle.machine_core.specs.Moves.{move_by, standing_by}
use Rattle.machine_core.specs.Swaps.{swap_deed, swapped_pages}
use Rattle.machine_core.proofs.GuestCommitLaws.{shown_commits}

-- pages after it
pages_swapped : (command : Command) (sealing : Sealing) (locks : List PageLock) (made : Computed) (pages : Pages) → sealing_of command ≡ Some sealing → swapped_pages sealing made pages ≡ pages_after command locks made pages
unfolding sealing_of pages_after
pages_swapped (commands.GctxCreate guest frame) sealing locks made pages seals = absurd cc
pages_swapped (commands.Activate guest asid) sealing locks made pages seals = absurd cc
pages_swapped (commands.LaunchStart guest) sealing locks made pages seals = absurd cc
pages_swapped (commands.LaunchUpdate guest frame page_type imi perms) sealing locks made pages seals = absurd cc
pages_swapped (commands.LaunchFinish guest) sealing locks made pages seals = absurd cc
pages_swapped (commands.MdInit frame) sealing locks made pages seals = absurd cc
pages_swapped (commands.PageMove guest source target) sealing locks made pages seals = absurd cc
pages_swapped (commands.SwapOut guest source target metadata entry) sealing locks made pages seals = ap (λ (s : Sealing). swapped_pages s made pages) (sym (same_some _ sealing seals))
pages_swapped (commands.SwapIn guest source target metadata entry) sealing locks made pages seals = ap (λ (s : Sealing). swapped_pages s made pages) (sym (same_some _ sealing seals))
pages_swapped (commands.Reclaim frame) sealing locks made pages seals = absurd cc
pages_swapped (commands.MdOut guest source target metadata entry) sealing locks made pages seals = ap (λ (s : Sealing). swapped_pages s made pages) (sym (same_some _ sealing seals))
pages_swapped (commands.MdIn guest source target metadata entry) sealing locks made pages seals = ap (λ (s : Sealing). swapped_pages s made pages) (sym (same_some _ sealing seals))
pages_swapped (commands.MdRootOut guest source target) sealing locks made pages seals = ap (λ (s : Sealing). swapped_pages s made pages) (sym (same_some _ sealing seals))
pages_swapped (commands.MdRootIn guest source target) sealing locks made pages seals = ap (λ (s : Sealing). swapped_pages s made pages) (sym (same_some _ sealing seals))

-- and what it shows
deed_swapped : (command : Command) (sealing : Sealing) (before left : Pages) → sealing_of command ≡ Some sealing → swap_deed sealing before left ≡ commit_deed command before left
unfolding sealing_of commit_deed
deed_swapped (commands.GctxCreate guest frame) sealing before left seals = absurd cc
deed_swapped (commands.Activate guest asid) sealing before left seals = absurd cc
deed_swapped (commands.LaunchStart guest) sealing before left seals = absurd cc
deed_swapped (commands.LaunchUpdate guest frame page_type imi perms) sealing before left seals = absurd cc
deed_swapped (commands.LaunchFinish guest) sealing before left seals = absurd cc
deed_swapped (commands.MdInit frame) sealing before left seals = absurd cc
deed_swapped (commands.PageMove guest source target) sealing before left seals = absurd cc
deed_swapped (commands.SwapOut guest source target metadata entry) sealing before left seals = ap (λ (s : Sealing). swap_deed s before left) (sym (same_some _ sealing seals))
deed_swapped (commands.SwapIn guest source target metadata entry) sealing before left seals = ap (λ (s : Sealing). swap_deed s before left) (sym (same_some _ sealing seals))
deed_swapped (commands.Reclaim frame) sealing before left seals = absurd cc
deed_swapped (commands.MdOut guest source target metadata entry) sealing before left seals = ap (λ (s : Sealing). swap_deed s before left) (sym (same_some _ sealing seals))
deed_swapped (commands.MdIn guest source target metadata entry) sealing before left seals = ap (λ (s : Sealing). swap_deed s before left) (sym (same_some _ sealing seals))
deed_swapped (commands.MdRootOut guest source target) sealing before left seals = ap (λ (s : Sealing). swap_deed s before left) (sym (same_some _ sealing seals))
deed_swapped (commands.MdRootIn guest source target) sealing before left seals = ap (λ (s : Sealing). swap_deed s before left) (sym (same_some _ sealing seals))

pub swap_commits : (guests : List GuestSpec) (part : ActorPart) (command : Command) (sealing : Sealing) (guest : ℕ) (made : Computed) (old mid new : Stock) (shown : Shown) → sealing_of command ≡ Some sealing → guest_of command ≡ Some guest
    → part.standing.computed ≡ Some made → pages_of mid.bays ≡ swapped_pages sealing made (pages_of old.bays) → mid.contexts ≡ old.contexts → new.bays ≡ mid.bays
    → contexts_of new.contexts guests ≡ contexts_after (Some guest) command made (pages_of new.bays) (contexts_of mid.contexts guests)
    → shown ≡ record { deed = swap_deed sealing (pages_of old.bays) (pages_of mid.bays); outcome = Some (outcomes.Firmware 0); lock = None }
    → commit_move (contents_of old guests) part command ≡ move_by shown (view_on new guests) (standing_by shown part.standing)
swap_commits guests part command sealing guest made old mid new shown seals named computed pages contexts bays left shown_is =
    let all = unwrap_or part.standing.computed nothing_made in
    let made_is : made ≡ all = sym (ap (λ (o : Option Computed). unwrap_or o nothing_made) computed) in
    let same : pages_of new.bays ≡ pages_of mid.bays = ap pages_of bays in
    shown_commits guests part command old new shown
    (same ∙ pages ∙ ap (λ (m : Computed). swapped_pages sealing m (pages_of old.bays)) made_is ∙ pages_swapped command sealing part.standing.locks all (pages_of old.bays) seals)
    (left ∙ (λ i. contexts_after (sym named i) command (made_is i) (pages_of new.bays) (contexts_of (contexts i) guests)))
    (shown_is ∙ (λ i. let s : Shown = record { deed = swap_deed sealing (pages_of old.bays) (sym same i); outcome = Some (outcomes.Firmware 0); lock = None } in s)
    ∙ ap (λ (d : Deed). let s : Shown = record { deed = d; outcome = Some (outcomes.Firmware 0); lock = None } in s) (deed_swapped command sealing (pages_of old.bays) (pages_of new.bays) seals))

-- what its context was tested for holds still
abbrev pub PassedIn : Command → ℕ → GuestContexts → Type 0
PassedIn command guest contexts = (guests : List GuestSpec) × HasPassed command (contexts_of contexts guests guest)

pub still_passed : (command : Command) (guest : ℕ) (one other : GuestContexts) → other ≡ one → PassedIn command guest one → PassedIn command guest other
still_passed command guest one other same passed = subst (PassedIn command guest) (sym same) passed
