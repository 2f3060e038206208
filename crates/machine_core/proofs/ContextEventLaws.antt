-- What the event that locks the context of a command's guest shows and leaves.
use Rattle.std.proofs.Common.{◌≡◌, ℕ, ◌<◌, List, [], length, Option, Some, None, refl, sym, ap, ◌∙◌, subst, arith}
use Rattle.snp_model.specs.declared.command.Command.{Command}
use Rattle.snp_model.specs.declared.event.FwRefusal.{FwRefusal}
use Rattle.snp_model.specs.declared.scenario.GuestSpec.{GuestSpec}
use Rattle.snp_model.specs.FirmwareStep.{context_taken, take_context}
use Rattle.snp_model.specs.State.{ActorPart, PageLock, Standing, nothing_taken}
use Rattle.run_laws.specs.KeptLocks.{OwnsLocks, recontexted, relocked}
use Rattle.machine_core.specs.declared.shown.Shown.{Shown}
use Rattle.machine_core.specs.Bays.{Stock, contents_of, context_holders_of, contexts_of, holders_of, pages_of, view_on}
use Rattle.machine_core.specs.Commands.{context_refused, context_shown}
use Rattle.machine_core.specs.Moves.{MakesNoPage, context_by, locks_by, move_by, standing_by}
use Rattle.machine_core.proofs.HeldLaws.{holds_none}
use Rattle.machine_core.proofs.NamedLockLaws.{quiet_contents}
use Rattle.machine_core.proofs.RangeLaws.{relocked_none}

shown_by : (guests : List GuestSpec) (part : ActorPart) (guest : ℕ) (stock : Stock) (refusal : Option FwRefusal)
    → context_taken (contents_of stock guests) part guest refusal ≡ move_by (context_shown guest refusal) (view_on stock guests) (standing_by (context_shown guest refusal) part.standing)
unfolding context_taken
shown_by guests part guest stock None = refl
shown_by guests part guest stock (Some refusal) = refl

pub context_shows : (guests : List GuestSpec) (part : ActorPart) (command : Command) (guest : ℕ) (old new : Stock) (shown : Shown) → shown ≡ context_shown guest (context_refused guests command guest old) → new.bays ≡ old.bays
    → contexts_of new.contexts guests ≡ contexts_of old.contexts guests → take_context guests (view_on old guests) part command guest ≡ move_by shown (view_on new guests) (standing_by shown part.standing)
unfolding take_context
context_shows guests part command guest old new shown is bays contexts =
    let refusal = context_refused guests command guest old in
    shown_by guests part guest old refusal ∙ quiet_contents guests part old new (context_shown guest refusal) shown is (ap pages_of bays) contexts

-- it makes no page
pub context_made : (guest : ℕ) (refusal : Option FwRefusal) (shown : Shown) → shown ≡ context_shown guest refusal → MakesNoPage shown.lock
context_made guest None shown is = subst MakesNoPage (sym (ap (λ (s : Shown). s.lock) is)) tt
context_made guest (Some refusal) shown is = subst MakesNoPage (sym (ap (λ (s : Shown). s.lock) is)) tt

none_left : (guest : ℕ) (standing : Standing) (refusal : Option FwRefusal) → standing ≡ nothing_taken → locks_by (context_shown guest refusal) standing ≡ []
none_left guest standing None none = ap (λ (s : Standing). s.locks) none
none_left guest standing (Some refusal) none = refl

-- it takes no lock of a page
pub context_relocked : (actor : ℕ) (part : ActorPart) (guest : ℕ) (refusal : Option FwRefusal) (old new : Stock) (shown : Shown) → OwnsLocks actor part (holders_of old.bays) → part.standing ≡ nothing_taken → shown ≡ context_shown guest refusal → new.bays ≡ old.bays
    → holders_of new.bays ≡ relocked actor (locks_by shown part.standing) (holders_of old.bays)
context_relocked actor part guest refusal old new shown owns none is same =
    ap holders_of same
    ∙ sym (relocked_none actor (holders_of old.bays) (holds_none actor part old owns none))
    ∙ ap (λ (locks : List PageLock). relocked actor locks (holders_of old.bays)) (sym (ap (λ (s : Shown). locks_by s part.standing) is ∙ none_left guest part.standing refusal none))

-- and that of the context, where it isn't refused
pub context_recontexted : (actor : ℕ) (part : ActorPart) (old new : Stock) (shown : Shown) → part.standing ≡ nothing_taken → context_holders_of new.contexts ≡ recontexted actor (context_by shown nothing_taken) (context_holders_of old.contexts)
    → context_holders_of new.contexts ≡ recontexted actor (context_by shown part.standing) (context_holders_of old.contexts)
context_recontexted actor part old new shown none is = is ∙ ap (λ (s : Standing). recontexted actor (context_by shown s) (context_holders_of old.contexts)) (sym none)

pub few_yet : (standing : Standing) → standing ≡ nothing_taken → length standing.locks < 3
few_yet standing none = let count : length standing.locks ≡ 0 = ap (λ (s : Standing). length s.locks) none in omega arith
