-- What an event does to what was sealed: a guest's archive changes only while the actor has locked the guest's context, and the words that an actor seals are taken at its own compute.
use Rattle.std.proofs.Common.{◌≡◌, ◌≢◌, ℕ, ◌<◌, false, eqb, List, Option, Some, None, refl, sym, ap, ◌∙◌}
use Rattle.std.proofs.lemmas.Bool.{cond_both, eqb-true, true≢false}
use Rattle.snp_model.specs.declared.command.Command.{Command}
use Rattle.snp_model.specs.declared.command.Command.TheVariants as commands
use Rattle.snp_model.specs.declared.event.Deed.{Deed}
use Rattle.snp_model.specs.declared.event.Deed.TheVariants as deeds
use Rattle.snp_model.specs.declared.firmware.MetaEntry.{MetaEntry}
use Rattle.snp_model.specs.declared.item.Item.{Item}
use Rattle.snp_model.specs.declared.item.Item.TheVariants as items
use Rattle.snp_model.specs.Firmware.{guest_of}
use Rattle.snp_model.specs.FirmwareStep.{commit_deed}
use Rattle.snp_model.specs.Live.{Archived, Archive}
use Rattle.snp_model.specs.Locks.{locks_context}
use Rattle.snp_model.specs.Past.{Past, archived, with_sealing, past_sealed, past_made, past_computed, past_committed, sealing_in, past_with, past_after}
use Rattle.snp_model.specs.Sealing.{Sealing, SealOut, SealIn, sealing_of}
use Rattle.snp_model.specs.State.{Pages, Contents, Computed, ActorPart, State, part_of}
use Rattle.snp_model.specs.Step.{event_of, line_at}
use Rattle.run_laws.specs.MadePages.{IsMadeBy, AreMade}
use Rattle.run_laws.proofs.FirmwareLocked.{held_context}

-- what seals and opens nothing leaves the past
pub plain_past : (actor : ℕ) (before : Contents) (made : Option Computed) (deed : Deed) (item : Item) (past : Past) → sealing_in item ≡ None → past_with actor before made deed item past ≡ past
unfolding past_with past_computed past_committed
plain_past actor before made deeds.Begin item past none = refl
plain_past actor before made (deeds.Nested frame index value) item past none = refl
plain_past actor before made (deeds.Table gpn index frame value) item past none = refl
plain_past actor before made (deeds.Access gpn index frame private) item past none = refl
plain_past actor before made (deeds.Host frame index) item past none = refl
plain_past actor before made (deeds.Lock frame) item past none = refl
plain_past actor before made (deeds.LockContext guest) item past none = refl
plain_past actor before made deeds.Compute item past none = ap (λ (sealing : Option Sealing). past_computed actor before sealing past) none
plain_past actor before made (deeds.Commit frame gpn size) item past none = ap (λ (sealing : Option Sealing). past_committed actor made sealing past) none
plain_past actor before made (deeds.CommitContext guest) item past none = refl
plain_past actor before made deeds.Control item past none = refl

-- a compute leaves the archives
pub computed_archive : (actor : ℕ) (before : Contents) (sealing : Option Sealing) (past : Past) → (past_computed actor before sealing past).archive ≡ past.archive
unfolding past_computed
computed_archive actor before None past = refl
computed_archive actor before (Some (SealOut what guest source target slot)) past = refl
computed_archive actor before (Some (SealIn what guest source target slot)) past = refl

-- the past after the commit of a command
pub committed_past : (actor : ℕ) (before : Contents) (made : Option Computed) (command : Command) (pages left : Pages) (past : Past)
    → past_with actor before made (commit_deed command pages left) (items.Firmware command) past ≡ past_committed actor made (sealing_of command) past
unfolding past_with past_committed commit_deed sealing_of
committed_past actor before made (commands.GctxCreate guest frame) pages left past = refl
committed_past actor before made (commands.Activate guest asid) pages left past = refl
committed_past actor before made (commands.LaunchStart guest) pages left past = refl
committed_past actor before made (commands.LaunchUpdate guest frame page_type imi perms) pages left past = refl
committed_past actor before made (commands.LaunchFinish guest) pages left past = refl
committed_past actor before made (commands.MdInit frame) pages left past = refl
committed_past actor before made (commands.PageMove guest source target) pages left past = refl
committed_past actor before made (commands.SwapOut guest source target metadata entry) pages left past = refl
committed_past actor before made (commands.SwapIn guest source target metadata entry) pages left past = refl
committed_past actor before made (commands.Reclaim frame) pages left past = refl
committed_past actor before made (commands.MdOut guest source target metadata entry) pages left past = refl
committed_past actor before made (commands.MdIn guest source target metadata entry) pages left past = refl
committed_past actor before made (commands.MdRootOut guest source target) pages left past = refl
committed_past actor before made (commands.MdRootIn guest source target) pages left past = refl

-- nothing is archived for a guest at the commit of what was made of this sealing
abbrev IsNotArchived : ℕ → Option Computed → Option Sealing → Type 0
IsNotArchived g None sealing = Unit {0}
IsNotArchived g (Some made) None = Unit {0}
IsNotArchived g (Some made) (Some (SealOut what owner source target slot)) = g ≢ owner
IsNotArchived g (Some made) (Some (SealIn what owner source target slot)) = Unit {0}

archived_beside : (guest counter : ℕ) (words cipher : List ℕ) (archive : ℕ → Archive) (g k : ℕ) → g ≢ guest → archived guest counter words cipher archive g k ≡ archive g k
unfolding archived
archived_beside guest counter words cipher archive g k other =
    cond_both (eqb guest g) _ _ (λ (kept : Option Archived). kept ≡ archive g k) (λ same. absurd (other (sym (eqb-true guest g same)))) (λ _. refl)

sealed_beside : (actor guest g k : ℕ) (cipher : List ℕ) (entry : Option MetaEntry) (past : Past) → g ≢ guest → (past_sealed actor guest cipher entry past).archive g k ≡ past.archive g k
unfolding past_sealed
sealed_beside actor guest g k cipher None past other = refl
sealed_beside actor guest g k cipher (Some entry) past other = archived_beside guest entry.iv (past.sealing actor) cipher past.archive g k other

committed_beside : (actor g k : ℕ) (made : Option Computed) (sealing : Option Sealing) (past : Past) → IsNotArchived g made sealing → (past_committed actor made sealing past).archive g k ≡ past.archive g k
unfolding past_committed past_made
committed_beside actor g k None None past off = refl
committed_beside actor g k None (Some (SealOut what owner source target slot)) past off = refl
committed_beside actor g k None (Some (SealIn what owner source target slot)) past off = refl
committed_beside actor g k (Some made) None past off = refl
committed_beside actor g k (Some made) (Some (SealOut what owner source target slot)) past off = sealed_beside actor owner g k made.words made.entry past off
committed_beside actor g k (Some made) (Some (SealIn what owner source target slot)) past off = refl

with_beside : (actor g k : ℕ) (before : Contents) (made : Option Computed) (deed : Deed) (item : Item) (past : Past) → IsNotArchived g made (sealing_in item)
    → (past_with actor before made deed item past).archive g k ≡ past.archive g k
unfolding past_with
with_beside actor g k before made deeds.Begin item past off = refl
with_beside actor g k before made (deeds.Nested frame index value) item past off = refl
with_beside actor g k before made (deeds.Table gpn index frame value) item past off = refl
with_beside actor g k before made (deeds.Access gpn index frame private) item past off = refl
with_beside actor g k before made (deeds.Host frame index) item past off = refl
with_beside actor g k before made (deeds.Lock frame) item past off = refl
with_beside actor g k before made (deeds.LockContext guest) item past off = refl
with_beside actor g k before made deeds.Compute item past off = ap (λ (archive : ℕ → Archive). archive g k) (computed_archive actor before (sealing_in item) past)
with_beside actor g k before made (deeds.Commit frame gpn size) item past off = committed_beside actor g k made (sealing_in item) past off
with_beside actor g k before made (deeds.CommitContext guest) item past off = refl
with_beside actor g k before made deeds.Control item past off = refl

-- an actor that has made a page has locked the context of its owner
apart : (g owner : ℕ) (part : ActorPart) → part.standing.context_lock ≡ Some owner → locks_context g part ≡ false → g ≢ owner
apart g owner part locked free same = true≢false (sym (held_context part g (locked ∙ ap (λ (h : ℕ). Some h) (sym same))) ∙ free)

command_off : (g : ℕ) (part : ActorPart) (command : Command) (made : Computed) → part.standing.context_lock ≡ guest_of command → locks_context g part ≡ false → IsNotArchived g (Some made) (sealing_of command)
unfolding sealing_of guest_of
command_off g part (commands.GctxCreate guest frame) made locked free = tt
command_off g part (commands.Activate guest asid) made locked free = tt
command_off g part (commands.LaunchStart guest) made locked free = tt
command_off g part (commands.LaunchUpdate guest frame page_type imi perms) made locked free = tt
command_off g part (commands.LaunchFinish guest) made locked free = tt
command_off g part (commands.MdInit frame) made locked free = tt
command_off g part (commands.PageMove guest source target) made locked free = tt
command_off g part (commands.SwapOut guest source target metadata entry) made locked free = apart g guest part locked free
command_off g part (commands.SwapIn guest source target metadata entry) made locked free = tt
command_off g part (commands.Reclaim frame) made locked free = tt
command_off g part (commands.MdOut guest source target metadata entry) made locked free = apart g guest part locked free
command_off g part (commands.MdIn guest source target metadata entry) made locked free = tt
command_off g part (commands.MdRootOut guest source target) made locked free = apart g guest part locked free
command_off g part (commands.MdRootIn guest source target) made locked free = tt

item_off : (g : ℕ) (contents : Contents) (archive : Archive) (taken : List ℕ) (part : ActorPart) (item : Item) (made : Computed) → IsMadeBy g contents archive taken item part.standing made
    → locks_context g part ≡ false → IsNotArchived g (Some made) (sealing_in item)
item_off g contents archive taken part (items.Access address op) made is free = tt
item_off g contents archive taken part (items.Pvalidate address size validate) made is free = tt
item_off g contents archive taken part (items.Rmpadjust address size target mask vmsa) made is free = tt
item_off g contents archive taken part (items.Rmpupdate update) made is free = tt
item_off g contents archive taken part (items.Psmash frame) made is free = tt
item_off g contents archive taken part (items.Firmware command) made is free = command_off g part command made is.context free
item_off g contents archive taken part (items.Skip count test) made is free = tt

any_off : (g : ℕ) (contents : Contents) (archive : Archive) (taken : List ℕ) (part : ActorPart) (item : Item) (computed : Option Computed)
    → ((made : Computed) → computed ≡ Some made → IsMadeBy g contents archive taken item part.standing made) → locks_context g part ≡ false → IsNotArchived g computed (sealing_in item)
any_off g contents archive taken part item None is free = tt
any_off g contents archive taken part item (Some made) is free = item_off g contents archive taken part item made (is made refl) free

-- a guest's archive stays where the actor hasn't locked the guest's context
pub archive_kept : (g : ℕ) (m : State) (past : Past) (actor k : ℕ) → 0 < actor → AreMade g m past → locks_context g (part_of m actor) ≡ false → (past_after m actor past).archive g k ≡ past.archive g k
unfolding past_after
archive_kept g m past actor k some made free =
    let part = part_of m actor in
    let item = (line_at part.script part.item).item in
    with_beside actor g k m.contents part.standing.computed (event_of m actor).deed item past
    (any_off g m.contents (past.archive g) (past.sealing actor) part item part.standing.computed (λ one is. made actor one some is) free)

-- the words that an actor seals stay at the events of others
sealing_beside : (actor other : ℕ) (words : List ℕ) (sealing : ℕ → List ℕ) → other ≢ actor → with_sealing actor words sealing other ≡ sealing other
unfolding with_sealing
sealing_beside actor other words sealing off =
    cond_both (eqb actor other) _ _ (λ (found : List ℕ). found ≡ sealing other) (λ same. absurd (off (sym (eqb-true actor other same)))) (λ _. refl)

computed_beside : (actor other : ℕ) (before : Contents) (sealing : Option Sealing) (past : Past) → other ≢ actor → (past_computed actor before sealing past).sealing other ≡ past.sealing other
unfolding past_computed
computed_beside actor other before None past off = refl
computed_beside actor other before (Some (SealOut what guest source target slot)) past off = sealing_beside actor other (before.pages source).words past.sealing off
computed_beside actor other before (Some (SealIn what guest source target slot)) past off = refl

sealed_sealing : (actor guest : ℕ) (cipher : List ℕ) (entry : Option MetaEntry) (past : Past) → (past_sealed actor guest cipher entry past).sealing ≡ past.sealing
unfolding past_sealed
sealed_sealing actor guest cipher None past = refl
sealed_sealing actor guest cipher (Some entry) past = refl

committed_sealing : (actor : ℕ) (made : Option Computed) (sealing : Option Sealing) (past : Past) → (past_committed actor made sealing past).sealing ≡ past.sealing
unfolding past_committed past_made
committed_sealing actor made None past = refl
committed_sealing actor None (Some (SealOut what owner source target slot)) past = refl
committed_sealing actor (Some made) (Some (SealOut what owner source target slot)) past = sealed_sealing actor owner made.words made.entry past
committed_sealing actor made (Some (SealIn what owner source target slot)) past = refl

with_sealing_beside : (actor other : ℕ) (before : Contents) (made : Option Computed) (deed : Deed) (item : Item) (past : Past) → other ≢ actor
    → (past_with actor before made deed item past).sealing other ≡ past.sealing other
unfolding past_with
with_sealing_beside actor other before made deeds.Begin item past off = refl
with_sealing_beside actor other before made (deeds.Nested frame index value) item past off = refl
with_sealing_beside actor other before made (deeds.Table gpn index frame value) item past off = refl
with_sealing_beside actor other before made (deeds.Access gpn index frame private) item past off = refl
with_sealing_beside actor other before made (deeds.Host frame index) item past off = refl
with_sealing_beside actor other before made (deeds.Lock frame) item past off = refl
with_sealing_beside actor other before made (deeds.LockContext guest) item past off = refl
with_sealing_beside actor other before made deeds.Compute item past off = computed_beside actor other before (sealing_in item) past off
with_sealing_beside actor other before made (deeds.Commit frame gpn size) item past off = ap (λ (sealing : ℕ → List ℕ). sealing other) (committed_sealing actor made (sealing_in item) past)
with_sealing_beside actor other before made (deeds.CommitContext guest) item past off = refl
with_sealing_beside actor other before made deeds.Control item past off = refl

pub sealing_kept : (m : State) (past : Past) (actor other : ℕ) → other ≢ actor → (past_after m actor past).sealing other ≡ past.sealing other
unfolding past_after
sealing_kept m past actor other off =
    let part = part_of m actor in
    with_sealing_beside actor other m.contents part.standing.computed (event_of m actor).deed (line_at part.script part.item).item past off
