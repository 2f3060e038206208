-- Each event of a command that seals or opens a page keeps what ties a guest's pages to their holders, with the past brought on, and does nothing with the guest's memory.
use Rattle.std.proofs.Common.{◌≡◌, ℕ, ◌<◌, IfSome, List, Option, Some, None, unwrap_or, Result, Ok, Err, refl, sym, ap, ◌∙◌, subst}
use Rattle.snp_model.specs.declared.command.Command.{Command}
use Rattle.snp_model.specs.declared.command.Command.TheVariants as commands
use Rattle.snp_model.specs.declared.entry.PageSize.TheVariants.{Small}
use Rattle.snp_model.specs.declared.event.Deed.{Deed}
use Rattle.snp_model.specs.declared.event.Deed.TheVariants as deeds
use Rattle.snp_model.specs.declared.event.FwRefusal.{FwRefusal}
use Rattle.snp_model.specs.declared.event.Outcome.{Outcome}
use Rattle.snp_model.specs.declared.event.Outcome.TheVariants as outcomes
use Rattle.snp_model.specs.declared.item.Item.{Item}
use Rattle.snp_model.specs.declared.item.Item.TheVariants as items
use Rattle.snp_model.specs.declared.scenario.GuestSpec.{GuestSpec}
use Rattle.snp_model.specs.declared.scenario.Role.{Role}
use Rattle.snp_model.specs.declared.scenario.Role.TheVariants.{Firmware}
use Rattle.snp_model.specs.Firmware.{entry_of, success}
use Rattle.snp_model.specs.FirmwareStep.{nothing_made, commit_deed, context_taken, computed_move, commit_move}
use Rattle.snp_model.specs.GuestMemory.{Memory, Use, Untouched, firmware_use, use_for, IsLegalUse, used}
use Rattle.snp_model.specs.Live.{Archive, vault_of}
use Rattle.snp_model.specs.Moves.{Move, lock_move}
use Rattle.snp_model.specs.Opening.{asid_of}
use Rattle.snp_model.specs.Past.{Past, past_computed, past_committed, past_with}
use Rattle.snp_model.specs.Sealing.{Sealing, SealOut, SealIn, sealing_of, compute_of}
use Rattle.snp_model.specs.State.{Pages, PageLock, Contents, Computed, ActorPart, View}
use Rattle.snp_model.specs.Step.{item_move}
use Rattle.run_laws.specs.HeldLocks.{AreCommandLocks}
use Rattle.run_laws.specs.MadePages.{IsMade}
use Rattle.run_laws.specs.Operands.{AreCommandOperands}
use Rattle.run_laws.proofs.CommandStages.{HasMade, IsCommitting, by_stage}
use Rattle.run_laws.proofs.SealingCommits.{BeforeCommit, contents_after, sealing_commit}
use Rattle.run_laws.proofs.SealOutCommit.{Ties}

-- what an event of an item leaves: a guest's pages are tied to their holders, with the past brought on, and the event finds in the guest's memory what it needs
pub record IsDone (g asid actor : ℕ) (past : Past) (memory : Memory) (before : Contents) (computed : Option Computed) (role : Role) (item : Item) (move : Move) : Type 0 where
  pub ties : Ties asid (vault_of g move.contents ((past_with actor before computed move.deed item past).archive g)) (used (use_for g move.contents role move.deed item move.outcome) memory)
  pub legal : IsLegalUse memory (use_for g move.contents role move.deed item move.outcome)

-- locks change neither contents nor past
taken_done : (g asid actor : ℕ) (past : Past) (memory : Memory) (contents : Contents) (part : ActorPart) (command : Command) (owner : ℕ) (refusal : Option FwRefusal)
    → Ties asid (vault_of g contents (past.archive g)) memory
    → IsDone g asid actor past memory contents part.standing.computed Firmware (items.Firmware command) (context_taken contents part owner refusal)
unfolding context_taken past_with use_for firmware_use used
taken_done g asid actor past memory contents part command owner None ties = record { ties = ties; legal = tt }
taken_done g asid actor past memory contents part command owner (Some refusal) ties = record { ties = ties; legal = tt }

lock_done : (g asid actor : ℕ) (past : Past) (memory : Memory) (contents : Contents) (part : ActorPart) (command : Command) (lock : PageLock) (refusal : Option Outcome)
    → Ties asid (vault_of g contents (past.archive g)) memory
    → IsDone g asid actor past memory contents part.standing.computed Firmware (items.Firmware command) (lock_move contents part lock refusal)
unfolding lock_move past_with use_for firmware_use used
lock_done g asid actor past memory contents part command lock None ties = record { ties = ties; legal = tt }
lock_done g asid actor past memory contents part command lock (Some outcome) ties = record { ties = ties; legal = tt }

-- a compute takes the words of its source, and archives nothing
computed_archive : (actor : ℕ) (before : Contents) (sealing : Option Sealing) (past : Past) → (past_computed actor before sealing past).archive ≡ past.archive
unfolding past_computed
computed_archive actor before None past = refl
computed_archive actor before (Some (SealOut what guest source target slot)) past = refl
computed_archive actor before (Some (SealIn what guest source target slot)) past = refl

computed_ties : (g asid actor : ℕ) (past : Past) (memory : Memory) (contents : Contents) (sealing : Option Sealing) → Ties asid (vault_of g contents (past.archive g)) memory
    → Ties asid (vault_of g contents ((past_computed actor contents sealing past).archive g)) memory
computed_ties g asid actor past memory contents sealing ties =
    subst (λ (archive : ℕ → Archive). Ties asid (vault_of g contents (archive g)) memory) (sym (computed_archive actor contents sealing past)) ties

computed_done : (g asid actor : ℕ) (past : Past) (memory : Memory) (contents : Contents) (part : ActorPart) (command : Command) (result : Result Computed FwRefusal)
    → Ties asid (vault_of g contents (past.archive g)) memory
    → IsDone g asid actor past memory contents part.standing.computed Firmware (items.Firmware command) (computed_move contents part result)
unfolding computed_move past_with use_for firmware_use used
computed_done g asid actor past memory contents part command (Ok made) ties = record { ties = computed_ties g asid actor past memory contents (sealing_of command) ties; legal = tt }
computed_done g asid actor past memory contents part command (Err refusal) ties = record { ties = computed_ties g asid actor past memory contents (sealing_of command) ties; legal = tt }

-- the commit shows a frame, whose past is that of a commit, and does nothing with the guest's memory
abbrev IsShown : Deed → Type 0
IsShown deed = (frame : ℕ) × (gpn : ℕ) × (deed ≡ deeds.Commit frame gpn Small)

none_some : (sealing : Sealing) → None ≡ Some sealing → ⊥
none_some sealing e = cc

sealing_deed : (command : Command) (sealing : Sealing) (before left : Pages) → sealing_of command ≡ Some sealing → IsShown (commit_deed command before left)
unfolding sealing_of commit_deed
sealing_deed (commands.GctxCreate guest frame) sealing before left is = absurd (none_some sealing is)
sealing_deed (commands.Activate guest asid) sealing before left is = absurd (none_some sealing is)
sealing_deed (commands.LaunchStart guest) sealing before left is = absurd (none_some sealing is)
sealing_deed (commands.LaunchUpdate guest frame page_type imi perms) sealing before left is = absurd (none_some sealing is)
sealing_deed (commands.LaunchFinish guest) sealing before left is = absurd (none_some sealing is)
sealing_deed (commands.MdInit frame) sealing before left is = absurd (none_some sealing is)
sealing_deed (commands.PageMove guest source target) sealing before left is = absurd (none_some sealing is)
sealing_deed (commands.SwapOut guest source target metadata entry) sealing before left is = (source, (before source).facts.gpn, refl)
sealing_deed (commands.SwapIn guest source target metadata entry) sealing before left is = (target, (left target).facts.gpn, refl)
sealing_deed (commands.Reclaim frame) sealing before left is = absurd (none_some sealing is)
sealing_deed (commands.MdOut guest source target metadata entry) sealing before left is = (source, 0, refl)
sealing_deed (commands.MdIn guest source target metadata entry) sealing before left is = (target, 0, refl)
sealing_deed (commands.MdRootOut guest source target) sealing before left is = (source, 0, refl)
sealing_deed (commands.MdRootIn guest source target) sealing before left is = (target, 0, refl)

sealing_use : (g : ℕ) (left : Contents) (command : Command) (sealing : Sealing) (frame gpn : ℕ) → sealing_of command ≡ Some sealing
    → use_for g left Firmware (deeds.Commit frame gpn Small) (items.Firmware command) (Some (outcomes.Firmware success)) ≡ Untouched
unfolding sealing_of use_for firmware_use
sealing_use g left (commands.GctxCreate guest page) sealing frame gpn is = absurd (none_some sealing is)
sealing_use g left (commands.Activate guest asid) sealing frame gpn is = absurd (none_some sealing is)
sealing_use g left (commands.LaunchStart guest) sealing frame gpn is = absurd (none_some sealing is)
sealing_use g left (commands.LaunchUpdate guest page page_type imi perms) sealing frame gpn is = absurd (none_some sealing is)
sealing_use g left (commands.LaunchFinish guest) sealing frame gpn is = absurd (none_some sealing is)
sealing_use g left (commands.MdInit page) sealing frame gpn is = absurd (none_some sealing is)
sealing_use g left (commands.PageMove guest source target) sealing frame gpn is = absurd (none_some sealing is)
sealing_use g left (commands.SwapOut guest source target metadata entry) sealing frame gpn is = refl
sealing_use g left (commands.SwapIn guest source target metadata entry) sealing frame gpn is = refl
sealing_use g left (commands.Reclaim page) sealing frame gpn is = absurd (none_some sealing is)
sealing_use g left (commands.MdOut guest source target metadata entry) sealing frame gpn is = refl
sealing_use g left (commands.MdIn guest source target metadata entry) sealing frame gpn is = refl
sealing_use g left (commands.MdRootOut guest source target) sealing frame gpn is = refl
sealing_use g left (commands.MdRootIn guest source target) sealing frame gpn is = refl

shown_past : (actor : ℕ) (before : Contents) (computed : Option Computed) (deed : Deed) (command : Command) (past : Past) → IsShown deed
    → past_with actor before computed deed (items.Firmware command) past ≡ past_committed actor computed (sealing_of command) past
unfolding past_with
shown_past actor before computed deed command past shown = ap (λ (d : Deed). past_with actor before computed d (items.Firmware command) past) shown.2

shown_use : (g : ℕ) (left : Contents) (command : Command) (sealing : Sealing) (deed : Deed) → sealing_of command ≡ Some sealing → IsShown deed
    → use_for g left Firmware deed (items.Firmware command) (Some (outcomes.Firmware success)) ≡ Untouched
shown_use g left command sealing deed is shown =
    ap (λ (d : Deed). use_for g left Firmware d (items.Firmware command) (Some (outcomes.Firmware success))) shown.2 ∙ sealing_use g left command sealing shown.0 shown.1 is

-- what the commit archives
one_made : (found : Option Sealing) (computed : Option Computed) (sealing : Sealing) → found ≡ Some sealing → HasMade found computed → (made : Computed) × (computed ≡ Some made)
one_made None computed sealing is has = absurd (none_some sealing is)
one_made (Some other) None sealing is has = absurd has
one_made (Some other) (Some made) sealing is has = (made, refl)

-- the entry that a command names is one of 64
pub named_entry : (command : Command) → AreCommandOperands command → IfSome (entry_of command) (λ (n : ℕ). n < 64)
unfolding entry_of
named_entry (commands.GctxCreate guest frame) operands = tt
named_entry (commands.Activate guest asid) operands = tt
named_entry (commands.LaunchStart guest) operands = tt
named_entry (commands.LaunchUpdate guest frame page_type imi perms) operands = tt
named_entry (commands.LaunchFinish guest) operands = tt
named_entry (commands.MdInit frame) operands = tt
named_entry (commands.PageMove guest source target) operands = tt
named_entry (commands.SwapOut guest source target metadata entry) operands = operands
named_entry (commands.SwapIn guest source target metadata entry) operands = operands
named_entry (commands.Reclaim frame) operands = tt
named_entry (commands.MdOut guest source target metadata entry) operands = operands
named_entry (commands.MdIn guest source target metadata entry) operands = operands
named_entry (commands.MdRootOut guest source target) operands = tt
named_entry (commands.MdRootIn guest source target) operands = tt

committed_ties : (frames : ℕ) (guests : List GuestSpec) (g actor : ℕ) (past : Past) (memory : Memory) (contents : Contents) (part : ActorPart) (command : Command) (sealing : Sealing) → sealing_of command ≡ Some sealing
    → BeforeCommit guests g contents (past.archive g) memory → AreCommandOperands command → IsCommitting frames guests contents command part.standing
    → ((made : Computed) → part.standing.computed ≡ Some made → IsMade g contents (past.archive g) (past.sealing actor) command part.standing made)
    → Ties (asid_of guests g) (vault_of g (contents_after command part.standing.locks (unwrap_or part.standing.computed nothing_made) contents) ((past_committed actor part.standing.computed (sealing_of command) past).archive g)) memory
committed_ties frames guests g actor past memory contents part command sealing is before operands stage made =
    let one = one_made (sealing_of command) part.standing.computed sealing is stage.made in
    subst (λ (computed : Option Computed).
    Ties (asid_of guests g) (vault_of g (contents_after command part.standing.locks (unwrap_or computed nothing_made) contents) ((past_committed actor computed (sealing_of command) past).archive g)) memory)
    (sym one.1)
    (sealing_commit frames guests g contents past memory actor command part.standing one.0 before stage.ready.tested (named_entry command operands) (made one.0 one.1))

commit_done : (frames : ℕ) (guests : List GuestSpec) (g actor : ℕ) (past : Past) (memory : Memory) (contents : Contents) (part : ActorPart) (command : Command) (sealing : Sealing) → sealing_of command ≡ Some sealing
    → BeforeCommit guests g contents (past.archive g) memory → AreCommandOperands command → IsCommitting frames guests contents command part.standing
    → ((made : Computed) → part.standing.computed ≡ Some made → IsMade g contents (past.archive g) (past.sealing actor) command part.standing made)
    → IsDone g (asid_of guests g) actor past memory contents part.standing.computed Firmware (items.Firmware command) (commit_move contents part command)
unfolding commit_move used
commit_done frames guests g actor past memory contents part command sealing is before operands stage made =
    let computed = part.standing.computed in
    let left = contents_after command part.standing.locks (unwrap_or computed nothing_made) contents in
    let deed = commit_deed command contents.pages left.pages in
    let shown = sealing_deed command sealing contents.pages left.pages is in
    let past_is = shown_past actor contents computed deed command past shown in
    let use_is = shown_use g left command sealing deed is shown in
    let ties = committed_ties frames guests g actor past memory contents part command sealing is before operands stage made in
    record {
      ties = subst (λ (does : Use). Ties (asid_of guests g) (vault_of g left ((past_with actor contents computed deed (items.Firmware command) past).archive g)) (used does memory)) (sym use_is)
          (subst (λ (later : Past). Ties (asid_of guests g) (vault_of g left (later.archive g)) memory) (sym past_is) ties);
      legal = subst (IsLegalUse memory) (sym use_is) tt;
    }

-- so each event of such a command
pub sealing_done : (frames : ℕ) (guests : List GuestSpec) (g actor : ℕ) (past : Past) (memory : Memory) (view : View) (part : ActorPart) (command : Command) (sealing : Sealing) → sealing_of command ≡ Some sealing
    → BeforeCommit guests g view.contents (past.archive g) memory → AreCommandOperands command → AreCommandLocks frames guests view.contents command part.standing
    → ((made : Computed) → part.standing.computed ≡ Some made → IsMade g view.contents (past.archive g) (past.sealing actor) command part.standing made)
    → IsDone g (asid_of guests g) actor past memory view.contents part.standing.computed Firmware (items.Firmware command) (item_move frames guests view part Firmware (items.Firmware command))
unfolding item_move
sealing_done frames guests g actor past memory view part command sealing is before operands tested made =
    let asid = asid_of guests g in
    let ties = before.ties in
    by_stage (IsDone g asid actor past memory view.contents part.standing.computed Firmware (items.Firmware command)) frames guests view part command
    (record {
      takes = λ owner refusal. taken_done g asid actor past memory view.contents part command owner refusal ties;
      locks = λ lock refusal. lock_done g asid actor past memory view.contents part command lock refusal ties;
      computes = λ one one_is ready. computed_done g asid actor past memory view.contents part command (compute_of view.contents one) ties;
      commits = λ stage. commit_done frames guests g actor past memory view.contents part command sealing is before operands stage made;
    })
    tested
