-- What computes have made, and their commits are to find, is still so after every event: after one of the actor itself, and after one of another.
use Rattle.std.proofs.Common.{◌≡◌, ◌≢◌, ℕ, ◌-◌, ◌<◌, ◌≤◌, IfSome, List, [], ◌∷◌, ◌++◌, length, get_or, slice_get, Option, Some, None, Result, Ok, Err, refl, sym, ap, ◌∙◌, subst, ⊎_elim, arith}
use Rattle.std.proofs.lemmas.Bool.{cases_eq, cases_lt}
use Rattle.std.proofs.lemmas.Option.{none-some, slice_get_within, slice_get-get_or}
use Rattle.snp_model.specs.declared.command.Command.{Command}
use Rattle.snp_model.specs.declared.command.Command.TheVariants as commands
use Rattle.snp_model.specs.declared.entry.PageSize.TheVariants.{Small}
use Rattle.snp_model.specs.declared.event.Deed.{Deed}
use Rattle.snp_model.specs.declared.event.FwRefusal.{FwRefusal}
use Rattle.snp_model.specs.declared.event.Outcome.{Outcome}
use Rattle.snp_model.specs.declared.item.Item.{Item}
use Rattle.snp_model.specs.declared.item.Item.TheVariants as items
use Rattle.snp_model.specs.declared.scenario.GuestSpec.{GuestSpec}
use Rattle.snp_model.specs.declared.scenario.Role.{Role}
use Rattle.snp_model.specs.declared.scenario.Role.TheVariants.{Cpu, Host, Firmware}
use Rattle.snp_model.specs.Firmware.{CommandPage, guest_of, pages_of, entry_of}
use Rattle.snp_model.specs.FirmwareStep.{Phase, pages_phase, context_phase, context_taken, take_context, take_page, computed_move, commit_move, phase_move, firmware_move}
use Rattle.snp_model.specs.GuestMemory.{Memory}
use Rattle.snp_model.specs.Live.{Archive, vault_of}
use Rattle.snp_model.specs.Locks.{locks_frame, locks_context, page_lock, view_of}
use Rattle.snp_model.specs.Moves.{Move, lock_move}
use Rattle.snp_model.specs.Opening.{asid_of}
use Rattle.snp_model.specs.Past.{Past, past_computed, past_with, past_after}
use Rattle.snp_model.specs.Premises.{NoChance, NoChanceStep}
use Rattle.snp_model.specs.Sealing.{Sealing, sealing_of, compute_of}
use Rattle.snp_model.specs.State.{PageLock, Contents, Computed, Standing, nothing_taken, ActorPart, State, View, part_of, IsUnfinished}
use Rattle.snp_model.specs.Step.{item_move, line_at, part_after, event_of, after}
use Rattle.run_laws.specs.HeldLocks.{AreCommandLocks, AreItemLocks}
use Rattle.run_laws.specs.MadePages.{IsMade, IsMadeBy, AreMade}
use Rattle.run_laws.specs.Operands.{AreCommandOperands, AreOperands}
use Rattle.run_laws.proofs.FirmwareLocked.{held_context}
use Rattle.run_laws.proofs.InOrder.{IsInOrder}
use Rattle.run_laws.proofs.LockLaws.{not_true}
use Rattle.run_laws.proofs.LockedLaws.{move_at, move_locks}
use Rattle.run_laws.proofs.LockedMoves.{MoveLocks}
use Rattle.run_laws.proofs.LockedRuns.{part_walking}
use Rattle.run_laws.proofs.MadeComputed.{Makes, made_computed, owner_has}
use Rattle.run_laws.proofs.MadeKept.{LeavesLocked, made_stays, tests_of, guestless}
use Rattle.run_laws.proofs.PastSteps.{archive_kept, sealing_kept}
use Rattle.run_laws.proofs.RunLaws.{unfinished_at, after_part, after_other}
use Rattle.run_laws.proofs.SealOutCommit.{Ties}
use Rattle.run_laws.proofs.SealingCommits.{BeforeCommit}
use Rattle.run_laws.proofs.ShapedLaws.{shaped_commit}

-- nothing was made where nothing is taken
nothing_made : (standing : Standing) (made : Computed) → standing ≡ nothing_taken → standing.computed ≡ Some made → ⊥
nothing_made standing made idle is = none-some made (sym (ap (λ (s : Standing). s.computed) idle) ∙ is)

unmade : (computed : Option Computed) (made : Computed) → computed ≡ None → computed ≡ Some made → ⊥
unmade computed made none is = none-some made (sym none ∙ is)

-- a command names one of the 64 entries of a metadata page, if it names one
pub entry_below : (command : Command) → AreCommandOperands command → IfSome (entry_of command) (λ (n : ℕ). n < 64)
unfolding entry_of
entry_below (commands.GctxCreate guest frame) fits = tt
entry_below (commands.Activate guest asid) fits = tt
entry_below (commands.LaunchStart guest) fits = tt
entry_below (commands.LaunchUpdate guest frame page_type imi perms) fits = tt
entry_below (commands.LaunchFinish guest) fits = tt
entry_below (commands.MdInit frame) fits = tt
entry_below (commands.PageMove guest source target) fits = tt
entry_below (commands.SwapOut guest source target metadata entry) fits = fits
entry_below (commands.SwapIn guest source target metadata entry) fits = fits
entry_below (commands.Reclaim frame) fits = tt
entry_below (commands.MdOut guest source target metadata entry) fits = fits
entry_below (commands.MdIn guest source target metadata entry) fits = fits
entry_below (commands.MdRootOut guest source target) fits = tt
entry_below (commands.MdRootIn guest source target) fits = tt

-- Events of others

item_stays : (frames : ℕ) (guests : List GuestSpec) (g : ℕ) (old new : Contents) (archive later : Archive) (taken : List ℕ) (role : Role) (item : Item) (did : List Deed) (standing : Standing) (made : Computed)
    → AreItemLocks frames guests old role item did standing → AreOperands item → LeavesLocked g old new archive later standing → standing.computed ≡ Some made
    → IsMadeBy g old archive taken item standing made → IsMadeBy g new later taken item standing made
unfolding AreItemLocks
item_stays frames guests g old new archive later taken Firmware (items.Firmware command) did standing made tested fits leaves computed is =
    made_stays frames guests g old new archive later taken command standing made tested (entry_below command fits) leaves is
item_stays frames guests g old new archive later taken Host (items.Firmware command) did standing made tested fits leaves computed is = absurd (nothing_made standing made tested computed)
item_stays frames guests g old new archive later taken (Cpu guest vmpl npt paging) (items.Firmware command) did standing made tested fits leaves computed is = absurd (nothing_made standing made tested computed)
item_stays frames guests g old new archive later taken role item did standing made tested fits leaves computed is = absurd is

leaves_locked : (g : ℕ) (m : State) (past : Past) (actor other : ℕ) → IsUnfinished m actor → IsInOrder m → AreMade g m past → other - 1 ≢ actor - 1
    → LeavesLocked g m.contents (after m actor).contents (past.archive g) ((past_after m actor past).archive g) (part_of m other).standing
unfolding after
leaves_locked g m past actor other unfinished order made apart =
    let locks = move_locks m actor order.locks (part_walking m actor order.walking unfinished) in
    let contexts_apart = λ (h : ℕ) (locked : (part_of m other).standing.context_lock ≡ Some h). not_true (locks_context h (part_of m actor))
    (λ own. apart (order.locks.one.contexts_by_one (other - 1) (actor - 1) h (held_context (part_of m other) h locked) own)) in
    record {
      pages = λ f locked. locks.own f (not_true (locks_frame f (part_of m actor)) (λ own. apart (order.locks.one.pages_by_one (other - 1) (actor - 1) f locked own)));
      contexts = λ h locked. locks.own_contexts h (contexts_apart h locked);
      archive_is = λ locked k. archive_kept g m past actor k unfinished.0 made (contexts_apart g locked);
    }

-- what an actor with this part has made, if it has made a page
abbrev IsMadeAt : ℕ → Contents → Archive → List ℕ → ActorPart → Type 0
IsMadeAt g contents archive taken part = (made : Computed) → part.standing.computed ≡ Some made → IsMadeBy g contents archive taken (line_at part.script part.item).item part.standing made

other_made : (g : ℕ) (m : State) (past : Past) (actor other : ℕ) → 0 < other → IsUnfinished m actor → IsInOrder m → AreMade g m past → other ≢ actor → other - 1 ≢ actor - 1
    → IsMadeAt g (after m actor).contents ((past_after m actor past).archive g) ((past_after m actor past).sealing other) (part_of m other)
other_made g m past actor other some unfinished order made off apart one computed =
    let part = part_of m other in
    let item = (line_at part.script part.item).item in
    let later = past_after m actor past in
    subst (λ (taken : List ℕ). IsMadeBy g (after m actor).contents (later.archive g) taken item part.standing one) (sym (sealing_kept m past actor other off))
    (item_stays m.frames m.guests g m.contents (after m actor).contents (past.archive g) (later.archive g) (past.sealing other) part.role item part.deeds part.standing one
    (order.locks.tested (other - 1)) (order.operands other part.item) (leaves_locked g m past actor other unfinished order made apart) computed (made other one some computed))

-- The actor's own event

-- what an actor has that has made a page in an event which leaves its attempt open
record LeavesMade (g : ℕ) (contents : Contents) (past : Past) (actor : ℕ) (computed : Option Computed) (item : Item) (move : Move) : Type 0 where
  made : NoChance g contents past move.deed move.outcome item → move.outcome ≡ None → (one : Computed) → move.standing.computed ≡ Some one
      → IsMadeBy g move.contents ((past_with actor contents computed move.deed item past).archive g) ((past_with actor contents computed move.deed item past).sealing actor) item move.standing one

some_none : (outcome : Outcome) → Some outcome ≡ None → ⊥
some_none outcome e = cc

same_some : (one other : Computed) → Some one ≡ Some other → one ≡ other
same_some one other e = cc

-- what an attempt of a command has made so far
abbrev HasMade : ℕ → Contents → Past → ℕ → Command → Standing → Type 0
HasMade g contents past actor command standing = (one : Computed) → standing.computed ≡ Some one → IsMade g contents (past.archive g) (past.sealing actor) command standing one

-- one that has made a page has locked its context
context_made : (g : ℕ) (contents : Contents) (past : Past) (actor : ℕ) (part : ActorPart) (command : Command) (guest : ℕ) (refusal : Option FwRefusal) → guest_of command ≡ Some guest → part.standing.context_lock ≡ None
    → HasMade g contents past actor command part.standing → LeavesMade g contents past actor part.standing.computed (items.Firmware command) (context_taken contents part guest refusal)
unfolding context_taken
context_made g contents past actor part command guest None owner locked before = record { made = λ chance going one computed. absurd (none-some guest (sym locked ∙ (before one computed).context ∙ owner)) }
context_made g contents past actor part command guest (Some refusal) owner locked before = record { made = λ chance going. absurd (some_none _ going) }

-- and all its pages
not_within : (n k : ℕ) → n ≡ k → n < k → ⊥
not_within n k same within = omega arith

page_made : (g : ℕ) (contents : Contents) (past : Past) (actor : ℕ) (part : ActorPart) (command : Command) (page : CommandPage) (lock : PageLock) (refusal : Option Outcome)
    → slice_get (pages_of command) (length part.standing.locks) ≡ Some page
    → HasMade g contents past actor command part.standing → LeavesMade g contents past actor part.standing.computed (items.Firmware command) (lock_move contents part lock refusal)
unfolding lock_move
page_made g contents past actor part command page lock None next before = record {
  made = λ chance going one computed. absurd (not_within (length part.standing.locks) (length (pages_of command)) (before one computed).pages (slice_get_within (pages_of command) (length part.standing.locks) page next));
}
page_made g contents past actor part command page lock (Some outcome) next before = record { made = λ chance going. absurd (some_none _ going) }

-- its compute makes it
past_end : {X : Type 0} (xs : List X) (k : ℕ) → slice_get xs k ≡ None → length xs ≤ k
past_end xs k none =
    ⊎_elim
    (λ (within : k < length xs). absurd (past_of xs k none within))
    (λ (end : length xs ≤ k). end)
    (cases_lt k (length xs))
  where
    past_of : {X : Type 0} (xs : List X) (k : ℕ) → slice_get xs k ≡ None → k < length xs → ⊥
    past_of [] k none within = omega arith
    past_of (x ∷ others) k none within = none-some _ (sym none ∙ slice_get-get_or (x ∷ others) k x within)

locks_most : (frames : ℕ) (guests : List GuestSpec) (contents : Contents) (command : Command) (standing : Standing) → AreCommandLocks frames guests contents command standing → length standing.locks ≤ length (pages_of command)
locks_most frames guests contents command standing tested =
    ⊎_elim
    (λ (more : length (pages_of command) < length standing.locks).
    let of = tested.pages (length (pages_of command)) (get_or standing.locks (length (pages_of command)) (page_lock Small 0)) (slice_get-get_or standing.locks (length (pages_of command)) (page_lock Small 0) more) in
    absurd (not_within (length (pages_of command)) (length (pages_of command)) refl (slice_get_within (pages_of command) (length (pages_of command)) of.page of.page_is)))
    (λ (most : length standing.locks ≤ length (pages_of command)). most)
    (cases_lt (length (pages_of command)) (length standing.locks))

all_locked : (frames : ℕ) (guests : List GuestSpec) (contents : Contents) (command : Command) (standing : Standing) → AreCommandLocks frames guests contents command standing
    → slice_get (pages_of command) (length standing.locks) ≡ None → length standing.locks ≡ length (pages_of command)
all_locked frames guests contents command standing tested none =
    let most = locks_most frames guests contents command standing tested in
    let least = past_end (pages_of command) (length standing.locks) none in
    omega arith

-- before an event of a command
record BeforeCompute (frames : ℕ) (guests : List GuestSpec) (g : ℕ) (contents : Contents) (past : Past) (memory : Memory) (command : Command) (standing : Standing) : Type 0 where
  before : BeforeCommit guests g contents (past.archive g) memory
  tested : AreCommandLocks frames guests contents command standing
  fits : AreCommandOperands command

compute_made : (frames : ℕ) (guests : List GuestSpec) (g : ℕ) (contents : Contents) (past : Past) (memory : Memory) (actor : ℕ) (part : ActorPart) (command : Command) (sealing : Sealing) (answer : Result Computed FwRefusal)
    → BeforeCompute frames guests g contents past memory command part.standing → slice_get (pages_of command) (length part.standing.locks) ≡ None → sealing_of command ≡ Some sealing → part.standing.context_lock ≡ guest_of command
    → compute_of contents sealing ≡ answer → LeavesMade g contents past actor part.standing.computed (items.Firmware command) (computed_move contents part answer)
unfolding computed_move past_with NoChance
compute_made frames guests g contents past memory actor part command sealing (Ok made) ready none seals locked is =
    let all = all_locked frames guests contents command part.standing ready.tested none in
    let later = past_computed actor contents (sealing_of command) past in
    record {
      made = λ chance going one computed.
          subst (λ (x : Computed). IsMade g contents (later.archive g) (later.sealing actor) command (record part.standing { computed = Some made }) x) (same_some made one computed)
          (made_computed guests g contents past memory actor command part.standing made ready.before
          (tests_of frames guests contents command part.standing ready.tested (guest_of command) refl locked all (entry_below command ready.fits) (guestless command))
          (owner_has guests command) locked all (subst (λ (s : Option Sealing). Makes contents s made) (sym seals) is) chance);
    }
compute_made frames guests g contents past memory actor part command sealing (Err refusal) ready none seals locked is = record { made = λ chance going. absurd (some_none _ going) }

commit_made : (g : ℕ) (contents : Contents) (past : Past) (actor : ℕ) (part : ActorPart) (command : Command) → LeavesMade g contents past actor part.standing.computed (items.Firmware command) (commit_move contents part command)
unfolding commit_move
commit_made g contents past actor part command = record { made = λ chance going. absurd (some_none _ going) }

-- so each event of a command, by what its attempt needs
pages_phase_made : (frames : ℕ) (guests : List GuestSpec) (view : View) (g : ℕ) (past : Past) (memory : Memory) (actor : ℕ) (part : ActorPart) (command : Command) (page : Option CommandPage) (sealing : Option Sealing) (computed : Option Computed)
    → slice_get (pages_of command) (length part.standing.locks) ≡ page → sealing_of command ≡ sealing → part.standing.context_lock ≡ guest_of command
    → BeforeCompute frames guests g view.contents past memory command part.standing → HasMade g view.contents past actor command part.standing
    → LeavesMade g view.contents past actor part.standing.computed (items.Firmware command) (phase_move frames guests view part command (pages_phase page sealing computed))
unfolding pages_phase phase_move take_page
pages_phase_made frames guests view g past memory actor part command (Some page) sealing computed next seals locked ready before =
    page_made g view.contents past actor part command page _ _ next before
pages_phase_made frames guests view g past memory actor part command None (Some sealing) None next seals locked ready before =
    compute_made frames guests g view.contents past memory actor part command sealing (compute_of view.contents sealing) ready next seals locked refl
pages_phase_made frames guests view g past memory actor part command None (Some sealing) (Some made) next seals locked ready before = commit_made g view.contents past actor part command
pages_phase_made frames guests view g past memory actor part command None None computed next seals locked ready before = commit_made g view.contents past actor part command

context_phase_made : (frames : ℕ) (guests : List GuestSpec) (view : View) (g : ℕ) (past : Past) (actor : ℕ) (part : ActorPart) (command : Command) (owner locked : Option ℕ) (later : Phase)
    → guest_of command ≡ owner → part.standing.context_lock ≡ locked → AreCommandLocks frames guests view.contents command part.standing → HasMade g view.contents past actor command part.standing
    → (part.standing.context_lock ≡ guest_of command → LeavesMade g view.contents past actor part.standing.computed (items.Firmware command) (phase_move frames guests view part command later))
    → LeavesMade g view.contents past actor part.standing.computed (items.Firmware command) (phase_move frames guests view part command (context_phase owner locked later))
unfolding context_phase phase_move take_context
context_phase_made frames guests view g past actor part command (Some guest) None later owner_is locked_is tested before holds =
    context_made g view.contents past actor part command guest _ owner_is locked_is before
context_phase_made frames guests view g past actor part command (Some guest) (Some own) later owner_is locked_is tested before holds =
    holds (locked_is ∙ sym (tested.context own locked_is).guest_is)
context_phase_made frames guests view g past actor part command None (Some own) later owner_is locked_is tested before holds =
    holds (locked_is ∙ sym (tested.context own locked_is).guest_is)
context_phase_made frames guests view g past actor part command None None later owner_is locked_is tested before holds = holds (locked_is ∙ sym owner_is)

command_made : (frames : ℕ) (guests : List GuestSpec) (view : View) (g : ℕ) (past : Past) (memory : Memory) (actor : ℕ) (part : ActorPart) (command : Command)
    → BeforeCompute frames guests g view.contents past memory command part.standing → HasMade g view.contents past actor command part.standing
    → LeavesMade g view.contents past actor part.standing.computed (items.Firmware command) (firmware_move frames guests view part command)
command_made frames guests view g past memory actor part command ready before =
    context_phase_made frames guests view g past actor part command (guest_of command) part.standing.context_lock _ refl refl ready.tested before
    (λ locked. pages_phase_made frames guests view g past memory actor part command (slice_get (pages_of command) (length part.standing.locks)) (sealing_of command) part.standing.computed refl refl locked ready before)

-- of all items a command of the firmware alone makes a page
abbrev IsComputing : Role → Item → Type 0
IsComputing Firmware (items.Firmware command) = Unit {0}
IsComputing role item = ⊥

computing : (frames : ℕ) (guests : List GuestSpec) (contents : Contents) (role : Role) (item : Item) (did : List Deed) (standing : Standing) (made : Computed) → AreItemLocks frames guests contents role item did standing
    → standing.computed ≡ Some made → IsComputing role item
unfolding AreItemLocks
computing frames guests contents (Cpu guest vmpl npt paging) (items.Pvalidate address size validate) did standing made tested is = absurd (unmade standing.computed made tested.computed is)
computing frames guests contents (Cpu guest vmpl npt paging) (items.Rmpadjust address size target mask vmsa) did standing made tested is = absurd (unmade standing.computed made tested.computed is)
computing frames guests contents Host (items.Rmpupdate update) did standing made tested is = absurd (unmade standing.computed made tested.computed is)
computing frames guests contents Host (items.Psmash frame) did standing made tested is = absurd (unmade standing.computed made tested.computed is)
computing frames guests contents Firmware (items.Firmware command) did standing made tested is = tt
computing frames guests contents role item did standing made tested is = absurd (nothing_made standing made tested is)

move_computes : (m : State) (part : ActorPart) (role : Role) (item : Item) (move : Move) → MoveLocks m part role item move → move.outcome ≡ None → (one : Computed) → move.standing.computed ≡ Some one → IsComputing role item
move_computes m part role item move locks going one computed =
    computing m.frames m.guests move.contents role item (part.deeds ++ move.deed ∷ []) move.standing one (locks.goes_on going).tested computed

-- so each item
item_made : (m : State) (g : ℕ) (past : Past) (memory : Memory) (actor : ℕ) (part : ActorPart) (role : Role) (item : Item) → BeforeCommit m.guests g m.contents (past.archive g) memory
    → AreItemLocks m.frames m.guests m.contents role item part.deeds part.standing → AreOperands item
    → ((one : Computed) → part.standing.computed ≡ Some one → IsMadeBy g m.contents (past.archive g) (past.sealing actor) item part.standing one)
    → MoveLocks m part role item (item_move m.frames m.guests (view_of m) part role item)
    → LeavesMade g m.contents past actor part.standing.computed item (item_move m.frames m.guests (view_of m) part role item)
unfolding AreItemLocks item_move
item_made m g past memory actor part Firmware (items.Firmware command) before tested fits has locks =
    command_made m.frames m.guests (view_of m) g past memory actor part command (record { before = before; tested = tested; fits = fits }) has
item_made m g past memory actor part role item before tested fits has locks =
    record { made = λ chance going one computed. absurd (move_computes m part role item (item_move m.frames m.guests (view_of m) part role item) locks going one computed) }

-- its part after the event
part_made : (g : ℕ) (contents : Contents) (past : Past) (actor : ℕ) (part : ActorPart) (move : Move) (outcome : Option Outcome) → move.outcome ≡ outcome
    → NoChance g contents past move.deed move.outcome (line_at part.script part.item).item → LeavesMade g contents past actor part.standing.computed (line_at part.script part.item).item move
    → let later = past_with actor contents part.standing.computed move.deed (line_at part.script part.item).item past in
    IsMadeAt g move.contents (later.archive g) (later.sealing actor) (part_after part move outcome)
unfolding part_after
part_made g contents past actor part move None is chance leaves = λ one computed. leaves.made chance is one computed
part_made g contents past actor part move (Some outcome) is chance leaves = λ one computed. absurd (none-some one computed)

own_made : (g : ℕ) (m : State) (actor : ℕ) (past : Past) (memory : Memory) → 0 < g → g ≤ length m.guests → IsUnfinished m actor → IsInOrder m → NoChanceStep g m actor past
    → Ties (asid_of m.guests g) (vault_of g m.contents (past.archive g)) memory → AreMade g m past
    → IsMadeAt g (after m actor).contents ((past_after m actor past).archive g) ((past_after m actor past).sealing actor) (part_of (after m actor) actor)
unfolding after past_after event_of NoChanceStep
own_made g m actor past memory some most unfinished order chance ties made =
    let part = part_of m actor in
    let item = (line_at part.script part.item).item in
    let move = move_at m actor in
    let walking = part_walking m actor order.walking unfinished in
    let later = past_with actor m.contents part.standing.computed move.deed item past in
    subst (λ (p : ActorPart). IsMadeAt g move.contents (later.archive g) (later.sealing actor) p) (sym (after_part m actor (unfinished_at m actor unfinished).within))
    (part_made g m.contents past actor part move move.outcome refl chance
    (item_made m g past memory actor part part.role item (shaped_commit m g (past.archive g) memory order.shapes some most ties) (order.locks.tested (actor - 1)) (order.operands actor part.item)
    (λ one computed. made actor one unfinished.0 computed) (move_locks m actor order.locks walking)))

one_number : (a b : ℕ) → 0 < a → 0 < b → a ≢ b → a - 1 ≢ b - 1
one_number a b some_a some_b apart same = apart (omega arith)

pub each_made : (g : ℕ) (m : State) (actor : ℕ) (past : Past) (memory : Memory) → 0 < g → g ≤ length m.guests → IsUnfinished m actor → IsInOrder m → NoChanceStep g m actor past
    → Ties (asid_of m.guests g) (vault_of g m.contents (past.archive g)) memory → AreMade g m past → AreMade g (after m actor) (past_after m actor past)
each_made g m actor past memory some most unfinished order chance ties made other one some_other computed =
    ⊎_elim
    (λ (same : other ≡ actor).
    subst (λ (k : ℕ). (x : Computed) → (part_of (after m actor) k).standing.computed ≡ Some x
    → IsMadeBy g (after m actor).contents ((past_after m actor past).archive g) ((past_after m actor past).sealing k) (line_at (part_of (after m actor) k).script (part_of (after m actor) k).item).item (part_of (after m actor) k).standing x)
    (sym same) (own_made g m actor past memory some most unfinished order chance ties made) one computed)
    (λ (off : other ≡ actor → ⊥).
    let apart = one_number other actor some_other unfinished.0 off in
    subst (λ (p : ActorPart). IsMadeAt g (after m actor).contents ((past_after m actor past).archive g) ((past_after m actor past).sealing other) p) (sym (after_other m actor other apart))
    (other_made g m past actor other some_other unfinished order made off apart) one computed)
    (cases_eq other actor)
