-- Every event of every actor, those of the six commands that seal or open a page among them, keeps a state in order, and what ties a guest's pages to their holders, with the past brought on.
use Rattle.std.proofs.Common.{◌≡◌, ℕ, ◌-◌, ◌<◌, ◌≤◌, length, Option, Some, None, sym, ap, subst, refl}
use Rattle.snp_model.specs.declared.command.Command.{Command}
use Rattle.snp_model.specs.declared.item.Item.{Item}
use Rattle.snp_model.specs.declared.item.Item.TheVariants as items
use Rattle.snp_model.specs.declared.scenario.Role.{Role}
use Rattle.snp_model.specs.declared.scenario.Role.TheVariants.{Cpu, Host, Firmware}
use Rattle.snp_model.specs.Bounds.{IsRole}
use Rattle.snp_model.specs.GuestMemory.{Memory, IsLegalUse, use_for, next_use, used}
use Rattle.snp_model.specs.Holders.{Core}
use Rattle.snp_model.specs.Live.{vault_of}
use Rattle.snp_model.specs.Locks.{view_of}
use Rattle.snp_model.specs.Opening.{asid_of}
use Rattle.snp_model.specs.Past.{Past, past_with, past_after}
use Rattle.snp_model.specs.Premises.{IsDisciplinedStep}
use Rattle.snp_model.specs.Sealing.{Sealing, sealing_of}
use Rattle.snp_model.specs.State.{Computed, ActorPart, State, IsUnfinished, part_of}
use Rattle.snp_model.specs.Step.{item_move, line_at, event_of, after}
use Rattle.run_laws.specs.HeldLocks.{AreItemLocks}
use Rattle.run_laws.specs.MadePages.{IsMadeBy, AreMade}
use Rattle.run_laws.specs.OpenAttempts.{IsAttempt}
use Rattle.run_laws.specs.Operands.{AreOperands}
use Rattle.run_laws.specs.Shapes.{AreShaped}
use Rattle.run_laws.specs.Uniqueness.{Seals}
use Rattle.run_laws.proofs.DisciplinedItems.{IsNoSealing, any_item_fine}
use Rattle.run_laws.proofs.DisciplineLaws.{next_lacks}
use Rattle.run_laws.proofs.InOrder.{IsInOrder}
use Rattle.run_laws.proofs.LargePages.{AreLargeWhole, shaped_large}
use Rattle.run_laws.proofs.LockedRuns.{part_walking}
use Rattle.run_laws.proofs.PlainSteps.{kinds_fit, plain_seals, plain_item_past}
use Rattle.run_laws.proofs.SealedCommands.{IsDone, sealing_done}
use Rattle.run_laws.proofs.SealingCommits.{BeforeCommit}
use Rattle.run_laws.proofs.SealOutCommit.{Ties}
use Rattle.run_laws.proofs.ShapedLaws.{asid_differs, asid_not_zero, shaped_commit}
use Rattle.run_laws.proofs.ShapedSteps.{shape_after, order_after}
use Rattle.run_laws.proofs.UseLaws.{RoleOwns, Before}
use Rattle.run_laws.proofs.ValidateUseLaws.{LacksAccepted}

-- what an event of an item goes by, for a guest
record EventGround (g : ℕ) (m : State) (actor : ℕ) (past : Past) (memory : Memory) (part : ActorPart) (role : Role) (item : Item) : Type 0 where
  before : BeforeCommit m.guests g m.contents (past.archive g) memory
  large : AreLargeWhole m.contents.pages
  owns : RoleOwns g (asid_of m.guests g) m.guests role
  role_is : IsRole m.frames (length m.guests) role
  operands : AreOperands item
  tested : AreItemLocks m.frames m.guests m.contents role item part.deeds part.standing
  attempt : IsAttempt m.frames role item part.standing part.deeds
  made : (made : Computed) → part.standing.computed ≡ Some made → IsMadeBy g m.contents (past.archive g) (past.sealing actor) item part.standing made

-- an item seals or opens nothing, or is a command that does
by_one : (P : Role → Item → Type 0) → ((role : Role) (item : Item) → IsNoSealing role item → P role item) → ((command : Command) (sealing : Sealing) → sealing_of command ≡ Some sealing → P Firmware (items.Firmware command))
    → (command : Command) (found : Option Sealing) → sealing_of command ≡ found → P Firmware (items.Firmware command)
by_one P plain seals command None is = plain Firmware (items.Firmware command) is
by_one P plain seals command (Some sealing) is = seals command sealing is

by_sealing : (P : Role → Item → Type 0) → ((role : Role) (item : Item) → IsNoSealing role item → P role item) → ((command : Command) (sealing : Sealing) → sealing_of command ≡ Some sealing → P Firmware (items.Firmware command))
    → (role : Role) (item : Item) → P role item
by_sealing P plain seals Firmware (items.Firmware command) = by_one P plain seals command (sealing_of command) refl
by_sealing P plain seals role item = plain role item tt

-- the seals after an item's event, which ask for no discipline
abbrev SealsDone : ℕ → State → ℕ → Past → Memory → ActorPart → Role → Item → Type 0
SealsDone g m actor past memory part role item =
    EventGround g m actor past memory part role item
    → let move = item_move m.frames m.guests (view_of m) part role item in
    Seals (asid_of m.guests g) (vault_of g move.contents ((past_with actor m.contents part.standing.computed move.deed item past).archive g))

plain_seals_done : (g : ℕ) (m : State) (actor : ℕ) (past : Past) (memory : Memory) (part : ActorPart) (role : Role) (item : Item) → IsNoSealing role item → SealsDone g m actor past memory part role item
plain_seals_done g m actor past memory part role item known ground =
    let move = item_move m.frames m.guests (view_of m) part role item in
    subst (λ (later : Past). Seals (asid_of m.guests g) (vault_of g move.contents (later.archive g))) (sym (plain_item_past m.frames m.guests actor (view_of m) part role item past known))
    (plain_seals (asid_of m.guests g) g m.frames m.guests (past.archive g) (view_of m) part role item known ground.before.memory_fits ground.large ground.role_is ground.operands ground.tested ground.before.ties.seals)

command_done : (g : ℕ) (m : State) (actor : ℕ) (past : Past) (memory : Memory) (part : ActorPart) (command : Command) (sealing : Sealing) → sealing_of command ≡ Some sealing
    → EventGround g m actor past memory part Firmware (items.Firmware command)
    → IsDone g (asid_of m.guests g) actor past memory m.contents part.standing.computed Firmware (items.Firmware command) (item_move m.frames m.guests (view_of m) part Firmware (items.Firmware command))
unfolding AreItemLocks
command_done g m actor past memory part command sealing is ground =
    sealing_done m.frames m.guests g actor past memory (view_of m) part command sealing is ground.before ground.operands ground.tested ground.made

seals_done : (g : ℕ) (m : State) (actor : ℕ) (past : Past) (memory : Memory) (part : ActorPart) (role : Role) (item : Item) → SealsDone g m actor past memory part role item
seals_done g m actor past memory part =
    by_sealing (SealsDone g m actor past memory part) (plain_seals_done g m actor past memory part)
    (λ command sealing is ground. (command_done g m actor past memory part command sealing is ground).ties.seals)

-- and all that ties a guest's pages to their holders, where the guest is disciplined
abbrev ItemDone : ℕ → State → ℕ → Past → Memory → ActorPart → Role → Item → Type 0
ItemDone g m actor past memory part role item =
    let move = item_move m.frames m.guests (view_of m) part role item in
    EventGround g m actor past memory part role item → LacksAccepted memory (use_for g move.contents role move.deed item move.outcome)
    → IsDone g (asid_of m.guests g) actor past memory m.contents part.standing.computed role item move

plain_done : (g : ℕ) (m : State) (actor : ℕ) (past : Past) (memory : Memory) (part : ActorPart) (role : Role) (item : Item) → IsNoSealing role item → ItemDone g m actor past memory part role item
plain_done g m actor past memory part role item known ground lacks =
    let asid = asid_of m.guests g in
    let move = item_move m.frames m.guests (view_of m) part role item in
    let fits = ground.before.memory_fits in
    let before : Before g asid (past.archive g) memory m.contents =
    record { core = ground.before.ties.core; whole = λ f. (fits.words f).whole; fits = λ f. kinds_fit (m.contents.pages f).facts (fits.facts f) } in
    let fine = (any_item_fine g asid (past.archive g) m.guests memory m.frames (view_of m) part role item known before ground.owns ground.large ground.tested ground.attempt lacks).fine in
    let core = subst (λ (later : Past). Core asid (vault_of g move.contents (later.archive g)) (used (use_for g move.contents role move.deed item move.outcome) memory))
    (sym (plain_item_past m.frames m.guests actor (view_of m) part role item past known)) fine.core in
    record { ties = record { core = core; seals = plain_seals_done g m actor past memory part role item known ground }; legal = fine.legal }

item_done : (g : ℕ) (m : State) (actor : ℕ) (past : Past) (memory : Memory) (part : ActorPart) (role : Role) (item : Item) → ItemDone g m actor past memory part role item
item_done g m actor past memory part =
    by_sealing (ItemDone g m actor past memory part) (plain_done g m actor past memory part)
    (λ command sealing is ground lacks. command_done g m actor past memory part command sealing is ground)

-- guests have ASIDs of their own
role_owns : (m : State) (g : ℕ) (role : Role) → AreShaped m → 0 < g → g ≤ length m.guests → IsRole m.frames (length m.guests) role → RoleOwns g (asid_of m.guests g) m.guests role
role_owns m g (Cpu owner vmpl npt paging) shaped some most is = record {
  own = λ same. ap (asid_of m.guests) same;
  other = λ apart. asid_differs m.guests owner g shaped.asids_differ is.guest_some is.guest_most some most apart;
}
role_owns m g Host shaped some most is = tt
role_owns m g Firmware shaped some most is = record {
  some = asid_not_zero m.guests g shaped.have_asids some most;
  each = λ owner owner_some owner_most. record {
    own = λ same. ap (asid_of m.guests) same;
    other = λ apart. asid_differs m.guests owner g shaped.asids_differ owner_some owner_most some most apart;
  };
}

-- what ties a declared guest's pages to their holders in a state with this past
abbrev pub TiesAt : ℕ → State → Past → Memory → Type 0
TiesAt g m past memory = Ties (asid_of m.guests g) (vault_of g m.contents (past.archive g)) memory

ground_of : (g : ℕ) (m : State) (actor : ℕ) (past : Past) (memory : Memory) → 0 < g → g ≤ length m.guests → IsUnfinished m actor → IsInOrder m → AreMade g m past → TiesAt g m past memory
    → EventGround g m actor past memory (part_of m actor) (part_of m actor).role (line_at (part_of m actor).script (part_of m actor).item).item
ground_of g m actor past memory some most unfinished order made ties =
    let part = part_of m actor in
    record {
      before = shaped_commit m g (past.archive g) memory order.shapes some most ties;
      large = shaped_large m order.shapes;
      owns = role_owns m g part.role order.shapes some most (order.roles actor);
      role_is = order.roles actor;
      operands = order.operands actor part.item;
      tested = order.locks.tested (actor - 1);
      attempt = part_walking m actor order.walking unfinished;
      made = λ one is. made actor one unfinished.0 is;
    }

-- part 7, and all that it goes by: nothing is asked of a guest
pub each_shape : (m : State) (actor : ℕ) → IsUnfinished m actor → IsInOrder m → AreShaped (after m actor)
each_shape m actor unfinished order = shape_after m actor order

pub each_order : (m : State) (actor : ℕ) → IsUnfinished m actor → IsInOrder m → IsInOrder (after m actor)
each_order m actor unfinished order = order_after m actor unfinished order

-- part 4 alone asks for no discipline
pub each_seals : (g : ℕ) (m : State) (actor : ℕ) (past : Past) (memory : Memory) → 0 < g → g ≤ length m.guests → IsUnfinished m actor → IsInOrder m → AreMade g m past → TiesAt g m past memory
    → Seals (asid_of (after m actor).guests g) (vault_of g (after m actor).contents ((past_after m actor past).archive g))
unfolding after past_after event_of
each_seals g m actor past memory some most unfinished order made ties =
    let part = part_of m actor in
    seals_done g m actor past memory part part.role (line_at part.script part.item).item (ground_of g m actor past memory some most unfinished order made ties)

-- parts 2 to 4, for the core and the seals at once; and the event finds in the guest's memory what it needs
pub next_done : (g : ℕ) (m : State) (actor : ℕ) (past : Past) (memory : Memory) → 0 < g → g ≤ length m.guests → IsUnfinished m actor → IsInOrder m → AreMade g m past → LacksAccepted memory (next_use g m actor)
    → TiesAt g m past memory → TiesAt g (after m actor) (past_after m actor past) (used (next_use g m actor) memory) × IsLegalUse memory (next_use g m actor)
unfolding after past_after next_use event_of
next_done g m actor past memory some most unfinished order made lacks ties =
    let part = part_of m actor in
    let done = item_done g m actor past memory part part.role (line_at part.script part.item).item (ground_of g m actor past memory some most unfinished order made ties) lacks in
    (done.ties, done.legal)

pub each_ties : (g : ℕ) (m : State) (actor : ℕ) (past : Past) (memory : Memory) → 0 < g → g ≤ length m.guests → IsUnfinished m actor → IsInOrder m → AreMade g m past
    → IsDisciplinedStep g m actor memory → TiesAt g m past memory → TiesAt g (after m actor) (past_after m actor past) (used (next_use g m actor) memory)
each_ties g m actor past memory some most unfinished order made disciplined ties =
    (next_done g m actor past memory some most unfinished order made (next_lacks g m actor memory disciplined) ties).0

pub each_legal : (g : ℕ) (m : State) (actor : ℕ) (past : Past) (memory : Memory) → 0 < g → g ≤ length m.guests → IsUnfinished m actor → IsInOrder m → AreMade g m past
    → IsDisciplinedStep g m actor memory → TiesAt g m past memory → IsLegalUse memory (next_use g m actor)
each_legal g m actor past memory some most unfinished order made disciplined ties =
    (next_done g m actor past memory some most unfinished order made (next_lacks g m actor memory disciplined) ties).1
