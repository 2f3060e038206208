-- What the commit of a command rests on, and what it leaves of the locks.
use Rattle.std.proofs.Common.{◌≡◌, ℕ, ◌≤◌, List, [], ◌∷◌, length, Option, None, Some, IsSome, refl, sym, ap, ◌∙◌, subst, arith}
use Rattle.std.proofs.lemmas.Bool.{true≢false}
use Rattle.snp_model.specs.declared.command.Command.{Command}
use Rattle.snp_model.specs.declared.command.Command.TheVariants as commands
use Rattle.snp_model.specs.declared.event.Outcome.{Outcome}
use Rattle.snp_model.specs.declared.event.Outcome.TheVariants.{Firmware}
use Rattle.snp_model.specs.declared.firmware.Part.TheVariants.{Source, Target}
use Rattle.snp_model.specs.declared.scenario.GuestSpec.{GuestSpec}
use Rattle.snp_model.specs.Firmware.{guest_of, pages_of as command_pages, success}
use Rattle.snp_model.specs.FirmwareStep.{Computing, Committing, phase_of, small_shown}
use Rattle.snp_model.specs.Locks.{locks_frame}
use Rattle.snp_model.specs.Sealing.{Sealing}
use Rattle.snp_model.specs.State.{ActorPart, PageLock, Standing}
use Rattle.snp_model.specs.Touches.{firmware_touches}
use Rattle.run_laws.specs.HeldLocks.{AreCommandLocks}
use Rattle.run_laws.specs.KeptLocks.{OwnsContext, OwnsLocks, is_locked, recontexted, relocked}
use Rattle.run_laws.proofs.CommandTests.{IsReady}
use Rattle.machine_core.specs.declared.shown.Shown.{Shown}
use Rattle.machine_core.specs.Bays.{Bays, GuestContexts, HasFrame, HasTouched, Stock, contents_of, context_holders_of, holders_of, pages_of}
use Rattle.machine_core.specs.Commits.{MayCommit}
use Rattle.machine_core.specs.Commands.{HoldsContext, HoldsNoContext}
use Rattle.machine_core.specs.Moves.{context_by, context_left, locks_by, locks_left, standing_by}
use Rattle.machine_core.proofs.ContextsLaws.{context_unlocked}
use Rattle.machine_core.proofs.GuestCommitLaws.{holds_context}
use Rattle.machine_core.proofs.PhaseLaws.{commit_has, commits, compute_has, computes, frame_has, holds_guest}
use Rattle.machine_core.proofs.RangeLaws.{relocked_none}
use Rattle.machine_core.proofs.ReadyLaws.{few_locks}

-- so it is ready
pub ready : (frames : ℕ) (guests : List GuestSpec) (actor : ℕ) (command : Command) (part : ActorPart) (stock : Stock) → MayCommit frames guests actor command part stock → IsReady frames guests (contents_of stock guests) command part.standing
ready frames guests actor command part stock may = record { tested = may.tested; all = may.all; held = may.held }

pub of_kind : (frames : ℕ) (guests : List GuestSpec) (actor : ℕ) (command other : Command) (part : ActorPart) (stock : Stock) → command ≡ other → MayCommit frames guests actor command part stock → MayCommit frames guests actor other part stock
of_kind frames guests actor command other part stock is may = subst (λ (c : Command). MayCommit frames guests actor c part stock) is may

-- and an attempt that needs its compute or its commit may make it
pub may_compute : (frames : ℕ) (guests : List GuestSpec) (actor : ℕ) (command : Command) (sealing : Sealing) (part : ActorPart) (stock : Stock) → Computing sealing ≡ phase_of command part.standing
    → AreCommandLocks frames guests (contents_of stock guests) command part.standing → HasTouched (firmware_touches frames guests part.standing command) stock → OwnsLocks actor part (holders_of stock.bays)
    → OwnsContext actor part (context_holders_of stock.contexts) → MayCommit frames guests actor command part stock
may_compute frames guests actor command sealing part stock phase tested has owns owns_context =
    let done = computes command part.standing sealing phase in
    record {
      all = done.all;
      held = holds_guest frames guests (contents_of stock guests) command part.standing tested done.past;
      tested = tested;
      has = compute_has frames guests part.standing command sealing stock phase has;
      owns = owns;
      owns_context = owns_context;
    }

pub may_commit : (frames : ℕ) (guests : List GuestSpec) (actor : ℕ) (command : Command) (part : ActorPart) (stock : Stock) → Committing ≡ phase_of command part.standing
    → AreCommandLocks frames guests (contents_of stock guests) command part.standing → HasTouched (firmware_touches frames guests part.standing command) stock → OwnsLocks actor part (holders_of stock.bays)
    → OwnsContext actor part (context_holders_of stock.contexts) → MayCommit frames guests actor command part stock
may_commit frames guests actor command part stock phase tested has owns owns_context =
    let done = commits command part.standing phase in
    record {
      all = done.all;
      held = holds_guest frames guests (contents_of stock guests) command part.standing tested done.past;
      tested = tested;
      has = commit_has frames guests part.standing command stock phase has;
      owns = owns;
      owns_context = owns_context;
    }

-- The frames of its pages

pub metadata_has : (frames : ℕ) (guests : List GuestSpec) (actor frame : ℕ) (part : ActorPart) (stock : Stock) → MayCommit frames guests actor (commands.MdInit frame) part stock → HasFrame stock frame
unfolding command_pages
metadata_has frames guests actor frame part stock may = frame_has part.standing (commands.MdInit frame) 0 (record { part = Target; frame = frame }) stock may.has refl

pub reclaim_has : (frames : ℕ) (guests : List GuestSpec) (actor frame : ℕ) (part : ActorPart) (stock : Stock) → MayCommit frames guests actor (commands.Reclaim frame) part stock → HasFrame stock frame
unfolding command_pages
reclaim_has frames guests actor frame part stock may = frame_has part.standing (commands.Reclaim frame) 0 (record { part = Target; frame = frame }) stock may.has refl

pub source_has : (frames : ℕ) (guests : List GuestSpec) (actor guest source target : ℕ) (part : ActorPart) (stock : Stock) → MayCommit frames guests actor (commands.PageMove guest source target) part stock → HasFrame stock source
unfolding command_pages
source_has frames guests actor guest source target part stock may = frame_has part.standing (commands.PageMove guest source target) 0 (record { part = Source; frame = source }) stock may.has refl

pub target_has : (frames : ℕ) (guests : List GuestSpec) (actor guest source target : ℕ) (part : ActorPart) (stock : Stock) → MayCommit frames guests actor (commands.PageMove guest source target) part stock → HasFrame stock target
unfolding command_pages
target_has frames guests actor guest source target part stock may = frame_has part.standing (commands.PageMove guest source target) 1 (record { part = Target; frame = target }) stock may.has refl

-- Its locks

-- an attempt without the lock of a context holds none
pub holds_no_context : (actor : ℕ) (part : ActorPart) (stock : Stock) → OwnsContext actor part (context_holders_of stock.contexts) → part.standing.context_lock ≡ None → HoldsNoContext actor stock
holds_no_context actor part stock owns none guest held = true≢false (sym (owns.only guest held) ∙ ap (is_locked guest) none)

-- that of a command that names no guest has none
lock_none : (frames : ℕ) (guests : List GuestSpec) (actor : ℕ) (command : Command) (part : ActorPart) (stock : Stock) → MayCommit frames guests actor command part stock → guest_of command ≡ None → part.standing.context_lock ≡ None
lock_none frames guests actor command part stock may none = by_lock part.standing.context_lock refl
  where
    by_lock : (locked : Option ℕ) → part.standing.context_lock ≡ locked → locked ≡ None
    by_lock None is = refl
    by_lock (Some guest) is = absurd (let e = sym (may.tested.context guest is).guest_is ∙ none in cc)

pub guestless_recontexted : (frames : ℕ) (guests : List GuestSpec) (actor : ℕ) (command : Command) (part : ActorPart) (old new : Stock) → MayCommit frames guests actor command part old → guest_of command ≡ None → new.contexts ≡ old.contexts
    → context_holders_of new.contexts ≡ recontexted actor None (context_holders_of old.contexts)
guestless_recontexted frames guests actor command part old new may none same =
    ap context_holders_of same ∙ context_unlocked old actor (holds_no_context actor part old may.owns_context (lock_none frames guests actor command part old may none))

no_locks : (locks : List PageLock) → length locks ≤ 0 → locks ≡ []
no_locks [] none = refl
no_locks (lock ∷ locks) none = absurd (omega arith)

-- that of a command without pages has no lock of a page
pub pageless_relocked : (frames : ℕ) (guests : List GuestSpec) (actor : ℕ) (command : Command) (part : ActorPart) (old new : Stock) → MayCommit frames guests actor command part old → length (command_pages command) ≡ 0 → new.bays ≡ old.bays
    → holders_of new.bays ≡ relocked actor [] (holders_of old.bays)
pageless_relocked frames guests actor command part old new may none same =
    let few = few_locks frames guests (contents_of old guests) command part.standing (ready frames guests actor command part old may) in
    let locks = no_locks part.standing.locks (omega arith) in
    ap holders_of same
    ∙ sym (relocked_none actor (holders_of old.bays) (λ frame held. true≢false (sym (may.owns.only frame held) ∙ ap (λ (ls : List PageLock). locks_frame frame (record part { standing = record part.standing { locks = ls } })) locks)))

-- one with the lock of a context holds it, and still does where contexts stay
pub still_holds : (actor guest : ℕ) (part : ActorPart) (stock other : Stock) → OwnsContext actor part (context_holders_of stock.contexts) → part.standing.context_lock ≡ Some guest → other.contexts ≡ stock.contexts → HoldsContext actor guest other
still_holds actor guest part stock other owns locked same =
    let held = holds_context actor guest part stock owns locked in
    record {
      has = ap (λ (contexts : GuestContexts). context_holders_of contexts guest) same ∙ held.has;
      only = λ g is. held.only g (ap (λ (contexts : GuestContexts). context_holders_of contexts g) (sym same) ∙ is);
    }

-- What it shows

-- its end releases all locks
pub none_left : (shown : Shown) (standing : Standing) → shown.outcome ≡ Some (Firmware success) → [] ≡ locks_by shown standing
none_left shown standing ended = ap (λ (o : Option Outcome). locks_left o (standing_by shown standing).locks) (sym ended)

pub no_context_left : (shown : Shown) (standing : Standing) → shown.outcome ≡ Some (Firmware success) → None ≡ context_by shown standing
no_context_left shown standing ended = ap (λ (o : Option Outcome). context_left o (standing_by shown standing).context_lock) (sym ended)

pub takes_none : {A : Type 0} (lock : Option A) → lock ≡ None → IsSome lock → ⊥
takes_none None is some = cc
takes_none (Some taken) is some = cc

-- the target of page_move has the same number once the context is released
abbrev pub shows_target : ℕ → Bays → Shown
shows_target target bays = record { deed = small_shown target (pages_of bays target).facts.gpn; outcome = Some (Firmware success); lock = None }

pub target_shown : (target : ℕ) (one other : Bays) → one ≡ other → shows_target target one ≡ shows_target target other
target_shown target one other same = ap (shows_target target) same
