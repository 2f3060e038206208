-- So in every run, whatever items a scenario has: from an opening whose pages of 2 MB are whole.
use Rattle.std.proofs.Common.{◌≡◌, ℕ, zero, suc, ◌-◌, ◌<◌, Bool, true, false, List, [], ◌∷◌, map, Option, Some, None, refl, sym, ap, ◌∙◌, subst, ⊎_elim, arith}
use Rattle.std.proofs.lemmas.Bool.{cases_eq, true≢false}
use Rattle.snp_model.specs.declared.entry.Kind.TheVariants as kinds
use Rattle.snp_model.specs.declared.entry.RmpEntry.{RmpEntry}
use Rattle.snp_model.specs.declared.event.Outcome.{Outcome}
use Rattle.snp_model.specs.declared.item.Item.{Item}
use Rattle.snp_model.specs.declared.scenario.Actor.{Actor}
use Rattle.snp_model.specs.declared.scenario.GuestSpec.{GuestSpec}
use Rattle.snp_model.specs.declared.scenario.Role.{Role}
use Rattle.snp_model.specs.declared.scenario.Role.TheVariants.{Host}
use Rattle.snp_model.specs.declared.scenario.Scenario.{Scenario}
use Rattle.snp_model.specs.Locks.{locks_frame, locks_context}
use Rattle.snp_model.specs.Moves.{Move}
use Rattle.snp_model.specs.Opening.{opening, opening_part}
use Rattle.snp_model.specs.Run.{state_from, state_after, IsDefined, IsDefinedFrom}
use Rattle.snp_model.specs.State.{Page, Pages, Contents, ActorPart, State, part_of, idle_part, IsUnfinished}
use Rattle.snp_model.specs.Step.{part_after, after}
use Rattle.run_laws.specs.HeldLocks.{AreExclusive, HasThroughout, StaysAs, AreTested, AreLocked}
use Rattle.run_laws.specs.KeptLocks.{actor_at, AreWholePages, IsTestedAt, KeepsLocks}
use Rattle.run_laws.specs.OpenAttempts.{IsWalking, AreWalking}
use Rattle.run_laws.specs.Shapes.{AreShaped}
use Rattle.run_laws.proofs.LockLaws.{not_true}
use Rattle.run_laws.proofs.LockedLaws.{step_keeps_locks, move_at, move_locks, nothing_tested}
use Rattle.run_laws.proofs.LockedMoves.{IsFirm, firm_itself, MoveLocks}
use Rattle.run_laws.proofs.OpenAttemptsLaws.{after_walking, opening_walking}
use Rattle.run_laws.proofs.RunLaws.{unfinished_at, after_part}

-- an actor that makes an event walks
pub part_walking : (m : State) (actor : ℕ) → AreWalking m → IsUnfinished m actor → IsWalking m.frames (part_of m actor)
part_walking m actor walking unfinished = walking (actor - 1) idle_part (unfinished_at m actor unfinished).within

pub run_keeps_locks : (m : State) (s : List ℕ) → IsDefinedFrom m s → AreWalking m → KeepsLocks m → KeepsLocks (state_from m s)
unfolding state_from IsDefinedFrom
run_keeps_locks m [] d walking keeps = keeps
run_keeps_locks m (a ∷ s) d walking keeps =
    run_keeps_locks (after m a) s d.1 (after_walking m a walking d.0) (step_keeps_locks m a keeps (part_walking m a walking d.0))

-- what is locked stays

-- nothing stays locked where an attempt has ended
ended_locks_none : (part : ActorPart) (move : Move) (outcome : Outcome) (frame : ℕ) → locks_frame frame (part_after part move (Some outcome)) ≡ false
unfolding part_after
ended_locks_none part move outcome frame = refl

ended_contexts_none : (part : ActorPart) (move : Move) (outcome : Outcome) (guest : ℕ) → locks_context guest (part_after part move (Some outcome)) ≡ false
unfolding part_after
ended_contexts_none part move outcome guest = refl

-- an event leaves a frame firm that an actor has locked before it and after it
own_firm : (m : State) (actor frame : ℕ) (role : Role) (item : Item) (move : Move) (outcome : Option Outcome) → move.outcome ≡ outcome → MoveLocks m (part_of m actor) role item move
    → locks_frame frame (part_after (part_of m actor) move outcome) ≡ true → IsFirm (move.contents.pages frame) (m.contents.pages frame)
own_firm m actor frame role item move None is locks locked =
    subst (λ (pages : Pages). IsFirm (pages frame) (m.contents.pages frame)) (sym (ap (λ (c : Contents). c.pages) (locks.goes_on is).still)) (firm_itself (m.contents.pages frame))
own_firm m actor frame role item move (Some outcome) is locks locked = absurd (true≢false (sym locked ∙ ended_locks_none (part_of m actor) move outcome frame))

own_context : (m : State) (actor guest : ℕ) (role : Role) (item : Item) (move : Move) (outcome : Option Outcome) → move.outcome ≡ outcome → MoveLocks m (part_of m actor) role item move
    → locks_context guest (part_after (part_of m actor) move outcome) ≡ true → move.contents.contexts guest ≡ m.contents.contexts guest
own_context m actor guest role item move None is locks locked = ap (λ (c : Contents). c.contexts guest) (locks.goes_on is).still
own_context m actor guest role item move (Some outcome) is locks locked = absurd (true≢false (sym locked ∙ ended_contexts_none (part_of m actor) move outcome guest))

-- the actor's part after its event
part_then : (m : State) (actor : ℕ) → IsUnfinished m actor → part_of (after m actor) actor ≡ part_after (part_of m actor) (move_at m actor) (move_at m actor).outcome
part_then m actor unfinished = after_part m actor (unfinished_at m actor unfinished).within

-- two numbers of one place are of one part
same_place : (m : State) (a b : ℕ) → a - 1 ≡ b - 1 → part_of m a ≡ part_of m b
same_place m a b same = ap (actor_at m.actors) same

-- so any event
locked_firm : (m : State) (a holder frame : ℕ) → KeepsLocks m → AreWalking m → IsUnfinished m a → locks_frame frame (part_of m holder) ≡ true → locks_frame frame (part_of (after m a) holder) ≡ true
    → IsFirm ((after m a).contents.pages frame) (m.contents.pages frame)
unfolding after
locked_firm m a holder frame keeps walking unfinished before now =
    let locks = move_locks m a keeps (part_walking m a walking unfinished) in
    let move = move_at m a in
    ⊎_elim
    (λ (same : holder - 1 ≡ a - 1). own_firm m a frame _ _ move move.outcome refl locks
    (subst (λ (part : ActorPart). locks_frame frame part ≡ true) (part_then m a unfinished) (subst (λ (part : ActorPart). locks_frame frame part ≡ true) (same_place (after m a) holder a same) now)))
    (λ (other : holder - 1 ≡ a - 1 → ⊥). locks.own frame (not_true (locks_frame frame (part_of m a)) (λ own. other (keeps.one.pages_by_one (holder - 1) (a - 1) frame before own))))
    (cases_eq (holder - 1) (a - 1))

locked_context : (m : State) (a holder guest : ℕ) → KeepsLocks m → AreWalking m → IsUnfinished m a → locks_context guest (part_of m holder) ≡ true → locks_context guest (part_of (after m a) holder) ≡ true
    → (after m a).contents.contexts guest ≡ m.contents.contexts guest
unfolding after
locked_context m a holder guest keeps walking unfinished before now =
    let locks = move_locks m a keeps (part_walking m a walking unfinished) in
    let move = move_at m a in
    ⊎_elim
    (λ (same : holder - 1 ≡ a - 1). own_context m a guest _ _ move move.outcome refl locks
    (subst (λ (part : ActorPart). locks_context guest part ≡ true) (part_then m a unfinished) (subst (λ (part : ActorPart). locks_context guest part ≡ true) (same_place (after m a) holder a same) now)))
    (λ (other : holder - 1 ≡ a - 1 → ⊥). locks.own_contexts guest (not_true (locks_context guest (part_of m a)) (λ own. other (keeps.one.contexts_by_one (holder - 1) (a - 1) guest before own))))
    (cases_eq (holder - 1) (a - 1))

-- a metadata page is assigned and immutable
pub record IsMetadataFirm (facts : RmpEntry) : Type 0 where
  pub firm : facts.kind ≡ kinds.Metadata → (facts.assigned ≡ true) × (facts.immutable ≡ true)

stays_itself : (page : Page) → StaysAs page page
stays_itself page = record { facts = refl; words = λ _. refl }

first_locked : (locks : ActorPart → Bool) (holder : ℕ) (m : State) (s : List ℕ) → HasThroughout locks holder m s → locks (part_of m holder) ≡ true
unfolding HasThroughout
first_locked locks holder m [] has = has
first_locked locks holder m (a ∷ s) has = has.0

page_stays : (m : State) (holder frame : ℕ) (s : List ℕ) → IsDefinedFrom m s → AreWalking m → KeepsLocks m → IsMetadataFirm (m.contents.pages frame).facts → HasThroughout (locks_frame frame) holder m s
    → StaysAs (m.contents.pages frame) ((state_from m s).contents.pages frame)
unfolding state_from IsDefinedFrom HasThroughout
page_stays m holder frame [] d walking keeps metadata has = stays_itself (m.contents.pages frame)
page_stays m holder frame (a ∷ s) d walking keeps metadata has =
    let next = after m a in
    let firm = locked_firm m a holder frame keeps walking d.0 has.0 (first_locked (locks_frame frame) holder next s has.1) in
    let rest = page_stays next holder frame s d.1 (after_walking m a walking d.0) (step_keeps_locks m a keeps (part_walking m a walking d.0)) (subst IsMetadataFirm (sym firm.facts) metadata) has.1 in
    record {
      facts = rest.facts ∙ firm.facts;
      words = λ is. let both = metadata.firm is in rest.words (ap (λ (facts : RmpEntry). facts.kind) firm.facts ∙ is) ∙ firm.words both.0 both.1;
    }

context_stays : (m : State) (holder guest : ℕ) (s : List ℕ) → IsDefinedFrom m s → AreWalking m → KeepsLocks m → HasThroughout (locks_context guest) holder m s
    → (state_from m s).contents.contexts guest ≡ m.contents.contexts guest
unfolding state_from IsDefinedFrom HasThroughout
context_stays m holder guest [] d walking keeps has = refl
context_stays m holder guest (a ∷ s) d walking keeps has =
    context_stays (after m a) holder guest s d.1 (after_walking m a walking d.0) (step_keeps_locks m a keeps (part_walking m a walking d.0)) has.1
    ∙ locked_context m a holder guest keeps walking d.0 has.0 (first_locked (locks_context guest) holder (after m a) s has.1)

-- all of it

one_number : (a b : ℕ) → 0 < a → 0 < b → a - 1 ≡ b - 1 → a ≡ b
one_number a b some_a some_b same = omega arith

are_exclusive : (m : State) → KeepsLocks m → AreExclusive m
are_exclusive m keeps = record {
  frames = λ frame one other some_one some_other a b. one_number one other some_one some_other (keeps.one.pages_by_one (one - 1) (other - 1) frame a b);
  contexts = λ guest one other some_one some_other a b. one_number one other some_one some_other (keeps.one.contexts_by_one (one - 1) (other - 1) guest a b);
}

pub are_locked : (m : State) → KeepsLocks m → AreWalking m → ((frame : ℕ) → IsMetadataFirm (m.contents.pages frame).facts) → AreLocked m
are_locked m keeps walking metadata = record {
  exclusive = are_exclusive m keeps;
  tested = λ actor. keeps.tested (actor - 1);
  stays = record {
    pages = λ actor frame schedule defined has. page_stays m actor frame schedule defined walking keeps (metadata frame) has;
    contexts = λ actor guest schedule defined has. context_stays m actor guest schedule defined walking keeps has;
  };
}

-- at the opening nothing is locked
opening_standing : (actors : List Actor) (k : ℕ) (frame : ℕ) → locks_frame frame (actor_at (map opening_part actors) k) ≡ false
unfolding idle_part
opening_standing [] k frame = refl
opening_standing (actor ∷ actors) zero frame = refl
opening_standing (actor ∷ actors) (suc k) frame = opening_standing actors k frame

opening_contexts : (actors : List Actor) (k : ℕ) (guest : ℕ) → locks_context guest (actor_at (map opening_part actors) k) ≡ false
unfolding idle_part
opening_contexts [] k guest = refl
opening_contexts (actor ∷ actors) zero guest = refl
opening_contexts (actor ∷ actors) (suc k) guest = opening_contexts actors k guest

opening_tested : (frames : ℕ) (guests : List GuestSpec) (contents : Contents) (actors : List Actor) (k : ℕ) → IsTestedAt frames guests contents (actor_at (map opening_part actors) k)
unfolding idle_part
opening_tested frames guests contents [] k = nothing_tested frames guests contents Host _ []
opening_tested frames guests contents (actor ∷ actors) zero = nothing_tested frames guests contents actor.role _ []
opening_tested frames guests contents (actor ∷ actors) (suc k) = opening_tested frames guests contents actors k

pub opening_keeps_locks : (c : Scenario) → AreWholePages (opening c).contents.pages → KeepsLocks (opening c)
unfolding opening
opening_keeps_locks c whole = record {
  whole = whole;
  one = record {
    pages_by_one = λ j k frame locked. absurd (true≢false (sym locked ∙ opening_standing c.actors j frame));
    contexts_by_one = λ j k guest locked. absurd (true≢false (sym locked ∙ opening_contexts c.actors j guest));
    whole = λ k f g locked. absurd (true≢false (sym locked ∙ opening_standing c.actors k f));
  };
  tested = λ place. opening_tested _ _ _ c.actors place;
}

-- whole pages of 2 MB have frames of one size
pub shaped_whole : (m : State) → AreShaped m → AreWholePages m.contents.pages
shaped_whole m shaped = record {
  large = λ f g large same.
      let page = (shaped.whole f large).together g (sym same) in
      ap (λ (facts : RmpEntry). facts.size) page.alike ∙ large;
}

-- in every run: one holder for each lock, and what it has tested still holds
run_locks : (c : Scenario) (s : List ℕ) → AreShaped (opening c) → IsDefined c s → KeepsLocks (state_after c s)
run_locks c s shaped defined = run_keeps_locks (opening c) s defined (opening_walking c) (opening_keeps_locks c (shaped_whole (opening c) shaped))

pub run_exclusive : (c : Scenario) (s : List ℕ) → AreShaped (opening c) → IsDefined c s → AreExclusive (state_after c s)
run_exclusive c s shaped defined = are_exclusive (state_after c s) (run_locks c s shaped defined)

pub run_tested : (c : Scenario) (s : List ℕ) (actor : ℕ) → AreShaped (opening c) → IsDefined c s → AreTested (state_after c s) (part_of (state_after c s) actor)
run_tested c s actor shaped defined = (run_locks c s shaped defined).tested (actor - 1)
