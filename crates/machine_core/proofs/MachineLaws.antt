-- What one event of the machine's functions makes of the state that the machine stands for.
use Rattle.std.proofs.Common.{◌≡◌, ℕ, ◌-◌, ◌*◌, ◌<◌, ◌≤◌, List, length, sym, ap, ◌∙◌, subst}
use Rattle.std.proofs.Math.ListN.{get_or, set, length-set}
use Rattle.std.proofs.lemmas.List.{get_or_read, get_or-set_same}
use Rattle.snp_model.specs.declared.event.Event.{Event}
use Rattle.snp_model.specs.declared.scenario.GuestSpec.{GuestSpec}
use Rattle.snp_model.specs.HeldContexts.{HeldContext}
use Rattle.snp_model.specs.Locks.{context_holder_of, holder_of, view_of}
use Rattle.snp_model.specs.State.{ActorPart, IsUnfinished, State, View, idle_part, part_of}
use Rattle.snp_model.specs.Step.{Stepped, event_of, after, step_of}
use Rattle.run_laws.specs.KeptLocks.{IsTestedAt, KeepsLocks, OwnsContext, OwnsLocks, recontexted, relocked}
use Rattle.run_laws.specs.OpenAttempts.{IsWalking}
use Rattle.run_laws.specs.Ready.{IsReady, AreReady}
use Rattle.run_laws.proofs.ContextLaws.{context_holders_after, owns_context}
use Rattle.run_laws.proofs.HolderLaws.{holders_after, owns_locks}
use Rattle.run_laws.proofs.LockedLaws.{step_keeps_locks}
use Rattle.run_laws.proofs.ReadyLaws.{after_ready}
use Rattle.run_laws.proofs.RunLaws.{unfinished_at}
use Rattle.machine_core.specs.declared.bay.Bay.{Bay}
use Rattle.machine_core.specs.Bays.{HasAll, contents_of, context_holders_of, holders_of, locks_of, own_bays, own_contexts, own_stock, view_on}
use Rattle.machine_core.specs.Machine.{IsMachine, state_of}
use Rattle.machine_core.proofs.SeeingLaws.{machine_with, sees_state}
use Rattle.machine_core.proofs.TouchLaws.{own_has}

-- the step of an actor over these bays
abbrev own_step : List Bay → List HeldContext → List GuestSpec → ActorPart → Stepped
own_step bays contexts guests part = step_of (512 * length bays) guests part (view_on (own_stock bays contexts) guests)

-- an actor's part was read from the list, and its step was made
pub record IsMade (bays new_bays : List Bay) (contexts new_contexts : List HeldContext) (guests : List GuestSpec) (actors : List ActorPart) (actor : ℕ) (part new_part : ActorPart) (event : Event) : Type 0 where
  pub part_is : part ≡ get_or actors (actor - 1) idle_part
  pub event_is : event ≡ (own_step bays contexts guests part).event
  pub part_becomes : new_part ≡ (own_step bays contexts guests part).part
  pub contents_become : contents_of (own_stock new_bays new_contexts) guests ≡ (own_step bays contexts guests part).contents
  pub locks_become : (locks_of (own_stock new_bays new_contexts)).holder ≡ relocked actor new_part.standing.locks (locks_of (own_stock bays contexts)).holder
  pub context_locks_become : (locks_of (own_stock new_bays new_contexts)).context_holder ≡ recontexted actor new_part.standing.context_lock (locks_of (own_stock bays contexts)).context_holder
  pub regions_stay : length new_bays ≡ length bays
  pub contexts_stay : length new_contexts ≡ length contexts

step_is : (bays new_bays : List Bay) (contexts new_contexts : List HeldContext) (guests : List GuestSpec) (actors : List ActorPart) (actor : ℕ) (part new_part : ActorPart) (event : Event) → IsMade bays new_bays contexts new_contexts guests actors actor part new_part event
    → IsMachine (machine_with bays contexts guests actors)
    → own_step bays contexts guests part ≡ step_of (512 * length bays) guests (get_or actors (actor - 1) idle_part) (view_of (state_of (machine_with bays contexts guests actors)))
step_is bays new_bays contexts new_contexts guests actors actor part new_part event made machine = λ i. step_of (512 * length bays) guests (made.part_is i) (machine.sees i)

pub event_made : (bays new_bays : List Bay) (contexts new_contexts : List HeldContext) (guests : List GuestSpec) (actors : List ActorPart) (actor : ℕ) (part new_part : ActorPart) (event : Event) → IsMade bays new_bays contexts new_contexts guests actors actor part new_part event
    → IsMachine (machine_with bays contexts guests actors) → event ≡ event_of (state_of (machine_with bays contexts guests actors)) actor
unfolding event_of
event_made bays new_bays contexts new_contexts guests actors actor part new_part event made machine =
    made.event_is ∙ ap (λ (step : Stepped). step.event) (step_is bays new_bays contexts new_contexts guests actors actor part new_part event made machine)

pub after_made : (bays new_bays : List Bay) (contexts new_contexts : List HeldContext) (guests : List GuestSpec) (actors : List ActorPart) (actor : ℕ) (part new_part : ActorPart) (event : Event) → IsMade bays new_bays contexts new_contexts guests actors actor part new_part event
    → IsMachine (machine_with bays contexts guests actors)
    → state_of (machine_with new_bays new_contexts guests (set actors (actor - 1) new_part)) ≡ after (state_of (machine_with bays contexts guests actors)) actor
unfolding after
after_made bays new_bays contexts new_contexts guests actors actor part new_part event made machine =
    let step = step_is bays new_bays contexts new_contexts guests actors actor part new_part event made machine in
    let contents = made.contents_become ∙ ap (λ (s : Stepped). s.contents) step in
    let parts = made.part_becomes ∙ ap (λ (s : Stepped). s.part) step in
    λ i. record { frames = 512 * made.regions_stay i; guests = guests; contents = contents i; actors = set actors (actor - 1) (parts i) }

-- the locks of the bays are those of the state, and so after an event
bays_hold : (bays : List Bay) (contexts : List HeldContext) (guests : List GuestSpec) (actors : List ActorPart) → IsMachine (machine_with bays contexts guests actors) → holders_of (own_bays bays) ≡ holder_of (state_of (machine_with bays contexts guests actors))
bays_hold bays contexts guests actors machine = ap (λ (v : View). v.holder) machine.sees

-- an unfinished actor's walk is one that its item calls for
walks : (m : State) (actor : ℕ) → AreReady m → IsUnfinished m actor → IsWalking m.frames (part_of m actor)
walks m actor ready unfinished = (ready (actor - 1) idle_part (unfinished_at m actor unfinished).within).bounded.walking

holders_made : (bays new_bays : List Bay) (contexts new_contexts : List HeldContext) (guests : List GuestSpec) (actors : List ActorPart) (actor : ℕ) (part new_part : ActorPart) (event : Event) → IsMade bays new_bays contexts new_contexts guests actors actor part new_part event
    → IsUnfinished (state_of (machine_with bays contexts guests actors)) actor → IsMachine (machine_with bays contexts guests actors)
    → holders_of (own_bays new_bays) ≡ holder_of (state_of (machine_with new_bays new_contexts guests (set actors (actor - 1) new_part)))
holders_made bays new_bays contexts new_contexts guests actors actor part new_part event made unfinished machine =
    let m = state_of (machine_with bays contexts guests actors) in
    let next = after_made bays new_bays contexts new_contexts guests actors actor part new_part event made machine in
    let u = unfinished_at m actor unfinished in
    let part_is : new_part ≡ part_of (after m actor) actor = sym (get_or-set_same actors (actor - 1) new_part idle_part u.within) ∙ ap (λ (s : State). part_of s actor) next in
    made.locks_become
    ∙ (λ i. relocked actor (part_is i).standing.locks (bays_hold bays contexts guests actors machine i))
    ∙ sym (holders_after m actor machine.locks (walks m actor machine.ready unfinished) u.numbered)
    ∙ ap holder_of (sym next)

-- so the holders of contexts
pub contexts_hold : (bays : List Bay) (contexts : List HeldContext) (guests : List GuestSpec) (actors : List ActorPart) → IsMachine (machine_with bays contexts guests actors)
    → context_holders_of (own_contexts contexts) ≡ context_holder_of (state_of (machine_with bays contexts guests actors))
contexts_hold bays contexts guests actors machine = ap (λ (v : View). v.context_holder) machine.sees

context_holders_made : (bays new_bays : List Bay) (contexts new_contexts : List HeldContext) (guests : List GuestSpec) (actors : List ActorPart) (actor : ℕ) (part new_part : ActorPart) (event : Event) → IsMade bays new_bays contexts new_contexts guests actors actor part new_part event
    → IsUnfinished (state_of (machine_with bays contexts guests actors)) actor → IsMachine (machine_with bays contexts guests actors)
    → context_holders_of (own_contexts new_contexts) ≡ context_holder_of (state_of (machine_with new_bays new_contexts guests (set actors (actor - 1) new_part)))
context_holders_made bays new_bays contexts new_contexts guests actors actor part new_part event made unfinished machine =
    let m = state_of (machine_with bays contexts guests actors) in
    let next = after_made bays new_bays contexts new_contexts guests actors actor part new_part event made machine in
    let u = unfinished_at m actor unfinished in
    let part_is : new_part ≡ part_of (after m actor) actor = sym (get_or-set_same actors (actor - 1) new_part idle_part u.within) ∙ ap (λ (s : State). part_of s actor) next in
    made.context_locks_become
    ∙ (λ i. recontexted actor (part_is i).standing.context_lock (contexts_hold bays contexts guests actors machine i))
    ∙ sym (context_holders_after m actor machine.locks (walks m actor machine.ready unfinished) u.numbered)
    ∙ ap context_holder_of (sym next)

-- the machine after an event
pub machine_made : (bays new_bays : List Bay) (contexts new_contexts : List HeldContext) (guests : List GuestSpec) (actors : List ActorPart) (actor : ℕ) (part new_part : ActorPart) (event : Event) → IsMade bays new_bays contexts new_contexts guests actors actor part new_part event
    → IsUnfinished (state_of (machine_with bays contexts guests actors)) actor → IsMachine (machine_with bays contexts guests actors)
    → IsMachine (machine_with new_bays new_contexts guests (set actors (actor - 1) new_part))
machine_made bays new_bays contexts new_contexts guests actors actor part new_part event made unfinished machine =
    let m = state_of (machine_with bays contexts guests actors) in
    let next = sym (after_made bays new_bays contexts new_contexts guests actors actor part new_part event made machine) in
    let ready = subst AreReady next (after_ready m actor machine.ready unfinished) in
    let keeps = subst KeepsLocks next (step_keeps_locks m actor machine.locks (walks m actor machine.ready unfinished)) in
    record {
      few_regions = subst (λ (n : ℕ). n ≤ 16) (sym made.regions_stay) machine.few_regions;
      few_guests = machine.few_guests;
      contexts_all = made.contexts_stay ∙ machine.contexts_all;
      few = subst (λ (n : ℕ). n ≤ 32) (sym (length-set actors (actor - 1) new_part)) machine.few;
      ready = ready;
      locks = keeps;
      sees = sees_state new_bays new_contexts guests (set actors (actor - 1) new_part) (holders_made bays new_bays contexts new_contexts guests actors actor part new_part event made unfinished machine)
          (context_holders_made bays new_bays contexts new_contexts guests actors actor part new_part event made unfinished machine);
    }

-- the actor that a read of the list gives
pub part_read : (bays : List Bay) (contexts : List HeldContext) (guests : List GuestSpec) (actors : List ActorPart) (actor : ℕ) (part : ActorPart) → IsUnfinished (state_of (machine_with bays contexts guests actors)) actor → part ≡ get_or actors (actor - 1) part → part ≡ get_or actors (actor - 1) idle_part
part_read bays contexts guests actors actor part unfinished read = get_or_read actors (actor - 1) part (unfinished_at (state_of (machine_with bays contexts guests actors)) actor unfinished).within read idle_part

-- it is ready, and not finished
pub ready_read : (bays : List Bay) (contexts : List HeldContext) (guests seen : List GuestSpec) (actors : List ActorPart) (actor frames : ℕ) (part : ActorPart) → frames ≡ 512 * length bays → seen ≡ guests → part ≡ get_or actors (actor - 1) part
    → IsUnfinished (state_of (machine_with bays contexts guests actors)) actor → IsMachine (machine_with bays contexts guests actors) → IsReady frames seen part
ready_read bays contexts guests seen actors actor frames part frames_are seen_is read unfinished machine =
    let u = unfinished_at (state_of (machine_with bays contexts guests actors)) actor unfinished in
    let ready = subst (IsReady (512 * length bays) guests) (sym (part_read bays contexts guests actors actor part unfinished read)) (machine.ready (actor - 1) idle_part u.within) in
    subst (λ (n : ℕ). IsReady n seen part) (sym frames_are) (subst (λ (gs : List GuestSpec). IsReady (512 * length bays) gs part) (sym seen_is) ready)

pub line_read : (bays : List Bay) (contexts : List HeldContext) (guests : List GuestSpec) (actors : List ActorPart) (actor : ℕ) (part : ActorPart) → part ≡ get_or actors (actor - 1) part
    → IsUnfinished (state_of (machine_with bays contexts guests actors)) actor → part.item < length part.script
line_read bays contexts guests actors actor part read unfinished =
    subst (λ (p : ActorPart). p.item < length p.script) (sym (part_read bays contexts guests actors actor part unfinished read)) (unfinished_at (state_of (machine_with bays contexts guests actors)) actor unfinished).has_line

-- its locks are those that its open attempt has taken
pub owns_read : (bays : List Bay) (contexts : List HeldContext) (guests : List GuestSpec) (actors : List ActorPart) (actor : ℕ) (part : ActorPart) → part ≡ get_or actors (actor - 1) part
    → IsUnfinished (state_of (machine_with bays contexts guests actors)) actor → IsMachine (machine_with bays contexts guests actors) → OwnsLocks actor part (locks_of (own_stock bays contexts)).holder
owns_read bays contexts guests actors actor part read unfinished machine =
    let m = state_of (machine_with bays contexts guests actors) in
    subst (OwnsLocks actor part) (sym (bays_hold bays contexts guests actors machine))
    (subst (λ (p : ActorPart). OwnsLocks actor p (holder_of m)) (sym (part_read bays contexts guests actors actor part unfinished read)) (owns_locks m actor machine.locks (unfinished_at m actor unfinished).numbered))

-- so is the context that it has locked
pub owns_context_read : (bays : List Bay) (contexts : List HeldContext) (guests : List GuestSpec) (actors : List ActorPart) (actor : ℕ) (part : ActorPart) → part ≡ get_or actors (actor - 1) part
    → IsUnfinished (state_of (machine_with bays contexts guests actors)) actor → IsMachine (machine_with bays contexts guests actors) → OwnsContext actor part (locks_of (own_stock bays contexts)).context_holder
owns_context_read bays contexts guests actors actor part read unfinished machine =
    let m = state_of (machine_with bays contexts guests actors) in
    subst (OwnsContext actor part) (sym (contexts_hold bays contexts guests actors machine))
    (subst (λ (p : ActorPart). OwnsContext actor p (context_holder_of m)) (sym (part_read bays contexts guests actors actor part unfinished read)) (owns_context m actor machine.locks (unfinished_at m actor unfinished).numbered))

-- and what their tests asked holds
pub tested_read : (bays : List Bay) (contexts : List HeldContext) (guests seen : List GuestSpec) (actors : List ActorPart) (actor frames : ℕ) (part : ActorPart) → frames ≡ 512 * length bays → seen ≡ guests → part ≡ get_or actors (actor - 1) part
    → IsUnfinished (state_of (machine_with bays contexts guests actors)) actor → IsMachine (machine_with bays contexts guests actors) → IsTestedAt frames seen (view_on (own_stock bays contexts) seen).contents part
tested_read bays contexts guests seen actors actor frames part frames_are seen_is read unfinished machine =
    let tested = subst (IsTestedAt (512 * length bays) guests (contents_of (own_stock bays contexts) guests)) (sym (part_read bays contexts guests actors actor part unfinished read)) (machine.locks.tested (actor - 1)) in
    subst (λ (n : ℕ). IsTestedAt n seen (contents_of (own_stock bays contexts) seen) part) (sym frames_are)
    (subst (λ (gs : List GuestSpec). IsTestedAt (512 * length bays) gs (contents_of (own_stock bays contexts) gs) part) (sym seen_is) tested)

-- and the bays have what its next event touches
pub has_read : (bays : List Bay) (contexts : List HeldContext) (guests seen : List GuestSpec) (actors : List ActorPart) (actor frames : ℕ) (part : ActorPart) → frames ≡ 512 * length bays → seen ≡ guests → part ≡ get_or actors (actor - 1) part
    → IsUnfinished (state_of (machine_with bays contexts guests actors)) actor → IsMachine (machine_with bays contexts guests actors) → HasAll frames seen part (own_stock bays contexts)
has_read bays contexts guests seen actors actor frames part frames_are seen_is read unfinished machine =
    let ready = ready_read bays contexts guests seen actors actor (512 * length bays) part (λ i. 512 * length bays) seen_is read unfinished machine in
    let tested = tested_read bays contexts guests seen actors actor (512 * length bays) part (λ i. 512 * length bays) seen_is read unfinished machine in
    subst (λ (n : ℕ). HasAll n seen part (own_stock bays contexts)) (sym frames_are)
    (own_has bays contexts seen (contents_of (own_stock bays contexts) seen) part (machine.contexts_all ∙ sym (ap (λ (gs : List GuestSpec). length gs) seen_is)) ready (line_read bays contexts guests actors actor part read unfinished) tested)

-- the step as the function that makes it says it, of the size of memory and the guests that it was given
pub made : (bays new_bays : List Bay) (contexts new_contexts : List HeldContext) (guests seen : List GuestSpec) (actors : List ActorPart) (actor frames : ℕ) (part new_part : ActorPart) (event : Event)
    → frames ≡ 512 * length bays → seen ≡ guests → IsUnfinished (state_of (machine_with bays contexts guests actors)) actor → part ≡ get_or actors (actor - 1) part
    → event ≡ (step_of frames seen part (view_on (own_stock bays contexts) seen)).event
    → new_part ≡ (step_of frames seen part (view_on (own_stock bays contexts) seen)).part
    → contents_of (own_stock new_bays new_contexts) seen ≡ (step_of frames seen part (view_on (own_stock bays contexts) seen)).contents
    → (locks_of (own_stock new_bays new_contexts)).holder ≡ relocked actor new_part.standing.locks (locks_of (own_stock bays contexts)).holder
    → (locks_of (own_stock new_bays new_contexts)).context_holder ≡ recontexted actor new_part.standing.context_lock (locks_of (own_stock bays contexts)).context_holder
    → length new_bays ≡ length bays → length new_contexts ≡ length contexts
    → IsMade bays new_bays contexts new_contexts guests actors actor part new_part event
made bays new_bays contexts new_contexts guests seen actors actor frames part new_part event frames_are seen_is unfinished read event_is becomes contents locks context_locks regions_stay contexts_stay =
    let step : step_of frames seen part (view_on (own_stock bays contexts) seen) ≡ own_step bays contexts guests part = λ i. step_of (frames_are i) (seen_is i) part (view_on (own_stock bays contexts) (seen_is i)) in
    record {
      part_is = part_read bays contexts guests actors actor part unfinished read;
      event_is = event_is ∙ ap (λ (s : Stepped). s.event) step;
      part_becomes = becomes ∙ ap (λ (s : Stepped). s.part) step;
      contents_become = ap (contents_of (own_stock new_bays new_contexts)) (sym seen_is) ∙ contents ∙ ap (λ (s : Stepped). s.contents) step;
      locks_become = locks;
      context_locks_become = context_locks;
      regions_stay = regions_stay;
      contexts_stay = contexts_stay;
    }
