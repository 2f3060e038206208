-- The events of a run are heard one by one, where each opened guest's accesses are legal.
use Rattle.std.proofs.Common.{◌≡◌, ℕ, zero, suc, ◌+◌, ◌-◌, ◌%◌, ◌^◌, ◌<◌, ◌≤◌, Bool, true, false, nat_lt, not, ◌&&◌, ◌||◌, List, [], ◌∷◌, ◌++◌, length, map, slice_get, get_or, Option, Some, Result, Ok, refl, sym, ap, ◌∙◌, subst, ⊎_elim, inl, inr, arith}
use Rattle.std.specs.Prelude.{◌==◌, slice_set}
use Rattle.std.proofs.lemmas.Bool.{cases_Bool, cases_eq, cond_both, eq-eqb, ne_eqb, true≢false}
use Rattle.std.proofs.lemmas.Bool.Decides.{nat_tests}
use Rattle.std.proofs.lemmas.Option.{slice_get-get_or}
use Rattle.snp_model.specs.declared.command.Command.TheVariants as commands
use Rattle.snp_model.specs.declared.entry.PageSize.{PageSize}
use Rattle.snp_model.specs.declared.entry.PageSize.TheVariants.{Small, Large}
use Rattle.snp_model.specs.declared.event.Deed.{Deed}
use Rattle.snp_model.specs.declared.event.Deed.TheVariants as deeds
use Rattle.snp_model.specs.declared.event.Event.{Event}
use Rattle.snp_model.specs.declared.event.Outcome.{Outcome}
use Rattle.snp_model.specs.declared.event.Outcome.TheVariants as outcomes
use Rattle.snp_model.specs.declared.item.Item.{Item}
use Rattle.snp_model.specs.declared.item.Item.TheVariants as items
use Rattle.snp_model.specs.declared.item.Line.{Line}
use Rattle.snp_model.specs.declared.scenario.Actor.{Actor}
use Rattle.snp_model.specs.declared.scenario.GuestSpec.{GuestSpec}
use Rattle.snp_model.specs.declared.scenario.Role.{Role}
use Rattle.snp_model.specs.declared.scenario.Role.TheVariants.{Cpu, Host, Firmware}
use Rattle.snp_model.specs.declared.scenario.Scenario.{Scenario}
use Rattle.snp_model.specs.GuestMemory.{Memory, Use, Untouched, IsLegal, IsLegalFrom, IsLegalUse, firmware_use, next_use, opening_memory, use_for, used}
use Rattle.snp_model.specs.Opening.{opening, opening_part}
use Rattle.snp_model.specs.Run.{IsDefined, IsDefinedFrom, run_from, run_of, state_after}
use Rattle.snp_model.specs.ScenarioLines.{is_opened, opened_of}
use Rattle.snp_model.specs.Sound.{IsSound}
use Rattle.snp_model.specs.State.{ActorPart, Contents, State, idle_part, part_of, IsUnfinished}
use Rattle.snp_model.specs.Step.{after, event_of, line_at, idle_line}
use Rattle.snp_model.specs.Verdicts.{is_large}
use Rattle.run_laws.proofs.RunLaws.{defined_none, defined_push, state_keeps, state_none, state_push, unfinished_at, was_unfinished_before}
use Rattle.run_theorems.specs.Ranges.{IsRanged}
use Rattle.run_theorems.proofs.RangeLaws.{run_ranged}
use Rattle.run_theorems.proofs.RunningLaws.{no_launch, opened_runs}
use Rattle.guest_memory.specs.Uses.{use_by}
use Rattle.guest_memory.proofs.BelongLaws.{next_use_by, own_belongs}
use Rattle.report_audit.specs.Again.{hear_events, opening_ledger}
use Rattle.report_audit.specs.Audit.{Ledger, hear_event, hear_of, heard_memories, memories_by, memories_from}
use Rattle.report_audit.specs.Ending.{runs_with}
use Rattle.report_audit.specs.Kinds.{is_commit, is_in_range, is_kind, is_some_opened, is_success, launched_for}
use Rattle.report_audit.specs.Told.{said_use, use_by_actor, use_by_role}
use Rattle.report_audit.proofs.MemoryLaws.{made_by}
use Rattle.report_audit.proofs.SoundLaws.{event_heard}

-- an unfinished actor is one of the scenario's, with its role and its script
pub record IsActorOf (c : Scenario) (m : State) (number : ℕ) : Type 0 where
  pub actor : Actor
  pub numbered : 0 < number
  pub at : slice_get c.actors (number - 1) ≡ Some actor
  pub role : (part_of m number).role ≡ actor.role
  pub script : (part_of m number).script ≡ actor.script
  pub line : slice_get actor.script (part_of m number).item ≡ Some (line_at (part_of m number).script (part_of m number).item)

record IsOpeningPart (actors : List Actor) (k : ℕ) : Type 0 where
  actor : Actor
  at : slice_get actors k ≡ Some actor
  is : get_or (map opening_part actors) k idle_part ≡ opening_part actor

part_at : (actors : List Actor) (k : ℕ) → k < length (map opening_part actors) → IsOpeningPart actors k
part_at [] k within = absurd (omega (arith, within))
part_at (actor ∷ actors) zero within = record { actor = actor; at = refl; is = refl }
part_at (actor ∷ actors) (suc k) within = let rest = part_at actors k (omega (arith, within)) in record { actor = rest.actor; at = rest.at; is = rest.is }

opening_at : (c : Scenario) (number : ℕ) → number - 1 < length (opening c).actors → IsOpeningPart c.actors (number - 1)
unfolding opening
opening_at c number within = part_at c.actors (number - 1) within

opening_is : (c : Scenario) (number : ℕ) (part : ActorPart) → get_or (map opening_part c.actors) (number - 1) idle_part ≡ part → part_of (opening c) number ≡ part
unfolding opening
opening_is c number part is = is

line_there : (script own : List Line) (k : ℕ) → script ≡ own → k < length script → slice_get own k ≡ Some (line_at script k)
line_there script own k same within = ap (λ (lines : List Line). slice_get lines k) (sym same) ∙ slice_get-get_or script k idle_line within

pub run_actor : (c : Scenario) (s : List ℕ) (number : ℕ) → IsUnfinished (state_after c s) number → IsActorOf c (state_after c s) number
run_actor c s number unfinished =
    let m = state_after c s in
    let now = unfinished_at m number unfinished in
    let first = unfinished_at (opening c) number (was_unfinished_before (opening c) s number unfinished) in
    let found = opening_at c number first.within in
    let kept = state_keeps (opening c) s number in
    let begun = opening_is c number (opening_part found.actor) found.is in
    let scripts = kept.script ∙ ap (λ (part : ActorPart). part.script) begun in
    record {
      actor = found.actor;
      numbered = now.numbered;
      at = found.at;
      role = kept.role ∙ ap (λ (part : ActorPart). part.role) begun;
      script = scripts;
      line = line_there (part_of m number).script found.actor.script (part_of m number).item scripts now.has_line;
    }

-- a processor's numbers are in range, as a test
below_is : (n most : ℕ) → n < most → nat_lt n most ≡ true
below_is n most small = grind (arith, nat_tests, small)

both_true : (a b : Bool) → a ≡ true → b ≡ true → (a && b) ≡ true
both_true a b first second = rw (first, second) refl

aligned_is : (size : PageSize) (gpn : ℕ) → (size ≡ Large → gpn % 512 ≡ 0) → (not (is_large size) || (gpn % 512 == 0)) ≡ true
aligned_is Small gpn aligned = refl
aligned_is Large gpn aligned = eq-eqb (gpn % 512) 0 (aligned refl)

in_range_is : (deed : Deed) → IsRanged deed → is_in_range deed ≡ true
in_range_is deeds.Begin ranged = refl
in_range_is (deeds.Nested frame index value) ranged = below_is index 512 ranged
in_range_is (deeds.Table gpn index frame value) ranged = both_true _ _ (below_is gpn (2 ^ 36) ranged.0) (below_is index 512 ranged.1)
in_range_is (deeds.Access gpn index frame private) ranged = both_true _ _ (below_is gpn (2 ^ 36) ranged.0) (below_is index 512 ranged.1)
in_range_is (deeds.Host frame index) ranged = below_is index 512 ranged
in_range_is (deeds.Lock frame) ranged = refl
in_range_is (deeds.LockContext guest) ranged = refl
in_range_is deeds.Compute ranged = refl
in_range_is (deeds.Commit frame gpn size) ranged = both_true _ _ (below_is gpn (2 ^ 36) ranged.0) (aligned_is size gpn ranged.1)
in_range_is (deeds.CommitContext guest) ranged = refl
in_range_is deeds.Control ranged = refl

-- no commit of a launch of a guest that is opened
abbrev NoLaunchOf : ℕ → Deed → Item → Type 0
NoLaunchOf guest deed item =
    (f page_type frame gpn : ℕ) (imi : Bool) (perms : List ℕ) (size : PageSize) → item ≡ items.Firmware (commands.LaunchUpdate guest f page_type imi perms) → deed ≡ deeds.Commit frame gpn size → ⊥

abbrev HasNoLaunch : List GuestSpec → Deed → Item → Type 0
HasNoLaunch guests deed item = (guest : ℕ) → is_opened guests guest ≡ true → NoLaunchOf guest deed item

pub run_no_launch : (c : Scenario) (s : List ℕ) (actor : ℕ) → IsSound c → IsDefined c s → (part_of (state_after c s) actor).role ≡ Firmware
    → HasNoLaunch c.guests (event_of (state_after c s) actor).deed (line_at (part_of (state_after c s) actor).script (part_of (state_after c s) actor).item).item
run_no_launch c s actor sound defined is guest opened f page_type frame gpn imi perms size item deed =
    no_launch c s actor guest f page_type frame gpn imi perms size sound defined (opened_runs c guest opened) is item deed

no_third : (b x : Bool) → x ≡ false → (true && b && x) ≡ false
no_third true x is = is
no_third false x is = refl

not_opened : (guests : List GuestSpec) (guest : ℕ) → (is_opened guests guest ≡ true → ⊥) → is_opened guests guest ≡ false
not_opened guests guest not_so = ⊎_elim (λ (yes : is_opened guests guest ≡ true). absurd (not_so yes)) (λ (no : is_opened guests guest ≡ false). no) (cases_Bool (is_opened guests guest))

opened_none : (guests : List GuestSpec) (frame gpn : ℕ) (size : PageSize) (item : Item) → HasNoLaunch guests (deeds.Commit frame gpn size) item → is_some_opened guests (launched_for item) ≡ false
opened_none guests frame gpn size (items.Firmware (commands.LaunchUpdate guest f page_type imi perms)) none = not_opened guests guest (λ opened. none guest opened f page_type frame gpn imi perms size refl refl)
opened_none guests frame gpn size item none = refl

not_launches : (guests : List GuestSpec) (item : Item) (deed : Deed) (outcome : Option Outcome) → HasNoLaunch guests deed item → (is_commit deed && is_success outcome && is_some_opened guests (launched_for item)) ≡ false
not_launches guests item (deeds.Commit frame gpn size) outcome none = no_third (is_success outcome) _ (opened_none guests frame gpn size item none)
not_launches guests item deed outcome none = refl

-- the kind of a run's event
kind_by : (c : Scenario) (s : List ℕ) (actor : ℕ) (role : Role) → IsSound c → IsDefined c s → (part_of (state_after c s) actor).role ≡ role
    → is_kind c.guests role (line_at (part_of (state_after c s) actor).script (part_of (state_after c s) actor).item).item (event_of (state_after c s) actor) ≡ true
unfolding is_kind
kind_by c s actor (Cpu guest vmpl npt paging) sound defined is =
    both_true _ _ (own_belongs guest vmpl npt paging (state_after c s) actor is) (in_range_is (event_of (state_after c s) actor).deed (run_ranged c s actor guest vmpl npt paging sound defined is))
kind_by c s actor Host sound defined is = refl
kind_by c s actor Firmware sound defined is =
    let event = event_of (state_after c s) actor in
    ap not (not_launches c.guests (line_at (part_of (state_after c s) actor).script (part_of (state_after c s) actor).item).item event.deed event.outcome (run_no_launch c s actor sound defined is))

-- what a report says of an event is what it does with the memory of an opened guest
idle_firmware : (guest : ℕ) (left : Contents) (deed : Deed) (item : Item) (outcome : Option Outcome) → NoLaunchOf guest deed item → firmware_use guest left deed item outcome ≡ Untouched
unfolding firmware_use
idle_firmware guest left (deeds.Commit frame gpn size) (items.Firmware (commands.LaunchUpdate owner page page_type imi perms)) (Some (outcomes.Firmware status)) none =
    elim (cases_eq owner guest) [
      | inl same ↦ absurd (none page page_type frame gpn imi perms size (ap (λ (g : ℕ). items.Firmware (commands.LaunchUpdate g page page_type imi perms)) same) refl)
      | inr differs ↦ rw (ne_eqb owner guest differs) refl
    ]
idle_firmware guest left deed item outcome none = refl

role_said : (guest : ℕ) (left : Contents) (role : Role) (event : Event) (item : Item) → (role ≡ Firmware → NoLaunchOf guest event.deed item) → use_by_role guest role event item ≡ use_for guest left role event.deed item event.outcome
unfolding use_for
role_said guest left (Cpu owner vmpl npt paging) event item none = refl
role_said guest left Host event item none = refl
role_said guest left Firmware event item none = sym (idle_firmware guest left event.deed item event.outcome (none refl))

event_item : (m : State) (actor : ℕ) → (event_of m actor).item ≡ (part_of m actor).item
unfolding event_of
event_item m actor = refl

said_by : (guest : ℕ) (event : Event) (found : Option Actor) (actor : Actor) (part : ActorPart) → found ≡ Some actor → part.role ≡ actor.role → part.script ≡ actor.script → event.item ≡ part.item
    → use_by_actor guest event found ≡ use_by_role guest part.role event (line_at part.script part.item).item
said_by guest event found actor part at role script item =
    ap (use_by_actor guest event) at
    ∙ ap (λ (r : Role). use_by_role guest r event (line_at actor.script event.item).item) (sym role)
    ∙ ap (λ (lines : List Line). use_by_role guest part.role event (line_at lines event.item).item) (sym script)
    ∙ ap (λ (k : ℕ). use_by_role guest part.role event (line_at part.script k).item) item

pub said_is : (c : Scenario) (s : List ℕ) (actor guest : ℕ) → IsSound c → IsDefined c s → IsUnfinished (state_after c s) actor → is_opened c.guests guest ≡ true
    → said_use c guest (actor, event_of (state_after c s) actor) ≡ next_use guest (state_after c s) actor
unfolding said_use next_use
said_is c s actor guest sound defined unfinished opened =
    let m = state_after c s in
    let part = part_of m actor in
    let event = event_of m actor in
    let of = run_actor c s actor unfinished in
    said_by guest event _ of.actor part of.at of.role of.script (event_item m actor)
    ∙ role_said guest (after m actor).contents part.role event (line_at part.script part.item).item (λ is. run_no_launch c s actor sound defined is guest opened)

-- the memories of opened guests are such that the rest of the run is legal
record HasLegal (guest : ℕ) (m : State) (t : List ℕ) (memories : List Memory) : Type 0 where
  memory : Memory
  at : slice_get memories (guest - 1) ≡ Some memory
  legal : IsLegalFrom guest m memory t

abbrev Follows : Scenario → State → List ℕ → List Memory → Type 0
Follows c m t memories = (guest : ℕ) → is_opened c.guests guest ≡ true → HasLegal guest m t memories

-- there is a value
pub record IsDone {A E : Type 0} (r : Result A E) : Type 0 where
  pub value : A
  pub is : r ≡ Ok value

-- an event of a run is heard
by_done : (old : List Memory) (guest : ℕ) (act : Use) (memory : Memory) → slice_get old (guest - 1) ≡ Some memory → IsLegalUse memory act → IsDone (memories_by old guest act)
unfolding memories_by
by_done old guest act memory at legal = record { value = slice_set old (guest - 1) (used act memory); is = rw (at, made_by memory (used act memory) act legal refl) refl }

-- an opened guest's own event finds what it needs
record Finds (old : List Memory) (guest : ℕ) (act : Use) : Type 0 where
  memory : Memory
  at : slice_get old (guest - 1) ≡ Some memory
  legal : IsLegalUse memory act

abbrev FindsIn : List GuestSpec → List Memory → Role → Use → Type 0
FindsIn guests old (Cpu guest vmpl npt paging) act = is_opened guests guest ≡ true → Finds old guest act
FindsIn guests old Host act = Unit {0}
FindsIn guests old Firmware act = Unit {0}

memories_done : (guests : List GuestSpec) (old : List Memory) (role : Role) (act : Use) → FindsIn guests old role act → IsDone (heard_memories guests old role act)
unfolding heard_memories
memories_done guests old (Cpu guest vmpl npt paging) act finds =
    cond_both (is_opened guests guest) (memories_by old guest act) (Ok old) IsDone (λ opened. let found = finds opened in by_done old guest act found.memory found.at found.legal) (λ _. record { value = old; is = refl })
memories_done guests old Host act finds = record { value = old; is = refl }
memories_done guests old Firmware act finds = record { value = old; is = refl }

of_done : (c : Scenario) (ledger : Ledger) (number : ℕ) (actor : Actor) (event : Event) (line : Line) (role : Role) → role ≡ actor.role → is_kind c.guests role line.item event ≡ true
    → IsDone (heard_memories c.guests ledger.memories role (use_by event line.item)) → IsDone (hear_of c ledger number actor event line)
unfolding hear_of
of_done c ledger number actor event line role is kind done =
    record { value = record { count = ledger.count + 1; runs = runs_with ledger.runs number; memories = done.value }; is = rw (sym is, kind, done.is) refl }

event_done : (c : Scenario) (ledger : Ledger) (number : ℕ) (event : Event) (actor : Actor) (line : Line) → 0 < number → slice_get c.actors (number - 1) ≡ Some actor → slice_get actor.script event.item ≡ Some line
    → IsDone (hear_of c ledger number actor event line) → IsDone (hear_event c ledger number event)
unfolding hear_event
event_done c ledger number event actor line some at has done = record { value = done.value; is = rw (ne_eqb number 0 (λ e. omega (arith, e, some)), at, has) done.is }

finds_in : (c : Scenario) (m : State) (a : ℕ) (t : List ℕ) (memories : List Memory) (role : Role) → Follows c m (a ∷ t) memories → (part_of m a).role ≡ role
    → FindsIn c.guests memories role (use_by (event_of m a) (line_at (part_of m a).script (part_of m a).item).item)
unfolding IsLegalFrom
finds_in c m a t memories (Cpu guest vmpl npt paging) follows is = λ opened.
    let has = follows guest opened in
    record { memory = has.memory; at = has.at; legal = subst (IsLegalUse has.memory) (next_use_by guest vmpl npt paging m a is) has.legal.0 }
finds_in c m a t memories Host follows is = tt
finds_in c m a t memories Firmware follows is = tt

step_done : (c : Scenario) (s : List ℕ) (a : ℕ) (t : List ℕ) (ledger : Ledger) → IsSound c → IsDefined c s → IsUnfinished (state_after c s) a → Follows c (state_after c s) (a ∷ t) ledger.memories
    → IsDone (hear_event c ledger a (event_of (state_after c s) a))
step_done c s a t ledger sound defined unfinished follows =
    let m = state_after c s in
    let part = part_of m a in
    let event = event_of m a in
    let line = line_at part.script part.item in
    let of = run_actor c s a unfinished in
    event_done c ledger a event of.actor line of.numbered of.at (ap (slice_get of.actor.script) (event_item m a) ∙ of.line)
    (of_done c ledger a of.actor event line part.role of.role (kind_by c s a part.role sound defined refl)
    (memories_done c.guests ledger.memories part.role (use_by event line.item) (finds_in c m a t ledger.memories part.role follows refl)))

-- and leaves the memories as the run does
follows_on : (c : Scenario) (s : List ℕ) (a : ℕ) (t : List ℕ) (ledger next : Ledger) → IsSound c → IsDefined c s → IsUnfinished (state_after c s) a → Follows c (state_after c s) (a ∷ t) ledger.memories
    → hear_event c ledger a (event_of (state_after c s) a) ≡ Ok next → Follows c (after (state_after c s) a) t next.memories
unfolding IsLegalFrom
follows_on c s a t ledger next sound defined unfinished follows e guest opened =
    let m = state_after c s in
    let has = follows guest opened in
    let heard = event_heard c ledger next a (event_of m a) e in
    let now = (heard.uses guest has.memory opened has.at).1 in
    record {
      memory = used (next_use guest m a) has.memory;
      at = now ∙ ap (λ (act : Use). Some (used act has.memory)) (said_is c s a guest sound defined unfinished opened);
      legal = has.legal.1;
    }

run_done : (c : Scenario) (s t : List ℕ) (ledger : Ledger) → IsSound c → IsDefined c s → IsDefinedFrom (state_after c s) t → Follows c (state_after c s) t ledger.memories
    → IsDone (hear_events c ledger (run_from (state_after c s) t))
unfolding hear_events run_from IsDefinedFrom
run_done c s [] ledger sound before defined follows = record { value = ledger; is = refl }
run_done c s (a ∷ t) ledger sound before defined follows =
    let m = state_after c s in
    let push = state_push (opening c) s a in
    let done = step_done c s a t ledger sound before defined.0 follows in
    let next = done.value in
    let on = follows_on c s a t ledger next sound before defined.0 follows done.is in
    let later =
    run_done c (s ++ a ∷ []) t next sound (defined_push (opening c) s a before defined.0) (subst (λ (n : State). IsDefinedFrom n t) (sym push) defined.1)
    (subst (λ (n : State). Follows c n t next.memories) (sym push) on) in
    let rest = subst (λ (n : State). IsDone (hear_events c next (run_from n t))) push later in
    record { value = rest.value; is = rw (done.is) rest.is }

-- at the opening
from_at : (c : Scenario) (number : ℕ) (guests : List GuestSpec) (k : ℕ) → k < length guests → slice_get (memories_from c number guests) k ≡ Some (opening_memory c (number + k))
unfolding memories_from
from_at c number [] k within = absurd (omega (arith, within))
from_at c number (guest ∷ guests) zero within = ap (λ (n : ℕ). Some (opening_memory c n)) (omega arith)
from_at c number (guest ∷ guests) (suc k) within = from_at c (number + 1) guests k (omega (arith, within)) ∙ ap (λ (n : ℕ). Some (opening_memory c n)) (omega arith)

may_left : (a b : Bool) → (a && b) ≡ true → a ≡ true
may_left true b is = refl
may_left false b is = is

some_is : (guest : ℕ) → nat_lt 0 guest ≡ true → 0 < guest
some_is guest is = grind (arith, nat_tests, is)

may_right : (a b : Bool) → (a && b) ≡ true → b ≡ true
may_right true b is = is
may_right false b is = absurd (true≢false (sym is))

opened_within : (guests : List GuestSpec) (k : ℕ) → opened_of (slice_get guests k) ≡ true → k < length guests
opened_within [] k is = absurd (true≢false (sym is))
opened_within (guest ∷ guests) zero is = omega arith
opened_within (guest ∷ guests) (suc k) is = let rest = opened_within guests k is in omega (arith, rest)

pub record IsDeclared (guests : List GuestSpec) (guest : ℕ) : Type 0 where
  pub some : 0 < guest
  pub most : guest ≤ length guests

pub opened_declared : (guests : List GuestSpec) (guest : ℕ) → is_opened guests guest ≡ true → IsDeclared guests guest
unfolding is_opened
opened_declared guests guest is =
    let some = some_is guest (may_left _ _ is) in
    let within = opened_within guests (guest - 1) (may_right (nat_lt 0 guest) _ is) in
    record { some = some; most = omega (arith, some, within) }

opening_follows : (c : Scenario) (s : List ℕ) → ((guest : ℕ) → is_opened c.guests guest ≡ true → IsLegal c s guest) → Follows c (opening c) s (opening_ledger c).memories
opening_follows c s legal guest opened =
    let is = opened_declared c.guests guest opened in
    let some = is.some in
    let most = is.most in
    record {
      memory = opening_memory c guest;
      at = from_at c 1 c.guests (guest - 1) (omega (arith, some, most)) ∙ ap (λ (n : ℕ). Some (opening_memory c n)) (omega (arith, some));
      legal = legal guest opened;
    }

pub run_heard : (c : Scenario) (s : List ℕ) → IsSound c → IsDefined c s → ((guest : ℕ) → is_opened c.guests guest ≡ true → IsLegal c s guest) → IsDone (hear_events c (opening_ledger c) (run_of c s))
run_heard c s sound defined legal =
    let none = state_none (opening c) in
    subst (λ (n : State). IsDone (hear_events c (opening_ledger c) (run_from n s))) none
    (run_done c [] s (opening_ledger c) sound (defined_none (opening c)) (subst (λ (n : State). IsDefinedFrom n s) (sym none) defined)
    (subst (λ (n : State). Follows c n s (opening_ledger c).memories) (sym none) (opening_follows c s legal)))
