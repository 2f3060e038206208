-- The opening: that a machine may be built of a sound scenario, and that it is then in the opening state.
use Rattle.std.proofs.Common.{◌≡◌, ℕ, zero, suc, ◌+◌, ◌-◌, ◌*◌, ◌/◌, ◌%◌, replicate, ◌<◌, ◌≤◌, ◌^◌, List, [], ◌∷◌, length, map, Option, None, refl, sym, ap, ◌∙◌, subst, ⊎_elim, arith}
use Rattle.std.proofs.lemmas.Bool.{cases_lt}
use Rattle.std.specs.Prelude.{slice_get}
use Rattle.std.proofs.lemmas.List.{get_or-replicate}
use Rattle.std.specs.List.{AllByRecursion}
use Rattle.snp_model.specs.declared.item.Line.{Line}
use Rattle.snp_model.specs.declared.scenario.Actor.{Actor}
use Rattle.snp_model.specs.declared.scenario.GuestSpec.{GuestSpec}
use Rattle.snp_model.specs.declared.scenario.Scenario.{Scenario}
use Rattle.snp_model.specs.Attempts.{script_attempts, actors_attempts, attempts_of}
use Rattle.snp_model.specs.Facts.{free_entry}
use Rattle.snp_model.specs.HeldContexts.{HeldContext, opening_held}
use Rattle.snp_model.specs.Locks.{context_holder_from, holder_from, view_of}
use Rattle.snp_model.specs.Opening.{opening, opening_context, opening_part, opening_contexts, facts_from, words_from}
use Rattle.snp_model.specs.Sound.{IsSound}
use Rattle.snp_model.specs.State.{ActorPart, Context, Page, zero_words}
use Rattle.run_laws.specs.KeptLocks.{KeepsLocks}
use Rattle.run_laws.specs.Ready.{AreReady}
use Rattle.run_laws.specs.Shapes.{AreShaped}
use Rattle.run_laws.proofs.LockedRuns.{opening_keeps_locks, shaped_whole}
use Rattle.run_laws.proofs.ReadyLaws.{opening_ready}
use Rattle.machine_core.specs.Machine.{IsMachine, state_of}
use Rattle.machine_core.specs.declared.bay.Bay.{Bay}
use Rattle.machine_core.specs.Bays.{contents_of, context_holder_in, context_holders_of, context_in, contexts_of, facts_of, free_bay, holder_in, holders_of, locks_of, no_locks, own_bays, own_contexts, own_stock, page_in, pages_of, view_on, words_of}
use Rattle.machine_core.specs.OwnLaws.{own_at, own_none}
use Rattle.machine_core.proofs.SeeingLaws.{machine_with}

length_script : (lines : List Line) → length lines ≤ script_attempts lines
unfolding script_attempts
length_script [] = omega arith
length_script (line ∷ lines) = omega (arith, length_script lines)

scripts_short : (actors : List Actor) → actors_attempts actors ≤ 8192 → AllByRecursion (λ (actor : Actor). length actor.script < 2 ^ 32) actors
unfolding actors_attempts
scripts_short [] few = tt
scripts_short (actor ∷ actors) few =
    let long = length_script actor.script in
    (omega arith, scripts_short actors (omega arith))

-- no script is long
pub short_scripts : (c : Scenario) → IsSound c → AllByRecursion (λ (actor : Actor). length actor.script < 2 ^ 32) c.actors
unfolding attempts_of
short_scripts c sound = scripts_short c.actors sound.attempts_most

-- regions at first: each frame is free and zero
free_page : Page
free_page = record { facts = free_entry; words = zero_words }

free_read : (regions region slot : ℕ) → slot < 512 → page_in (slice_get (replicate regions free_bay) region) slot ≡ free_page
unfolding free_page zero_words
free_read zero region slot below = refl
free_read (suc regions) zero slot below = λ i. record { facts = get_or-replicate 512 slot free_entry free_entry below i; words = get_or-replicate 512 slot (replicate 512 0) [] below i }
free_read (suc regions) (suc region) slot below = free_read regions region slot below

free_at : (regions f : ℕ) → pages_of (own_bays (replicate regions free_bay)) f ≡ free_page
unfolding pages_of
free_at regions f = free_read regions (f / 512) (f % 512) (omega arith)

pub free_facts : (regions : ℕ) → facts_of (own_bays (replicate regions free_bay)) ≡ (λ (f : ℕ). free_entry)
unfolding facts_of free_page
free_facts regions = λ i f. (free_at regions f i).facts

pub free_words : (regions : ℕ) → words_of (own_bays (replicate regions free_bay)) ≡ (λ (f : ℕ). zero_words)
unfolding words_of free_page
free_words regions = λ i f. (free_at regions f i).words

free_holder : (regions region slot : ℕ) → slot < 512 → holder_in (slice_get (replicate regions free_bay) region) slot ≡ None
free_holder zero region slot below = refl
free_holder (suc regions) zero slot below = get_or-replicate 512 slot None None below
free_holder (suc regions) (suc region) slot below = free_holder regions region slot below

-- contexts at first: nobody has locked any
free_context_at : (guests : List GuestSpec) (place : ℕ) → context_holder_in (slice_get (map opening_held guests) place) ≡ None
free_context_at [] place = refl
free_context_at (guest ∷ guests) zero = refl
free_context_at (guest ∷ guests) (suc place) = free_context_at guests place

free_context : (guests : List GuestSpec) (guest : ℕ) → context_holders_of (own_contexts (map opening_held guests)) guest ≡ None
unfolding context_holders_of
free_context guests guest =
    ⊎_elim
    (λ (some : 0 < guest). ap context_holder_in (own_at (map opening_held guests) guest some) ∙ free_context_at guests (guest - 1))
    (λ (none : guest ≤ 0). ap context_holder_in (own_none (map opening_held guests) guest none))
    (cases_lt 0 guest)

pub free_locks : (regions : ℕ) (guests : List GuestSpec) → locks_of (own_stock (replicate regions free_bay) (map opening_held guests)) ≡ no_locks
unfolding holders_of
free_locks regions guests = λ i. record { holder = λ f. free_holder regions (f / 512) (f % 512) (omega arith) i; context_holder = λ guest. free_context guests guest i }

-- and they are those of the opening
first_context_at : (guests : List GuestSpec) (place : ℕ) (other : Context) → other ≡ opening_context (slice_get guests place) → context_in (slice_get (map opening_held guests) place) other ≡ opening_context (slice_get guests place)
first_context_at [] place other is = is
first_context_at (guest ∷ guests) zero other is = refl
first_context_at (guest ∷ guests) (suc place) other is = first_context_at guests place other is

first_context : (guests : List GuestSpec) (guest : ℕ) → contexts_of (own_contexts (map opening_held guests)) guests guest ≡ opening_contexts guests guest
unfolding contexts_of
first_context guests guest =
    let other = opening_contexts guests guest in
    let read = λ (held : Option HeldContext). context_in held other in
    ⊎_elim
    (λ (some : 0 < guest). ap read (own_at (map opening_held guests) guest some) ∙ first_context_at guests (guest - 1) other refl)
    (λ (none : guest ≤ 0). ap read (own_none (map opening_held guests) guest none))
    (cases_lt 0 guest)

-- what the machine was built of
pub record IsBuilt (c : Scenario) (bays : List Bay) (contexts : List HeldContext) (guests : List GuestSpec) (actors : List ActorPart) : Type 0 where
  pub regions : length bays ≡ c.regions
  pub facts : facts_of (own_bays bays) ≡ facts_from c.guests (λ _. free_entry) c.pages
  pub words : words_of (own_bays bays) ≡ words_from (λ _. zero_words) c.words
  pub locks : locks_of (own_stock bays contexts) ≡ no_locks
  pub contexts_are : own_contexts contexts ≡ own_contexts (map opening_held c.guests)
  pub contexts_all : length contexts ≡ length c.guests
  pub guests_are : guests ≡ c.guests
  pub actors_are : actors ≡ map opening_part c.actors

-- it is in the opening state
pub opened : (c : Scenario) (bays : List Bay) (contexts : List HeldContext) (guests : List GuestSpec) (actors : List ActorPart) → IsBuilt c bays contexts guests actors
    → state_of (machine_with bays contexts guests actors) ≡ opening c
unfolding opening facts_of words_of
opened c bays contexts guests actors built =
    let contexts = (λ i. contexts_of (built.contexts_are i) (built.guests_are i)) ∙ (λ i guest. first_context c.guests guest i) in
    λ i. record {
      frames = 512 * built.regions i;
      guests = built.guests_are i;
      contents = record { pages = λ f. record { facts = built.facts i f; words = built.words i f }; contexts = contexts i };
      actors = built.actors_are i;
    }

-- no actor has locked anything
opening_holder : (first : ℕ) (actors : List Actor) (f : ℕ) → holder_from first (map opening_part actors) f ≡ None
unfolding holder_from
opening_holder first [] f = refl
opening_holder first (actor ∷ actors) f = opening_holder (first + 1) actors f

opening_context_holder : (first : ℕ) (actors : List Actor) (guest : ℕ) → context_holder_from first (map opening_part actors) guest ≡ None
unfolding context_holder_from
opening_context_holder first [] guest = refl
opening_context_holder first (actor ∷ actors) guest = opening_context_holder (first + 1) actors guest

-- so an event sees what it would see in the state: no lock
opening_sees : (c : Scenario) (bays : List Bay) (contexts : List HeldContext) (guests : List GuestSpec) (actors : List ActorPart) → IsBuilt c bays contexts guests actors
    → view_on (own_stock bays contexts) guests ≡ view_of (state_of (machine_with bays contexts guests actors))
opening_sees c bays contexts guests actors built =
    (λ i. record { contents = contents_of (own_stock bays contexts) guests; holder = (built.locks i).holder; context_holder = (built.locks i).context_holder })
    ∙ (λ i. record { contents = contents_of (own_stock bays contexts) guests; holder = λ f. sym (opening_holder 1 c.actors f) i; context_holder = λ guest. sym (opening_context_holder 1 c.actors guest) i })
    ∙ ap (λ (parts : List ActorPart). view_of (state_of (machine_with bays contexts guests parts))) (sym built.actors_are)

length_parts : (actors : List Actor) → length (map opening_part actors) ≡ length actors
length_parts [] = refl
length_parts (actor ∷ actors) = ap suc (length_parts actors)

-- and it is a machine
pub built_machine : (c : Scenario) (bays : List Bay) (contexts : List HeldContext) (guests : List GuestSpec) (actors : List ActorPart) → IsSound c → AreShaped (opening c) → IsBuilt c bays contexts guests actors
    → IsMachine (machine_with bays contexts guests actors)
built_machine c bays contexts guests actors sound shaped built =
    let is = sym (opened c bays contexts guests actors built) in
    record {
      few_regions = subst (λ (n : ℕ). n ≤ 16) (sym built.regions) sound.regions_most;
      few_guests = subst (λ (n : ℕ). n ≤ 8) (sym (ap length built.guests_are)) sound.guests_most;
      contexts_all = built.contexts_all ∙ sym (ap length built.guests_are);
      few = subst (λ (n : ℕ). n ≤ 32) (sym (ap length built.actors_are ∙ length_parts c.actors)) sound.actors_most;
      ready = subst AreReady is (opening_ready c sound);
      locks = subst KeepsLocks is (opening_keeps_locks c (shaped_whole (opening c) shaped));
      sees = opening_sees c bays contexts guests actors built;
    }

-- a guest that isn't declared has no context
past_none : {X : Type 0} (items : List X) (place : ℕ) → length items ≤ place → slice_get items place ≡ None
past_none [] place past = refl
past_none (item ∷ items) zero past = absurd (omega arith)
past_none (item ∷ items) (suc place) past = past_none items place (omega arith)

pub undeclared_context : (contexts : List HeldContext) (guests : List GuestSpec) (guest : ℕ) → length contexts ≡ length guests → length guests < guest → contexts_of (own_contexts contexts) guests guest ≡ opening_context None
unfolding contexts_of
undeclared_context contexts guests guest all past =
    let none : own_contexts contexts guest ≡ None = own_at contexts guest (omega arith) ∙ past_none contexts (guest - 1) (omega arith) in
    ap (λ (held : Option HeldContext). context_in held (opening_contexts guests guest)) none ∙ ap opening_context (past_none guests (guest - 1) (omega arith))
