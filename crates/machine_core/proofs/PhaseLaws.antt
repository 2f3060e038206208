-- What the phases of a command say: what it has taken, and what its next event touches.
use Rattle.std.proofs.Common.{◌≡◌, ℕ, zero, suc, Bool, true, false, ◌||◌, eqb, List, [], ◌∷◌, length, Option, Some, None, IsSome, slice_get, refl, sym, ap, ◌∙◌, subst, is_some, cond, ⊎_elim, arith}
use Rattle.std.proofs.lemmas.Bool.Decides.{nat_tests}
use Rattle.std.specs.List.{list_any}
use Rattle.snp_model.specs.declared.command.Command.{Command}
use Rattle.snp_model.specs.declared.scenario.GuestSpec.{GuestSpec}
use Rattle.snp_model.specs.Firmware.{CommandPage, guest_of, pages_of as command_pages}
use Rattle.snp_model.specs.FirmwareLocks.{guest_refusal}
use Rattle.snp_model.specs.FirmwareStep.{Phase, TakeContext, TakePage, Computing, Committing, context_phase, pages_phase, phase_of}
use Rattle.snp_model.specs.Sealing.{Sealing, sealing_of}
use Rattle.snp_model.specs.State.{Computed, Contents, Standing, nothing_taken}
use Rattle.snp_model.specs.declared.event.Deed.{Deed}
use Rattle.snp_model.specs.declared.event.FwRefusal.{FwRefusal}
use Rattle.snp_model.specs.Touches.{command_touches, context_touched, nothing_touched, page_touches, pages_regions, phase_touches, region_of}
use Rattle.run_laws.specs.HeldLocks.{AreCommandLocks}
use Rattle.run_laws.specs.OpenAttempts.{IsCommand}
use Rattle.run_laws.proofs.RangeLaws.{also_touched}
use Rattle.machine_core.specs.Bays.{HasFrame, HasTouched, Stock}

-- an attempt that needs the lock of a context has none yet
pub record TakesContext (command : Command) (standing : Standing) (guest : ℕ) : Type 0 where
  pub guest_is : guest_of command ≡ Some guest
  pub none : standing.context_lock ≡ None

-- one that is past it has that of its guest, if it names one
abbrev pub IsPastContext : Command → Standing → Type 0
IsPastContext command standing = (guest : ℕ) → guest_of command ≡ Some guest → IsSome standing.context_lock

later_takes : (guest : ℕ) (page : Option CommandPage) (sealing : Option Sealing) (computed : Option Computed) → TakeContext guest ≡ pages_phase page sealing computed → ⊥
unfolding pages_phase
later_takes guest (Some page) sealing computed is = cc
later_takes guest None (Some sealing) None is = cc
later_takes guest None (Some sealing) (Some made) is = cc
later_takes guest None None computed is = cc

takes_by : (owner locked : Option ℕ) (later : Phase) (guest : ℕ) → (TakeContext guest ≡ later → ⊥) → TakeContext guest ≡ context_phase owner locked later → (owner ≡ Some guest) × (locked ≡ None)
unfolding context_phase
takes_by (Some own) None later guest not_later is = (cc, refl)
takes_by (Some own) (Some locked) later guest not_later is = absurd (not_later is)
takes_by None locked later guest not_later is = absurd (not_later is)

pub takes_context : (command : Command) (standing : Standing) (guest : ℕ) → TakeContext guest ≡ phase_of command standing → TakesContext command standing guest
takes_context command standing guest is =
    let both = takes_by (guest_of command) standing.context_lock _ guest (later_takes guest (slice_get (command_pages command) (length standing.locks)) (sealing_of command) standing.computed) is in
    record { guest_is = both.0; none = both.1 }

-- so it has taken nothing
pub nothing_yet : (frames : ℕ) (command : Command) (standing : Standing) (made : List Deed) (guest : ℕ) → IsCommand frames command standing made → TakesContext command standing guest → standing ≡ nothing_taken
nothing_yet frames command standing made guest attempt takes =
    ⊎_elim
    (λ (none : standing ≡ nothing_taken). none)
    (λ (own : standing.context_lock ≡ guest_of command). absurd (let e = sym takes.none ∙ own ∙ takes.guest_is in cc))
    attempt.context

past_by : (owner locked : Option ℕ) (later phase : Phase) → ((guest : ℕ) → phase ≡ TakeContext guest → ⊥) → phase ≡ context_phase owner locked later → (phase ≡ later) × ((guest : ℕ) → owner ≡ Some guest → IsSome locked)
unfolding context_phase
past_by (Some own) None later phase not_context is = absurd (not_context own is)
past_by (Some own) (Some locked) later phase not_context is = (is, λ guest named. refl)
past_by None locked later phase not_context is = (is, λ guest named. absurd cc)

-- the guest's context is locked by then
pub holds_guest : (frames : ℕ) (guests : List GuestSpec) (contents : Contents) (command : Command) (standing : Standing) → AreCommandLocks frames guests contents command standing → IsPastContext command standing → (guest : ℕ) → guest_of command ≡ Some guest → standing.context_lock ≡ Some guest
holds_guest frames guests contents command standing tested past guest named = by_lock standing.context_lock refl (past guest named)
  where
    by_lock : (locked : Option ℕ) → standing.context_lock ≡ locked → IsSome locked → standing.context_lock ≡ Some guest
    by_lock None is some = absurd cc
    by_lock (Some own) is some = is ∙ sym (tested.context own is).guest_is ∙ named

-- An attempt that needs the lock of a page

pub record TakesPage (command : Command) (standing : Standing) (page : CommandPage) : Type 0 where
  pub next : slice_get (command_pages command) (length standing.locks) ≡ Some page
  pub past : IsPastContext command standing

page_by : (found : Option CommandPage) (sealing : Option Sealing) (computed : Option Computed) (page : CommandPage) → TakePage page ≡ pages_phase found sealing computed → found ≡ Some page
unfolding pages_phase
page_by (Some own) sealing computed page is = cc
page_by None (Some sealing) None page is = absurd cc
page_by None (Some sealing) (Some made) page is = absurd cc
page_by None None computed page is = absurd cc

pub takes_page : (command : Command) (standing : Standing) (page : CommandPage) → TakePage page ≡ phase_of command standing → TakesPage command standing page
takes_page command standing page is =
    let both = past_by (guest_of command) standing.context_lock _ (TakePage page) (λ guest e. cc) is in
    record { next = page_by (slice_get (command_pages command) (length standing.locks)) (sealing_of command) standing.computed page both.0; past = both.1 }

-- One that makes a page

pub record Computes (command : Command) (standing : Standing) (sealing : Sealing) : Type 0 where
  pub all : slice_get (command_pages command) (length standing.locks) ≡ None
  pub past : IsPastContext command standing
  pub seals : sealing_of command ≡ Some sealing
  pub none : standing.computed ≡ None

compute_by : (found : Option CommandPage) (seals : Option Sealing) (computed : Option Computed) (sealing : Sealing) → Computing sealing ≡ pages_phase found seals computed → (found ≡ None) × (seals ≡ Some sealing) × (computed ≡ None)
unfolding pages_phase
compute_by (Some own) seals computed sealing is = absurd cc
compute_by None (Some own) None sealing is = (refl, cc, refl)
compute_by None (Some own) (Some made) sealing is = absurd cc
compute_by None None computed sealing is = absurd cc

pub computes : (command : Command) (standing : Standing) (sealing : Sealing) → Computing sealing ≡ phase_of command standing → Computes command standing sealing
computes command standing sealing is =
    let both = past_by (guest_of command) standing.context_lock _ (Computing sealing) (λ guest e. cc) is in
    let found = compute_by (slice_get (command_pages command) (length standing.locks)) (sealing_of command) standing.computed sealing both.0 in
    record { all = found.0; past = both.1; seals = found.1; none = found.2 }

-- One that commits

pub record Commits (command : Command) (standing : Standing) : Type 0 where
  pub all : slice_get (command_pages command) (length standing.locks) ≡ None
  pub past : IsPastContext command standing
  pub made : IsSome (sealing_of command) → IsSome standing.computed

all_by : (found : Option CommandPage) (sealing : Option Sealing) (computed : Option Computed) → Committing ≡ pages_phase found sealing computed → (found ≡ None) × (IsSome sealing → IsSome computed)
unfolding pages_phase
all_by (Some own) sealing computed is = absurd cc
all_by None (Some sealing) None is = absurd cc
all_by None (Some sealing) (Some made) is = (refl, λ seals. refl)
all_by None None computed is = (refl, λ seals. absurd cc)

pub commits : (command : Command) (standing : Standing) → Committing ≡ phase_of command standing → Commits command standing
commits command standing is =
    let both = past_by (guest_of command) standing.context_lock _ Committing (λ guest e. cc) is in
    let found = all_by (slice_get (command_pages command) (length standing.locks)) (sealing_of command) standing.computed both.0 in
    record { all = found.0; past = both.1; made = found.1 }

-- What is touched

abbrev HasPhase : ℕ → List GuestSpec → Standing → Command → Stock → Phase → Type 0
HasPhase frames guests standing command stock phase = HasTouched (phase_touches frames guests standing command phase) stock

pub context_has : (frames : ℕ) (guests : List GuestSpec) (standing : Standing) (command : Command) (guest : ℕ) (stock : Stock) → TakeContext guest ≡ phase_of command standing → HasPhase frames guests standing command stock (phase_of command standing)
    → guest_refusal guests guest ≡ None → IsSome (stock.contexts guest)
unfolding phase_touches
context_has frames guests standing command guest stock is has declared =
    let touched = subst (HasPhase frames guests standing command stock) (sym is) has in
    touched.contexts guest (ap (λ (refusal : Option FwRefusal). (cond (is_some refusal) nothing_touched (context_touched guest)).context) declared)

pub page_has : (frames : ℕ) (guests : List GuestSpec) (standing : Standing) (command : Command) (page : CommandPage) (stock : Stock) → TakePage page ≡ phase_of command standing → HasPhase frames guests standing command stock (phase_of command standing)
    → HasTouched (page_touches frames standing page) stock
unfolding phase_touches
page_has frames guests standing command page stock is has = subst (HasPhase frames guests standing command stock) (sym is) has

pub commit_has : (frames : ℕ) (guests : List GuestSpec) (standing : Standing) (command : Command) (stock : Stock) → Committing ≡ phase_of command standing → HasPhase frames guests standing command stock (phase_of command standing)
    → HasTouched (command_touches standing command) stock
unfolding phase_touches
commit_has frames guests standing command stock is has = subst (HasPhase frames guests standing command stock) (sym is) has

pub compute_has : (frames : ℕ) (guests : List GuestSpec) (standing : Standing) (command : Command) (sealing : Sealing) (stock : Stock) → Computing sealing ≡ phase_of command standing → HasPhase frames guests standing command stock (phase_of command standing)
    → HasTouched (command_touches standing command) stock
unfolding phase_touches
compute_has frames guests standing command sealing stock is has = subst (HasPhase frames guests standing command stock) (sym is) has

-- a commit touches each page of its command, and so does a compute
listed : (pages : List CommandPage) (number : ℕ) (page : CommandPage) → slice_get pages number ≡ Some page → list_any (λ region. eqb region (region_of page.frame)) (pages_regions pages) ≡ true
unfolding pages_regions
listed [] number page is = absurd cc
listed (own ∷ pages) zero page is = ap (λ (p : CommandPage). list_any (λ region. eqb region (region_of page.frame)) (region_of p.frame ∷ pages_regions pages)) (own_is own page is) ∙ grind (arith, nat_tests)
  where
    own_is : (one other : CommandPage) → Some one ≡ Some other → one ≡ other
    own_is one other e = cc
listed (own ∷ pages) (suc number) page is = by_first (eqb (region_of own.frame) (region_of page.frame)) (listed pages number page is)
  where
    by_first : (first : Bool) → list_any (λ region. eqb region (region_of page.frame)) (pages_regions pages) ≡ true → (first || list_any (λ region. eqb region (region_of page.frame)) (pages_regions pages)) ≡ true
    by_first true later = refl
    by_first false later = later

pub frame_has : (standing : Standing) (command : Command) (number : ℕ) (page : CommandPage) (stock : Stock) → HasTouched (command_touches standing command) stock → slice_get (command_pages command) number ≡ Some page → HasFrame stock page.frame
unfolding command_touches
frame_has standing command number page stock has is =
    has.bays page.frame (also_touched standing.locks (record { regions = pages_regions (command_pages command); context = guest_of command }) page.frame (listed (command_pages command) number page is))

pub guest_has : (standing : Standing) (command : Command) (guest : ℕ) (stock : Stock) → HasTouched (command_touches standing command) stock → guest_of command ≡ Some guest → IsSome (stock.contexts guest)
unfolding command_touches
guest_has standing command guest stock has is = has.contexts guest is
