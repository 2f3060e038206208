-- The events of a command by what its attempt has taken and made: a compute comes once all is locked, and the commit of a command that seals or opens a page once it has made one.
use Rattle.std.proofs.Common.{◌≡◌, ℕ, ◌<◌, ◌≤◌, List, [], ◌∷◌, length, get_or, Option, Some, None, slice_get, refl, sym, ◌∙◌, subst, ⊎_elim, arith, zero, suc}
use Rattle.std.proofs.lemmas.Bool.{cases_lt}
use Rattle.std.proofs.lemmas.Option.{slice_get_within, slice_get-get_or}
use Rattle.snp_model.specs.declared.command.Command.{Command}
use Rattle.snp_model.specs.declared.entry.PageSize.TheVariants.{Small}
use Rattle.snp_model.specs.declared.event.FwRefusal.{FwRefusal}
use Rattle.snp_model.specs.declared.event.Outcome.{Outcome}
use Rattle.snp_model.specs.declared.scenario.GuestSpec.{GuestSpec}
use Rattle.snp_model.specs.Firmware.{CommandPage, guest_of, pages_of}
use Rattle.snp_model.specs.FirmwareStep.{Phase, context_phase, pages_phase, context_taken, take_context, take_page, computed_move, commit_move, phase_move, firmware_move}
use Rattle.snp_model.specs.Locks.{page_lock}
use Rattle.snp_model.specs.Moves.{Move, lock_move}
use Rattle.snp_model.specs.Sealing.{Sealing, sealing_of, compute_of}
use Rattle.snp_model.specs.State.{PageLock, Contents, Computed, Standing, ActorPart, View}
use Rattle.run_laws.specs.HeldLocks.{AreCommandLocks}
use Rattle.run_laws.proofs.CommandTests.{IsReady}

-- a command that seals or opens a page has made one
abbrev pub HasMade : Option Sealing → Option Computed → Type 0
HasMade None computed = Unit {0}
HasMade (Some sealing) None = ⊥
HasMade (Some sealing) (Some made) = Unit {0}

-- an attempt whose next event is the commit
pub record IsCommitting (frames : ℕ) (guests : List GuestSpec) (contents : Contents) (command : Command) (standing : Standing) : Type 0 where
  pub ready : IsReady frames guests contents command standing
  pub made : HasMade (sealing_of command) standing.computed

-- what each event of a command has to show
pub record EachStage (P : Move → Type 0) (frames : ℕ) (guests : List GuestSpec) (view : View) (part : ActorPart) (command : Command) : Type 0 where
  pub takes : (guest : ℕ) (refusal : Option FwRefusal) → P (context_taken view.contents part guest refusal)
  pub locks : (lock : PageLock) (refusal : Option Outcome) → P (lock_move view.contents part lock refusal)
  pub computes : (sealing : Sealing) → sealing_of command ≡ Some sealing → IsReady frames guests view.contents command part.standing → P (computed_move view.contents part (compute_of view.contents sealing))
  pub commits : IsCommitting frames guests view.contents command part.standing → P (commit_move view.contents part command)

made_one : (sealing other : Option Sealing) (computed found : Option Computed) → sealing ≡ other → computed ≡ found → HasMade other found → HasMade sealing computed
made_one sealing other computed found sealing_is computed_is has =
    subst (λ (s : Option Sealing). HasMade s computed) (sym sealing_is) (subst (λ (c : Option Computed). HasMade other c) (sym computed_is) has)

abbrev Taken : Command → ActorPart → Option CommandPage
Taken command part = slice_get (pages_of command) (length part.standing.locks)

pages_stage : (P : Move → Type 0) (frames : ℕ) (guests : List GuestSpec) (view : View) (part : ActorPart) (command : Command) (page : Option CommandPage) (sealing : Option Sealing) (computed : Option Computed)
    → EachStage P frames guests view part command → AreCommandLocks frames guests view.contents command part.standing
    → ((guest : ℕ) → guest_of command ≡ Some guest → part.standing.context_lock ≡ Some guest)
    → Taken command part ≡ page → sealing_of command ≡ sealing → part.standing.computed ≡ computed
    → P (phase_move frames guests view part command (pages_phase page sealing computed))
unfolding pages_phase phase_move take_page
pages_stage P frames guests view part command (Some page) sealing computed each tested held taken sealing_is computed_is = each.locks _ _
pages_stage P frames guests view part command None (Some sealing) None each tested held taken sealing_is computed_is =
    each.computes sealing sealing_is (record { tested = tested; all = taken; held = held })
pages_stage P frames guests view part command None (Some sealing) (Some made) each tested held taken sealing_is computed_is =
    each.commits (record {
      ready = record { tested = tested; all = taken; held = held };
      made = made_one (sealing_of command) (Some sealing) part.standing.computed (Some made) sealing_is computed_is tt;
    })
pages_stage P frames guests view part command None None computed each tested held taken sealing_is computed_is =
    each.commits (record {
      ready = record { tested = tested; all = taken; held = held };
      made = made_one (sealing_of command) None part.standing.computed computed sealing_is computed_is tt;
    })

none_some : (g : ℕ) → None ≡ Some g → ⊥
none_some g e = cc

context_stage : (P : Move → Type 0) (frames : ℕ) (guests : List GuestSpec) (view : View) (part : ActorPart) (command : Command) (owner locked : Option ℕ) (later : Phase)
    → ((guest : ℕ) (refusal : Option FwRefusal) → P (context_taken view.contents part guest refusal))
    → (((guest : ℕ) → guest_of command ≡ Some guest → part.standing.context_lock ≡ Some guest) → P (phase_move frames guests view part command later))
    → AreCommandLocks frames guests view.contents command part.standing → guest_of command ≡ owner → part.standing.context_lock ≡ locked
    → P (phase_move frames guests view part command (context_phase owner locked later))
unfolding context_phase phase_move take_context
context_stage P frames guests view part command (Some guest) None later takes goes_on tested owner_is locked_is = takes guest _
context_stage P frames guests view part command (Some guest) (Some own) later takes goes_on tested owner_is locked_is =
    goes_on (λ g is. locked_is ∙ sym (tested.context own locked_is).guest_is ∙ is)
context_stage P frames guests view part command None locked later takes goes_on tested owner_is locked_is = goes_on (λ g is. absurd (none_some g (sym owner_is ∙ is)))

pub by_stage : (P : Move → Type 0) (frames : ℕ) (guests : List GuestSpec) (view : View) (part : ActorPart) (command : Command) → EachStage P frames guests view part command
    → AreCommandLocks frames guests view.contents command part.standing → P (firmware_move frames guests view part command)
by_stage P frames guests view part command each tested =
    context_stage P frames guests view part command (guest_of command) part.standing.context_lock _ each.takes
    (λ held. pages_stage P frames guests view part command (Taken command part) (sealing_of command) part.standing.computed each tested held refl refl refl)
    tested refl refl

-- an attempt that has taken all has as many locks as its command has pages
past_end : {X : Type 0} (xs : List X) (i : ℕ) → slice_get xs i ≡ None → length xs ≤ i
past_end [] i none = omega arith
past_end (x ∷ xs) zero none = absurd cc
past_end (x ∷ xs) (suc i) none = let rest = past_end xs i none in omega arith

pub all_locked : (frames : ℕ) (guests : List GuestSpec) (contents : Contents) (command : Command) (standing : Standing) → IsReady frames guests contents command standing
    → length standing.locks ≡ length (pages_of command)
all_locked frames guests contents command standing ready =
    let locks = standing.locks in
    let most : length (pages_of command) ≤ length locks = past_end (pages_of command) (length locks) ready.all in
    ⊎_elim
    (λ (more : length (pages_of command) < length locks).
    let no_lock = page_lock Small 0 in
    let count = length (pages_of command) in
    let of = ready.tested.pages count (get_or locks count no_lock) (slice_get-get_or locks count no_lock more) in
    let within : count < length (pages_of command) = slice_get_within (pages_of command) count of.page of.page_is in
    absurd (omega arith))
    (λ (same : length locks ≤ length (pages_of command)). omega arith)
    (cases_lt (length (pages_of command)) (length locks))
