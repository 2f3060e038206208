-- What the locks of a command have tested of its guest's context and of its pages, as it still holds at the commit; and the events of a command, by what its attempt needs.
use Rattle.std.proofs.Common.{◌≡◌, ℕ, zero, suc, ◌<◌, ◌≤◌, Bool, true, false, not, ◌&&◌, ◌||◌, eqb, nat_lt, List, [], ◌∷◌, length, get_or, Option, Some, None, slice_get, Result, refl, sym, ap, ◌∙◌, subst, arith}
use Rattle.std.proofs.lemmas.Bool.{true≢false, eqb-true}
use Rattle.std.proofs.lemmas.Bool.Decides.{nat_tests}
use Rattle.std.proofs.lemmas.Option.{slice_get_within, slice_get-get_or}
use Rattle.std.specs.Option.{option_or}
use Rattle.snp_model.specs.declared.command.Command.{Command}
use Rattle.snp_model.specs.declared.entry.PageSize.{PageSize}
use Rattle.snp_model.specs.declared.entry.PageSize.TheVariants.{Small, Large}
use Rattle.snp_model.specs.declared.entry.RmpEntry.{RmpEntry}
use Rattle.snp_model.specs.declared.event.FwRefusal.{FwRefusal}
use Rattle.snp_model.specs.declared.event.FwRefusal.TheVariants as refusals
use Rattle.snp_model.specs.declared.event.Outcome.{Outcome}
use Rattle.snp_model.specs.declared.firmware.Part.{Part}
use Rattle.snp_model.specs.declared.scenario.GuestSpec.{GuestSpec}
use Rattle.snp_model.specs.Firmware.{CommandPage, guest_of, pages_of, has_equal_frames, invalid_param, invalid_page_size, invalid_page_state, invalid_page_owner}
use Rattle.snp_model.specs.FirmwareLocks.{guest_refusal, frame_refusal, context_refusal, page_refusal, page_extra, takes_large}
use Rattle.snp_model.specs.FirmwareStep.{Phase, context_phase, pages_phase, context_taken, take_context, command_asid, lock_refusal, take_page, computed_move, commit_move, phase_move, firmware_move}
use Rattle.snp_model.specs.Locks.{page_lock}
use Rattle.snp_model.specs.Moves.{Move, lock_move}
use Rattle.snp_model.specs.PageStates.{state_of, allowed, has_owner}
use Rattle.snp_model.specs.Sealing.{Sealing, sealing_of, compute_of}
use Rattle.snp_model.specs.State.{PageLock, Contents, Computed, Standing, ActorPart, View}
use Rattle.snp_model.specs.Verdicts.{is_large}
use Rattle.run_laws.specs.HeldLocks.{AreCommandLocks}
use Rattle.run_laws.proofs.LockLaws.{first_none, others_none}
use Rattle.run_laws.proofs.TestedLaws.{let_through, not_false}

-- of a page: its size, its state and its owner
pub record PageTests (command : Command) (part : Part) (facts : RmpEntry) (asid : ℕ) : Type 0 where
  pub small : takes_large command ≡ false → facts.size ≡ Small
  pub state : allowed command part (state_of facts) ≡ true
  pub owner : has_owner command part ≡ true → facts.asid ≡ asid

size_small : (size : PageSize) (takes : Bool) → takes ≡ false → (is_large size && not takes) ≡ false → size ≡ Small
size_small Small takes small none = refl
size_small Large true small none = absurd (true≢false small)
size_small Large false small none = absurd (true≢false none)

same_owner : (asks : Bool) (owner asid : ℕ) → (asks && not (eqb owner asid)) ≡ false → asks ≡ true → owner ≡ asid
same_owner true owner asid none asked = eqb-true owner asid (not_false (eqb owner asid) none)
same_owner false owner asid none asked = absurd (true≢false (sym asked))

pub page_tests : (command : Command) (part : Part) (facts : RmpEntry) (asid : ℕ) → page_refusal command part facts None asid ≡ None → PageTests command part facts asid
unfolding page_refusal
page_tests command part facts asid none =
    let size = let_through (is_large facts.size && not (takes_large command)) (refusals.Status invalid_page_size) _ none in
    let state = let_through (not (allowed command part (state_of facts))) (refusals.Status invalid_page_state) _ size.after_it in
    let owner = let_through (has_owner command part && not (eqb facts.asid asid)) (refusals.Status invalid_page_owner) None state.after_it in
    record {
      small = λ small. size_small facts.size (takes_large command) small size.fails;
      state = not_false (allowed command part (state_of facts)) state.fails;
      owner = same_owner (has_owner command part) facts.asid asid owner.fails;
    }

-- the lock of a page refuses nothing, so the tests of its facts don't
pub lock_page : (frames asid : ℕ) (command : Command) (page : CommandPage) (contents : Contents) → lock_refusal frames asid command page (contents.pages page.frame) None ≡ None
    → page_refusal command page.part (contents.pages page.frame).facts None asid ≡ None
unfolding lock_refusal
lock_page frames asid command page contents none =
    let found = contents.pages page.frame in
    first_none (page_refusal command page.part found.facts None asid) (page_extra command page.part asid found.words)
    (others_none (frame_refusal frames page.frame) (option_or (page_refusal command page.part found.facts None asid) (page_extra command page.part asid found.words)) none)

-- of a context: its guest is declared, and no two frames of the command are equal
pub record ContextTests (guests : List GuestSpec) (command : Command) (guest : ℕ) : Type 0 where
  pub some : 0 < guest
  pub most : guest ≤ length guests
  pub apart : has_equal_frames command ≡ false

pub record IsDeclared (guests : List GuestSpec) (guest : ℕ) : Type 0 where
  pub some : 0 < guest
  pub most : guest ≤ length guests

declared_guest : (guests : List GuestSpec) (guest : ℕ) → guest_refusal guests guest ≡ None → IsDeclared guests guest
unfolding guest_refusal
declared_guest guests guest none =
    let fails = (let_through (eqb guest 0 || nat_lt (length guests) guest) (refusals.Status invalid_param) None none).fails in
    record { some = grind (arith, nat_tests); most = grind (arith, nat_tests) }

-- an attempt that has taken all that its command locks
pub record IsReady (frames : ℕ) (guests : List GuestSpec) (contents : Contents) (command : Command) (standing : Standing) : Type 0 where
  pub tested : AreCommandLocks frames guests contents command standing
  pub all : slice_get (pages_of command) (length standing.locks) ≡ None
  pub held : (guest : ℕ) → guest_of command ≡ Some guest → standing.context_lock ≡ Some guest

past_from : {X : Type 0} (xs : List X) (i : ℕ) → slice_get xs i ≡ None → length xs ≤ i
past_from [] i none = omega arith
past_from (x ∷ xs) zero none = absurd cc
past_from (x ∷ xs) (suc i) none = let rest = past_from xs i none in omega arith

-- it has the lock of each page, by the page's number
pub record HasLock (frames : ℕ) (guests : List GuestSpec) (contents : Contents) (command : Command) (locks : List PageLock) (number : ℕ) (page : CommandPage) : Type 0 where
  pub lock : PageLock
  pub lock_is : slice_get locks number ≡ Some lock
  pub covers_page : lock ≡ page_lock (contents.pages page.frame).facts.size page.frame
  pub passes : lock_refusal frames (command_asid guests command) command page (contents.pages page.frame) None ≡ None

pub same_some : {X : Type 0} (x y : X) → Some x ≡ Some y → x ≡ y
same_some x y e = cc

pub has_lock : (frames : ℕ) (guests : List GuestSpec) (contents : Contents) (command : Command) (standing : Standing) (number : ℕ) (page : CommandPage) → AreCommandLocks frames guests contents command standing
    → slice_get (pages_of command) (length standing.locks) ≡ None → slice_get (pages_of command) number ≡ Some page → HasLock frames guests contents command standing.locks number page
has_lock frames guests contents command standing number page tested all is =
    let locks = standing.locks in
    let within : number < length (pages_of command) = slice_get_within (pages_of command) number page is in
    let most : length (pages_of command) ≤ length locks = past_from (pages_of command) (length locks) all in
    let no_lock = page_lock Small 0 in
    let lock = get_or locks number no_lock in
    let found = slice_get-get_or locks number no_lock (omega arith) in
    let of = tested.pages number lock found in
    let same : of.page ≡ page = same_some of.page page (sym of.page_is ∙ is) in
    record {
      lock = lock;
      lock_is = found;
      covers_page = of.covers ∙ ap (λ (p : CommandPage). page_lock (contents.pages p.frame).facts.size p.frame) same;
      passes = subst (λ (p : CommandPage). lock_refusal frames (command_asid guests command) command p (contents.pages p.frame) None ≡ None) same of.passes;
    }

-- what its locks have tested of a page
pub page_at : (frames : ℕ) (guests : List GuestSpec) (contents : Contents) (command : Command) (standing : Standing) (number : ℕ) (page : CommandPage) → IsReady frames guests contents command standing
    → slice_get (pages_of command) number ≡ Some page → PageTests command page.part (contents.pages page.frame).facts (command_asid guests command)
page_at frames guests contents command standing number page ready is =
    let has = has_lock frames guests contents command standing number page ready.tested ready.all is in
    let asid = command_asid guests command in
    page_tests command page.part (contents.pages page.frame).facts asid (lock_page frames asid command page contents has.passes)

-- and of the context
pub context_at : (frames : ℕ) (guests : List GuestSpec) (contents : Contents) (command : Command) (standing : Standing) (guest : ℕ) → IsReady frames guests contents command standing → guest_of command ≡ Some guest
    → ContextTests guests command guest
unfolding context_refusal
context_at frames guests contents command standing guest ready is =
    let of = ready.tested.context guest (ready.held guest is) in
    let context = contents.contexts guest in
    let declared = declared_guest guests guest (first_none (guest_refusal guests guest) (context_refusal guests command context None) of.passes) in
    record {
      some = declared.some;
      most = declared.most;
      apart = (let_through (has_equal_frames command) (refusals.Status invalid_param) _ (others_none (guest_refusal guests guest) (context_refusal guests command context None) of.passes)).fails;
    }

-- each event of a command takes a lock, computes, or commits once all is taken

pages_by_phase : (frames : ℕ) (guests : List GuestSpec) (view : View) (part : ActorPart) (command : Command) (P : Move → Type 0) (page : Option CommandPage) (sealing : Option Sealing) (computed : Option Computed)
    → ((lock : PageLock) (refusal : Option Outcome) → P (lock_move view.contents part lock refusal))
    → ((made : Result Computed FwRefusal) → P (computed_move view.contents part made))
    → (slice_get (pages_of command) (length part.standing.locks) ≡ None → P (commit_move view.contents part command))
    → slice_get (pages_of command) (length part.standing.locks) ≡ page → P (phase_move frames guests view part command (pages_phase page sealing computed))
unfolding pages_phase phase_move take_page
pages_by_phase frames guests view part command P (Some page) sealing computed locks computes commits is = locks _ _
pages_by_phase frames guests view part command P None (Some sealing) None locks computes commits is = computes (compute_of view.contents sealing)
pages_by_phase frames guests view part command P None (Some sealing) (Some made) locks computes commits is = commits is
pages_by_phase frames guests view part command P None None computed locks computes commits is = commits is

none_some : (g : ℕ) → None ≡ Some g → ⊥
none_some g e = cc

context_by_phase : (frames : ℕ) (guests : List GuestSpec) (view : View) (part : ActorPart) (command : Command) (P : Move → Type 0) (owner locked : Option ℕ) (later : Phase)
    → ((guest : ℕ) (refusal : Option FwRefusal) → P (context_taken view.contents part guest refusal))
    → (((guest : ℕ) → guest_of command ≡ Some guest → part.standing.context_lock ≡ Some guest) → P (phase_move frames guests view part command later))
    → AreCommandLocks frames guests view.contents command part.standing → guest_of command ≡ owner → part.standing.context_lock ≡ locked
    → P (phase_move frames guests view part command (context_phase owner locked later))
unfolding context_phase phase_move take_context
context_by_phase frames guests view part command P (Some guest) None later takes goes_on tested owner_is locked_is = takes guest _
context_by_phase frames guests view part command P (Some guest) (Some own) later takes goes_on tested owner_is locked_is =
    goes_on (λ g is. locked_is ∙ sym (tested.context own locked_is).guest_is ∙ is)
context_by_phase frames guests view part command P None locked later takes goes_on tested owner_is locked_is =
    goes_on (λ g is. absurd (none_some g (sym owner_is ∙ is)))

pub by_phase : (frames : ℕ) (guests : List GuestSpec) (view : View) (part : ActorPart) (command : Command) (P : Move → Type 0)
    → ((guest : ℕ) (refusal : Option FwRefusal) → P (context_taken view.contents part guest refusal))
    → ((lock : PageLock) (refusal : Option Outcome) → P (lock_move view.contents part lock refusal))
    → ((made : Result Computed FwRefusal) → P (computed_move view.contents part made))
    → (IsReady frames guests view.contents command part.standing → P (commit_move view.contents part command))
    → AreCommandLocks frames guests view.contents command part.standing → P (firmware_move frames guests view part command)
by_phase frames guests view part command P takes locks computes commits tested =
    context_by_phase frames guests view part command P (guest_of command) part.standing.context_lock _ takes
    (λ held. pages_by_phase frames guests view part command P (slice_get (pages_of command) (length part.standing.locks)) (sealing_of command) part.standing.computed
    locks computes (λ all. commits (record { tested = tested; all = all; held = held })) refl)
    tested refl refl
