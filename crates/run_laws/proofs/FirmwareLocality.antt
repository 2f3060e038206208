-- The events of a command of the firmware depend on nothing but what they touch, and change nothing else.
use Rattle.std.proofs.Common.{◌≡◌, ℕ, Bool, true, false, cond, eqb, nat_lt, nat_le, List, [], ◌∷◌, length, slice_get, Option, Some, None, is_some, Result, Ok, Err, unwrap_or, refl, sym, ap, ◌∙◌, ◌||◌, subst, arith}
use Rattle.std.proofs.Math.Bool.{or-true}
use Rattle.std.proofs.lemmas.Bool.{cond_both, eqb-true}
use Rattle.std.proofs.lemmas.Bool.Decides.{nat_tests}
use Rattle.std.proofs.lemmas.List.Folds.{list_any-append}
use Rattle.std.specs.List.{list_any}
use Rattle.std.specs.Option.{option_map, option_or}
use Rattle.snp_model.specs.declared.command.Command.{Command}
use Rattle.snp_model.specs.declared.command.Command.TheVariants as commands
use Rattle.snp_model.specs.declared.entry.PageSize.{PageSize}
use Rattle.snp_model.specs.declared.entry.PageSize.TheVariants.{Small, Large}
use Rattle.snp_model.specs.declared.event.Deed.{Deed}
use Rattle.snp_model.specs.declared.event.FwRefusal.{FwRefusal}
use Rattle.snp_model.specs.declared.scenario.GuestSpec.{GuestSpec}
use Rattle.snp_model.specs.Firmware.{CommandPage, guest_of, pages_of}
use Rattle.snp_model.specs.FirmwareCommits.{at_frame, at_guest, context_page, launched_page, metadata_page, taken, placed, with_words, reclaimed_page, context_after, root_after}
use Rattle.snp_model.specs.FirmwareLocks.{guest_refusal, frame_refusal, context_refusal}
use Rattle.snp_model.specs.FirmwareStep.{Phase, TakeContext, TakePage, Computing, Committing, pages_phase, context_phase, refused, context_taken, take_context, command_asid, lock_refusal, take_page, computed_move, nothing_made, first_lock, pages_moved, pages_after, context_committed, contexts_after, page_shown, small_shown, commit_deed, commit_move, phase_move, firmware_move}
use Rattle.snp_model.specs.Locks.{in_range, over_lock, page_lock}
use Rattle.snp_model.specs.Moves.{lock_move}
use Rattle.snp_model.specs.Sealing.{What, Slot, OfEntry, OfRoot, Sealing, SealOut, SealIn, sealing_of, compute_of, slot_entry, given_up, brought_back, no_entry, entry_set, with_slot_entry, pages_out, pages_in}
use Rattle.snp_model.specs.State.{Page, Pages, PageLock, Context, Contexts, Contents, Computed, Standing, ActorPart, View}
use Rattle.snp_model.specs.Touches.{Touched, region_of, nothing_touched, context_touched, locks_regions, lock_regions, with_locks, pages_regions, page_touches, command_touches, phase_touches, firmware_touches, touches_frame, AgreeOn, SeeAlike}
use Rattle.run_laws.specs.OpenAttempts.{AreLocksOf, IsCommand}
use Rattle.run_laws.proofs.MoveLocality.{MovesAlike, MovesAlone, quiet_alike, quiet_alone, other_frame, lock_alike, lock_alone}
use Rattle.run_laws.proofs.RangeLaws.{over_same, over_beside, lock_region, also_touched, beside_covered}

-- each of these pages is touched
unfoldable AreTouched : Touched → List CommandPage → Type 0
AreTouched touched [] = Unit {0}
AreTouched touched (page ∷ pages) = (touches_frame touched page.frame ≡ true) × AreTouched touched pages

listed_touched : (pages : List CommandPage) (touched : Touched)
    → ((frame : ℕ) → list_any (λ region. eqb region (region_of frame)) (pages_regions pages) ≡ true → touches_frame touched frame ≡ true) → AreTouched touched pages
unfolding AreTouched pages_regions
listed_touched [] touched includes = tt
listed_touched (page ∷ pages) touched includes = (
  includes page.frame (grind (arith, nat_tests)),
  listed_touched pages touched (λ frame is. includes frame (rw is (or-true (eqb (region_of page.frame) (region_of frame))))),
)

-- so the pages of a command at its compute and its commit
command_touched : (standing : Standing) (command : Command) → AreTouched (command_touches standing command) (pages_of command)
unfolding command_touches
command_touched standing command =
    listed_touched (pages_of command) (command_touches standing command)
    (λ frame is. also_touched standing.locks (record { regions = pages_regions (pages_of command); context = guest_of command }) frame is)

-- memory is the same in what is touched
abbrev AlikeOn : Touched → Pages → Pages → Type 0
AlikeOn touched one other = (f : ℕ) → touches_frame touched f ≡ true → one f ≡ other f

at_frame_alike : (touched : Touched) (frame : ℕ) (page page' : Page) (one other : Pages) → page ≡ page' → AlikeOn touched one other → AlikeOn touched (at_frame frame page one) (at_frame frame page' other)
unfolding at_frame
at_frame_alike touched frame page page' one other page_is alike f is_touched =
    ap (λ (p : Page). cond (eqb frame f) p (one f)) page_is ∙ ap (λ (p : Page). cond (eqb frame f) page' p) (alike f is_touched)

-- another page at a frame, made of what is touched
changed_alike : (touched : Touched) (frame : ℕ) (change : Page → Page) (one other : Pages) → touches_frame touched frame ≡ true → AlikeOn touched one other
    → AlikeOn touched (at_frame frame (change (one frame)) one) (at_frame frame (change (other frame)) other)
changed_alike touched frame change one other here alike = at_frame_alike touched frame _ _ one other (ap change (alike frame here)) alike

-- a page that is moved
moved_alike : (touched : Touched) (source target : ℕ) (one other : Pages) → touches_frame touched source ≡ true → AlikeOn touched one other
    → AlikeOn touched (pages_moved source target one) (pages_moved source target other)
unfolding pages_moved
moved_alike touched source target one other here alike =
    at_frame_alike touched target _ _ _ _ (ap (λ (page : Page). placed page.facts page.words) (alike source here)) (changed_alike touched source taken one other here alike)

-- an entry, where its metadata page is touched
abbrev SlotTouched : Touched → Slot → Type 0
SlotTouched touched (OfEntry metadata number) = touches_frame touched metadata ≡ true
SlotTouched touched OfRoot = Unit {0}

slot_alike : (touched : Touched) (slot : Slot) (made : Computed) (cleared : Bool) (one other : Pages) → SlotTouched touched slot → AlikeOn touched one other
    → AlikeOn touched (with_slot_entry slot (cond cleared None made.entry) one) (with_slot_entry slot (cond cleared None made.entry) other)
unfolding with_slot_entry
slot_alike touched (OfEntry metadata number) made cleared one other here alike =
    changed_alike touched metadata (λ page. with_words (entry_set page.words number (cond cleared None made.entry)) page) one other here alike
slot_alike touched OfRoot made cleared one other here alike = alike

-- a page that was sealed, and one that was opened
out_alike : (touched : Touched) (what : What) (source target : ℕ) (slot : Slot) (made : Computed) (one other : Pages)
    → touches_frame touched source ≡ true → touches_frame touched target ≡ true → SlotTouched touched slot → AlikeOn touched one other
    → AlikeOn touched (pages_out what source target slot made one) (pages_out what source target slot made other)
unfolding pages_out
out_alike touched what source target slot made one other from to at alike =
    slot_alike touched slot made false _ _ at
    (at_frame_alike touched target _ _ _ _ (ap (with_words made.words) (alike target to)) (changed_alike touched source (given_up what) one other from alike))

in_alike : (touched : Touched) (what : What) (target : ℕ) (slot : Slot) (made : Computed) (one other : Pages)
    → touches_frame touched target ≡ true → SlotTouched touched slot → AlikeOn touched one other
    → AlikeOn touched (pages_in what target slot made one) (pages_in what target slot made other)
unfolding pages_in
in_alike touched what target slot made one other to at alike =
    slot_alike touched slot made true _ _ at (changed_alike touched target (brought_back what (unwrap_or made.entry no_entry) made.words) one other to alike)

-- memory after a commit depends on no page that isn't touched
pages_after_alike : (touched : Touched) (command : Command) (locks : List PageLock) (made : Computed) (one other : Pages) → AreTouched touched (pages_of command) → AlikeOn touched one other
    → AlikeOn touched (pages_after command locks made one) (pages_after command locks made other)
unfolding AreTouched pages_of pages_after
pages_after_alike touched (commands.GctxCreate guest frame) locks made one other are alike = changed_alike touched frame context_page one other are.0 alike
pages_after_alike touched (commands.Activate guest asid) locks made one other are alike = alike
pages_after_alike touched (commands.LaunchStart guest) locks made one other are alike = alike
pages_after_alike touched (commands.LaunchUpdate guest frame page_type imi perms) locks made one other are alike = changed_alike touched frame (launched_page page_type perms) one other are.0 alike
pages_after_alike touched (commands.LaunchFinish guest) locks made one other are alike = alike
pages_after_alike touched (commands.MdInit frame) locks made one other are alike = changed_alike touched frame metadata_page one other are.0 alike
pages_after_alike touched (commands.PageMove guest source target) locks made one other are alike = moved_alike touched source target one other are.0 alike
pages_after_alike touched (commands.SwapOut guest source target metadata entry) locks made one other are alike = out_alike touched _ source target _ made one other are.0 are.1.0 are.1.1.0 alike
pages_after_alike touched (commands.SwapIn guest source target metadata entry) locks made one other are alike = in_alike touched _ target _ made one other are.1.0 are.1.1.0 alike
pages_after_alike touched (commands.Reclaim frame) locks made one other are alike =
    λ f is_touched. let lock = first_lock locks frame in over_same lock.base lock.count (λ place. reclaimed_page) (λ place. reclaimed_page) one other f (λ inside place page. refl) (alike f is_touched)
pages_after_alike touched (commands.MdOut guest source target metadata entry) locks made one other are alike = out_alike touched _ source target _ made one other are.0 are.1.0 are.1.1.0 alike
pages_after_alike touched (commands.MdIn guest source target metadata entry) locks made one other are alike = in_alike touched _ target _ made one other are.1.0 are.1.1.0 alike
pages_after_alike touched (commands.MdRootOut guest source target) locks made one other are alike = out_alike touched _ source target _ made one other are.0 are.1.0 tt alike
pages_after_alike touched (commands.MdRootIn guest source target) locks made one other are alike = in_alike touched _ target _ made one other are.1.0 tt alike

-- neither does the context after it
committed_alike : (touched : Touched) (command : Command) (made : Computed) (one other : Pages) (context : Context) → AreTouched touched (pages_of command) → AlikeOn touched one other
    → context_committed command made one context ≡ context_committed command made other context
unfolding AreTouched pages_of context_committed context_after root_after
committed_alike touched (commands.GctxCreate guest frame) made one other context are alike = refl
committed_alike touched (commands.Activate guest asid) made one other context are alike = refl
committed_alike touched (commands.LaunchStart guest) made one other context are alike = refl
committed_alike touched (commands.LaunchUpdate guest frame page_type imi perms) made one other context are alike = rw (alike frame are.0) refl
committed_alike touched (commands.LaunchFinish guest) made one other context are alike = refl
committed_alike touched (commands.MdInit frame) made one other context are alike = refl
committed_alike touched (commands.PageMove guest source target) made one other context are alike = refl
committed_alike touched (commands.SwapOut guest source target metadata entry) made one other context are alike = refl
committed_alike touched (commands.SwapIn guest source target metadata entry) made one other context are alike = refl
committed_alike touched (commands.Reclaim frame) made one other context are alike = refl
committed_alike touched (commands.MdOut guest source target metadata entry) made one other context are alike = refl
committed_alike touched (commands.MdIn guest source target metadata entry) made one other context are alike = refl
committed_alike touched (commands.MdRootOut guest source target) made one other context are alike = refl
committed_alike touched (commands.MdRootIn guest source target) made one other context are alike = refl

contexts_alike : (touched : Touched) (owner : Option ℕ) (command : Command) (made : Computed) (left left' : Pages) (one other : Contents) (guest : ℕ)
    → touched.context ≡ owner → AreTouched touched (pages_of command) → AlikeOn touched left left' → AgreeOn touched one other → touched.context ≡ Some guest
    → contexts_after owner command made left one.contexts guest ≡ contexts_after owner command made left' other.contexts guest
unfolding contexts_after at_guest
contexts_alike touched None command made left left' one other guest owns are alike same is = same.contexts guest is
contexts_alike touched (Some owner) command made left left' one other guest owns are alike same is =
    let committed = committed_alike touched command made left left' (one.contexts owner) are alike ∙ ap (context_committed command made left') (same.contexts owner owns) in
    ap (λ (context : Context). cond (eqb owner guest) context (one.contexts guest)) committed
    ∙ ap (λ (context : Context). cond (eqb owner guest) (context_committed command made left' (other.contexts owner)) context) (same.contexts guest is)

-- nor what it shows
deed_alike : (touched : Touched) (command : Command) (one other left left' : Pages) → AreTouched touched (pages_of command) → AlikeOn touched one other → AlikeOn touched left left'
    → commit_deed command one left ≡ commit_deed command other left'
unfolding AreTouched pages_of commit_deed
deed_alike touched (commands.GctxCreate guest frame) one other left left' are alike after_alike = ap (page_shown frame) (alike frame are.0)
deed_alike touched (commands.Activate guest asid) one other left left' are alike after_alike = refl
deed_alike touched (commands.LaunchStart guest) one other left left' are alike after_alike = refl
deed_alike touched (commands.LaunchUpdate guest frame page_type imi perms) one other left left' are alike after_alike = ap (page_shown frame) (alike frame are.0)
deed_alike touched (commands.LaunchFinish guest) one other left left' are alike after_alike = refl
deed_alike touched (commands.MdInit frame) one other left left' are alike after_alike = ap (page_shown frame) (alike frame are.0)
deed_alike touched (commands.PageMove guest source target) one other left left' are alike after_alike = ap (λ (page : Page). small_shown target page.facts.gpn) (after_alike target are.1.0)
deed_alike touched (commands.SwapOut guest source target metadata entry) one other left left' are alike after_alike = ap (λ (page : Page). small_shown source page.facts.gpn) (alike source are.0)
deed_alike touched (commands.SwapIn guest source target metadata entry) one other left left' are alike after_alike = ap (λ (page : Page). small_shown target page.facts.gpn) (after_alike target are.1.0)
deed_alike touched (commands.Reclaim frame) one other left left' are alike after_alike = ap (page_shown frame) (alike frame are.0)
deed_alike touched (commands.MdOut guest source target metadata entry) one other left left' are alike after_alike = refl
deed_alike touched (commands.MdIn guest source target metadata entry) one other left left' are alike after_alike = refl
deed_alike touched (commands.MdRootOut guest source target) one other left left' are alike after_alike = refl
deed_alike touched (commands.MdRootIn guest source target) one other left left' are alike after_alike = refl

-- so the commit
commit_alike : (one other : View) (part : ActorPart) (command : Command) → SeeAlike (command_touches part.standing command) one other
    → MovesAlike (command_touches part.standing command) (commit_move one.contents part command) (commit_move other.contents part command)
unfolding commit_move command_touches
commit_alike one other part command same =
    let touched = command_touches part.standing command in
    let made = unwrap_or part.standing.computed nothing_made in
    let are : AreTouched touched (pages_of command) = command_touched part.standing command in
    let left = pages_after_alike touched command part.standing.locks made one.contents.pages other.contents.pages are same.contents.pages in
    record {
      deed = deed_alike touched command one.contents.pages other.contents.pages _ _ are same.contents.pages left;
      outcome = refl;
      contents = record {
        pages = left;
        contexts = λ guest is. contexts_alike touched (guest_of command) command made _ _ one.contents other.contents guest refl are left same.contents is;
      };
      standing = refl;
    }

-- the compute
abbrev MakesAlike : Contents → Contents → Option Sealing → Type 0
MakesAlike one other None = Unit {0}
MakesAlike one other (Some sealing) = compute_of one sealing ≡ compute_of other sealing

seals_alike : (touched : Touched) (one other : Contents) (what : What) (guest source target : ℕ) (slot : Slot) → touched.context ≡ Some guest → touches_frame touched source ≡ true
    → AgreeOn touched one other → compute_of one (SealOut what guest source target slot) ≡ compute_of other (SealOut what guest source target slot)
unfolding compute_of
seals_alike touched one other what guest source target slot owns from same = rw (same.contexts guest owns, same.pages source from) refl

slot_entry_alike : (touched : Touched) (one other : Pages) (context : Context) (slot : Slot) → SlotTouched touched slot → AlikeOn touched one other → slot_entry one context slot ≡ slot_entry other context slot
slot_entry_alike touched one other context (OfEntry metadata number) at alike = rw (alike metadata at) refl
slot_entry_alike touched one other context OfRoot at alike = refl

opens_alike : (touched : Touched) (one other : Contents) (what : What) (guest source target : ℕ) (slot : Slot) → touched.context ≡ Some guest → touches_frame touched source ≡ true → SlotTouched touched slot
    → AgreeOn touched one other → compute_of one (SealIn what guest source target slot) ≡ compute_of other (SealIn what guest source target slot)
unfolding compute_of
opens_alike touched one other what guest source target slot owns from at same =
    rw (same.contexts guest owns, same.pages source from, slot_entry_alike touched one.pages other.pages (other.contexts guest) slot at same.pages) refl

makes_alike : (touched : Touched) (one other : Contents) (command : Command) → touched.context ≡ guest_of command → AreTouched touched (pages_of command) → AgreeOn touched one other → MakesAlike one other (sealing_of command)
unfolding AreTouched pages_of guest_of sealing_of
makes_alike touched one other (commands.GctxCreate guest frame) owns are same = tt
makes_alike touched one other (commands.Activate guest asid) owns are same = tt
makes_alike touched one other (commands.LaunchStart guest) owns are same = tt
makes_alike touched one other (commands.LaunchUpdate guest frame page_type imi perms) owns are same = tt
makes_alike touched one other (commands.LaunchFinish guest) owns are same = tt
makes_alike touched one other (commands.MdInit frame) owns are same = tt
makes_alike touched one other (commands.PageMove guest source target) owns are same = tt
makes_alike touched one other (commands.SwapOut guest source target metadata entry) owns are same = seals_alike touched one other _ guest source target _ owns are.0 same
makes_alike touched one other (commands.SwapIn guest source target metadata entry) owns are same = opens_alike touched one other _ guest source target _ owns are.0 are.1.1.0 same
makes_alike touched one other (commands.Reclaim frame) owns are same = tt
makes_alike touched one other (commands.MdOut guest source target metadata entry) owns are same = seals_alike touched one other _ guest source target _ owns are.0 same
makes_alike touched one other (commands.MdIn guest source target metadata entry) owns are same = opens_alike touched one other _ guest source target _ owns are.0 are.1.1.0 same
makes_alike touched one other (commands.MdRootOut guest source target) owns are same = seals_alike touched one other _ guest source target _ owns are.0 same
makes_alike touched one other (commands.MdRootIn guest source target) owns are same = opens_alike touched one other _ guest source target _ owns are.0 tt same

made_alike : (touched : Touched) (one other : Contents) (part : ActorPart) (made : Result Computed FwRefusal) → AgreeOn touched one other → MovesAlike touched (computed_move one part made) (computed_move other part made)
unfolding computed_move
made_alike touched one other part (Ok made) same = record { deed = refl; outcome = refl; contents = same; standing = refl }
made_alike touched one other part (Err refusal) same = quiet_alike touched one other part _ _ same

computes_alike : (touched : Touched) (one other : Contents) (part : ActorPart) (sealing : Sealing) → MakesAlike one other (Some sealing) → AgreeOn touched one other
    → MovesAlike touched (computed_move one part (compute_of one sealing)) (computed_move other part (compute_of other sealing))
computes_alike touched one other part sealing makes same =
    subst (λ (made : Result Computed FwRefusal). MovesAlike touched (computed_move one part (compute_of one sealing)) (computed_move other part made)) makes
    (made_alike touched one other part (compute_of one sealing) same)

-- the lock of a context
context_taken_alike : (touched : Touched) (one other : Contents) (part : ActorPart) (guest : ℕ) (refusal : Option FwRefusal) → AgreeOn touched one other
    → MovesAlike touched (context_taken one part guest refusal) (context_taken other part guest refusal)
unfolding context_taken
context_taken_alike touched one other part guest None same = record { deed = refl; outcome = refl; contents = same; standing = refl }
context_taken_alike touched one other part guest (Some refusal) same = quiet_alike touched one other part _ _ same

-- an undeclared guest's context isn't looked at
context_alike : (first : Option FwRefusal) (guests : List GuestSpec) (one other : View) (part : ActorPart) (command : Command) (guest : ℕ)
    → SeeAlike (cond (is_some first) nothing_touched (context_touched guest)) one other
    → MovesAlike (cond (is_some first) nothing_touched (context_touched guest))
    (context_taken one.contents part guest (option_or first (context_refusal guests command (one.contents.contexts guest) (one.context_holder guest))))
    (context_taken other.contents part guest (option_or first (context_refusal guests command (other.contents.contexts guest) (other.context_holder guest))))
context_alike (Some refusal) guests one other part command guest same = context_taken_alike nothing_touched one.contents other.contents part guest (Some refusal) same.contents
context_alike None guests one other part command guest same =
    let refusal = ap (λ (context : Context). context_refusal guests command context (one.context_holder guest)) (same.contents.contexts guest refl)
    ∙ ap (context_refusal guests command (other.contents.contexts guest)) (same.context_holders guest refl) in
    subst (λ (r : Option FwRefusal). MovesAlike (context_touched guest) (context_taken one.contents part guest (context_refusal guests command (one.contents.contexts guest) (one.context_holder guest))) (context_taken other.contents part guest r)) refusal
    (context_taken_alike (context_touched guest) one.contents other.contents part guest _ same.contents)

-- the lock of a page
page_taken_alike : (touched : Touched) (one other : Contents) (part : ActorPart) (lock lock' : PageLock) (refusal refusal' : Option FwRefusal) → lock ≡ lock' → refusal ≡ refusal' → AgreeOn touched one other
    → MovesAlike touched (lock_move one part lock (option_map refused refusal)) (lock_move other part lock' (option_map refused refusal'))
page_taken_alike touched one other part lock lock' refusal refusal' lock_is refusal_is same =
    subst (λ (l : PageLock). MovesAlike touched (lock_move one part lock (option_map refused refusal)) (lock_move other part l (option_map refused refusal'))) lock_is
    (subst (λ (r : Option FwRefusal). MovesAlike touched (lock_move one part lock (option_map refused refusal)) (lock_move other part lock (option_map refused r))) refusal_is
    (lock_alike touched one other part lock (option_map refused refusal) same))

-- a frame outside memory isn't looked at
abbrev page_seen : Bool → Standing → CommandPage → Touched
page_seen inside standing page = with_locks standing.locks (record { regions = cond inside (region_of page.frame ∷ []) []; context = standing.context_lock })

page_alike : (inside : Bool) (frames : ℕ) (guests : List GuestSpec) (one other : View) (part : ActorPart) (command : Command) (page : CommandPage)
    → nat_lt page.frame frames ≡ inside → SeeAlike (page_seen inside part.standing page) one other
    → MovesAlike (page_seen inside part.standing page) (take_page frames guests one part command page) (take_page frames guests other part command page)
unfolding take_page lock_refusal lock_move frame_refusal
page_alike false frames guests one other part command page is same =
    let outside : nat_le frames page.frame ≡ true = grind (arith, nat_tests, is) in
    rw outside (quiet_alike (page_seen false part.standing page) one.contents other.contents part _ _ same.contents)
page_alike true frames guests one other part command page is same =
    let touched = page_seen true part.standing page in
    let here : touches_frame touched page.frame ≡ true = also_touched part.standing.locks (record { regions = region_of page.frame ∷ []; context = part.standing.context_lock }) page.frame (grind (arith, nat_tests)) in
    let found = same.contents.pages page.frame here in
    let holder = same.holders page.frame here in
    let asid = command_asid guests command in
    page_taken_alike touched one.contents other.contents part _ _ _ _ (ap (λ (p : Page). page_lock p.facts.size page.frame) found)
    (ap (λ (p : Page). lock_refusal frames asid command page p (one.holder page.frame)) found ∙ ap (lock_refusal frames asid command page (other.contents.pages page.frame)) holder) same.contents

-- so each event of a command
abbrev PhaseAlike : ℕ → List GuestSpec → View → View → ActorPart → Command → Phase → Type 0
PhaseAlike frames guests one other part command phase =
    SeeAlike (phase_touches frames guests part.standing command phase) one other
    → MovesAlike (phase_touches frames guests part.standing command phase) (phase_move frames guests one part command phase) (phase_move frames guests other part command phase)

pages_phase_alike : (frames : ℕ) (guests : List GuestSpec) (one other : View) (part : ActorPart) (command : Command) (page : Option CommandPage) (sealing : Option Sealing) (computed : Option Computed)
    → (AgreeOn (command_touches part.standing command) one.contents other.contents → MakesAlike one.contents other.contents sealing)
    → PhaseAlike frames guests one other part command (pages_phase page sealing computed)
unfolding pages_phase phase_touches phase_move page_touches
pages_phase_alike frames guests one other part command (Some page) sealing computed makes same = page_alike (nat_lt page.frame frames) frames guests one other part command page refl same
pages_phase_alike frames guests one other part command None (Some sealing) None makes same =
    computes_alike (command_touches part.standing command) one.contents other.contents part sealing (makes same.contents) same.contents
pages_phase_alike frames guests one other part command None (Some sealing) (Some made) makes same = commit_alike one other part command same
pages_phase_alike frames guests one other part command None None computed makes same = commit_alike one other part command same

context_phase_alike : (frames : ℕ) (guests : List GuestSpec) (one other : View) (part : ActorPart) (command : Command) (owner locked : Option ℕ) (later : Phase)
    → PhaseAlike frames guests one other part command later → PhaseAlike frames guests one other part command (context_phase owner locked later)
unfolding context_phase phase_touches phase_move take_context
context_phase_alike frames guests one other part command (Some guest) None later alike = context_alike (guest_refusal guests guest) guests one other part command guest
context_phase_alike frames guests one other part command (Some guest) (Some locked) later alike = alike
context_phase_alike frames guests one other part command None locked later alike = alike

pub firmware_alike : (frames : ℕ) (guests : List GuestSpec) (one other : View) (part : ActorPart) (command : Command) → SeeAlike (firmware_touches frames guests part.standing command) one other
    → MovesAlike (firmware_touches frames guests part.standing command) (firmware_move frames guests one part command) (firmware_move frames guests other part command)
unfolding command_touches
firmware_alike frames guests one other part command =
    let touched = command_touches part.standing command in
    context_phase_alike frames guests one other part command (guest_of command) part.standing.context_lock _
    (pages_phase_alike frames guests one other part command (slice_get (pages_of command) (length part.standing.locks)) (sealing_of command) part.standing.computed
    (λ same. makes_alike touched one.contents other.contents command refl (command_touched part.standing command) same))

-- memory is the same beside what is touched
abbrev AlikeBeside : Touched → Pages → Pages → Type 0
AlikeBeside touched old new = (f : ℕ) → touches_frame touched f ≡ false → old f ≡ new f

at_frame_beside : (touched : Touched) (frame : ℕ) (page : Page) (old new : Pages) → touches_frame touched frame ≡ true → AlikeBeside touched old new → AlikeBeside touched old (at_frame frame page new)
unfolding at_frame
at_frame_beside touched frame page old new here beside f apart =
    cond_both (eqb frame f) _ _ (λ (p : Page). old f ≡ p) (λ same. absurd (other_frame touched frame f here apart (eqb-true frame f same))) (λ _. beside f apart)

slot_beside : (touched : Touched) (slot : Slot) (made : Computed) (cleared : Bool) (old new : Pages) → SlotTouched touched slot → AlikeBeside touched old new → AlikeBeside touched old (with_slot_entry slot (cond cleared None made.entry) new)
unfolding with_slot_entry
slot_beside touched (OfEntry metadata number) made cleared old new here beside = at_frame_beside touched metadata _ old new here beside
slot_beside touched OfRoot made cleared old new here beside = beside

itself : (touched : Touched) (pages : Pages) → AlikeBeside touched pages pages
itself touched pages f apart = refl

out_beside : (touched : Touched) (what : What) (source target : ℕ) (slot : Slot) (made : Computed) (pages : Pages)
    → touches_frame touched source ≡ true → touches_frame touched target ≡ true → SlotTouched touched slot → AlikeBeside touched pages (pages_out what source target slot made pages)
unfolding pages_out
out_beside touched what source target slot made pages from to at =
    slot_beside touched slot made false pages _ at (at_frame_beside touched target _ pages _ to (at_frame_beside touched source _ pages pages from (itself touched pages)))

in_beside : (touched : Touched) (what : What) (target : ℕ) (slot : Slot) (made : Computed) (pages : Pages)
    → touches_frame touched target ≡ true → SlotTouched touched slot → AlikeBeside touched pages (pages_in what target slot made pages)
unfolding pages_in
in_beside touched what target slot made pages to at = slot_beside touched slot made true pages _ at (at_frame_beside touched target _ pages pages to (itself touched pages))

-- page_reclaim changes what is locked alone; without a lock, its one frame
reclaimed_beside : (locks : List PageLock) (touched : Touched) (frame : ℕ) (pages : Pages) → touches_frame touched frame ≡ true → AlikeBeside (with_locks locks touched) pages (over_lock (first_lock locks frame) reclaimed_page pages)
reclaimed_beside [] touched frame pages here f apart =
    let different = other_frame (with_locks [] touched) frame f (also_touched [] touched frame here) apart in
    over_beside frame 1 (λ place. reclaimed_page) pages f (grind (arith, nat_tests, different))
reclaimed_beside (lock ∷ locks) touched frame pages here f apart = over_beside lock.base lock.count (λ place. reclaimed_page) pages f (beside_covered lock locks touched f apart)

reclaim_beside : (standing : Standing) (frame : ℕ) (pages : Pages) → AlikeBeside (command_touches standing (commands.Reclaim frame)) pages (over_lock (first_lock standing.locks frame) reclaimed_page pages)
unfolding command_touches pages_regions pages_of guest_of
reclaim_beside standing frame pages = reclaimed_beside standing.locks (record { regions = region_of frame ∷ []; context = None }) frame pages (grind (arith, nat_tests))

-- a commit changes no page that isn't touched
pages_after_beside : (standing : Standing) (command : Command) (made : Computed) (pages : Pages) → AreTouched (command_touches standing command) (pages_of command)
    → AlikeBeside (command_touches standing command) pages (pages_after command standing.locks made pages)
unfolding AreTouched pages_of pages_after pages_moved
pages_after_beside standing (commands.GctxCreate guest frame) made pages are = let touched = command_touches standing (commands.GctxCreate guest frame) in at_frame_beside touched frame _ pages pages are.0 (itself touched pages)
pages_after_beside standing (commands.Activate guest asid) made pages are = let touched = command_touches standing (commands.Activate guest asid) in itself touched pages
pages_after_beside standing (commands.LaunchStart guest) made pages are = let touched = command_touches standing (commands.LaunchStart guest) in itself touched pages
pages_after_beside standing (commands.LaunchUpdate guest frame page_type imi perms) made pages are = let touched = command_touches standing (commands.LaunchUpdate guest frame page_type imi perms) in at_frame_beside touched frame _ pages pages are.0 (itself touched pages)
pages_after_beside standing (commands.LaunchFinish guest) made pages are = let touched = command_touches standing (commands.LaunchFinish guest) in itself touched pages
pages_after_beside standing (commands.MdInit frame) made pages are = let touched = command_touches standing (commands.MdInit frame) in at_frame_beside touched frame _ pages pages are.0 (itself touched pages)
pages_after_beside standing (commands.PageMove guest source target) made pages are = let touched = command_touches standing (commands.PageMove guest source target) in at_frame_beside touched target _ pages _ are.1.0 (at_frame_beside touched source _ pages pages are.0 (itself touched pages))
pages_after_beside standing (commands.SwapOut guest source target metadata entry) made pages are = let touched = command_touches standing (commands.SwapOut guest source target metadata entry) in out_beside touched _ source target _ made pages are.0 are.1.0 are.1.1.0
pages_after_beside standing (commands.SwapIn guest source target metadata entry) made pages are = let touched = command_touches standing (commands.SwapIn guest source target metadata entry) in in_beside touched _ target _ made pages are.1.0 are.1.1.0
pages_after_beside standing (commands.Reclaim frame) made pages are = reclaim_beside standing frame pages
pages_after_beside standing (commands.MdOut guest source target metadata entry) made pages are = let touched = command_touches standing (commands.MdOut guest source target metadata entry) in out_beside touched _ source target _ made pages are.0 are.1.0 are.1.1.0
pages_after_beside standing (commands.MdIn guest source target metadata entry) made pages are = let touched = command_touches standing (commands.MdIn guest source target metadata entry) in in_beside touched _ target _ made pages are.1.0 are.1.1.0
pages_after_beside standing (commands.MdRootOut guest source target) made pages are = let touched = command_touches standing (commands.MdRootOut guest source target) in out_beside touched _ source target _ made pages are.0 are.1.0 tt
pages_after_beside standing (commands.MdRootIn guest source target) made pages are = let touched = command_touches standing (commands.MdRootIn guest source target) in in_beside touched _ target _ made pages are.1.0 tt

-- nor a context that isn't
contexts_beside : (owner : Option ℕ) (command : Command) (made : Computed) (pages : Pages) (contexts : Contexts) (guest : ℕ) → (owner ≡ Some guest → ⊥) → contexts guest ≡ contexts_after owner command made pages contexts guest
unfolding contexts_after at_guest
contexts_beside None command made pages contexts guest apart = refl
contexts_beside (Some owner) command made pages contexts guest apart =
    cond_both (eqb owner guest) _ _ (λ (context : Context). contexts guest ≡ context) (λ same. absurd (apart (ap Some (eqb-true owner guest same)))) (λ _. refl)

commit_alone : (view : View) (part : ActorPart) (command : Command) → MovesAlone (command_touches part.standing command) view.contents (commit_move view.contents part command)
unfolding commit_move command_touches
commit_alone view part command =
    let made = unwrap_or part.standing.computed nothing_made in
    record {
      contents = record {
        pages = pages_after_beside part.standing command made view.contents.pages (command_touched part.standing command);
        contexts = λ guest apart. contexts_beside (guest_of command) command made _ view.contents.contexts guest apart;
      };
    }

-- a compute and a lock change nothing
made_alone : (touched : Touched) (old : Contents) (part : ActorPart) (made : Result Computed FwRefusal) → MovesAlone touched old (computed_move old part made)
unfolding computed_move
made_alone touched old part (Ok made) = record { contents = record { pages = λ f apart. refl; contexts = λ guest apart. refl } }
made_alone touched old part (Err refusal) = quiet_alone touched old part _ _

context_taken_alone : (touched : Touched) (old : Contents) (part : ActorPart) (guest : ℕ) (refusal : Option FwRefusal) → MovesAlone touched old (context_taken old part guest refusal)
unfolding context_taken
context_taken_alone touched old part guest None = record { contents = record { pages = λ f apart. refl; contexts = λ guest apart. refl } }
context_taken_alone touched old part guest (Some refusal) = quiet_alone touched old part _ _

-- so each event of a command
phase_alone : (frames : ℕ) (guests : List GuestSpec) (view : View) (part : ActorPart) (command : Command) (phase : Phase)
    → MovesAlone (phase_touches frames guests part.standing command phase) view.contents (phase_move frames guests view part command phase)
unfolding phase_touches phase_move take_context take_page
phase_alone frames guests view part command (TakeContext guest) = context_taken_alone _ view.contents part guest _
phase_alone frames guests view part command (TakePage page) = lock_alone _ view.contents part _ _
phase_alone frames guests view part command (Computing sealing) = made_alone _ view.contents part _
phase_alone frames guests view part command Committing = commit_alone view part command

pub firmware_alone : (frames : ℕ) (guests : List GuestSpec) (view : View) (part : ActorPart) (command : Command)
    → MovesAlone (firmware_touches frames guests part.standing command) view.contents (firmware_move frames guests view part command)
firmware_alone frames guests view part command = phase_alone frames guests view part command _

-- the lock of a page covers its frame
lock_covers : (size : PageSize) (frame : ℕ) → in_range (page_lock size frame).base (page_lock size frame).count frame ≡ true
lock_covers Small frame = grind (arith, nat_tests)
lock_covers Large frame = grind (arith, nat_tests)

-- where all pages of a command are locked, each region of theirs is one of the locks
pages_locked : (frames : ℕ) (pages : List CommandPage) (locks : List PageLock) (f : ℕ) → AreLocksOf frames pages locks → length locks ≡ length pages
    → list_any (λ region. eqb region (region_of f)) (pages_regions pages) ≡ true → list_any (λ region. eqb region (region_of f)) (locks_regions locks) ≡ true
unfolding AreLocksOf pages_regions locks_regions
pages_locked frames [] locks f are all is = cc
pages_locked frames (page ∷ pages) [] f are all is = absurd (omega arith)
pages_locked frames (page ∷ pages) (lock ∷ locks) f are all is =
    let test = λ (region : ℕ). eqb region (region_of f) in
    let covers : in_range lock.base lock.count page.frame ≡ true = subst (λ (l : PageLock). in_range l.base l.count page.frame ≡ true) (sym are.0.covers) (lock_covers are.0.size page.frame) in
    list_any-append test (lock_regions lock) (locks_regions locks)
    ∙ elim (eqb (region_of page.frame) (region_of f)) as (λ (b : Bool). (b ≡ true → list_any test (lock_regions lock) ≡ true) → (b || list_any test (pages_regions pages)) ≡ true → (list_any test (lock_regions lock) || list_any test (locks_regions locks)) ≡ true)
    [ true ↦ λ among rest. rw (among refl) refl | false ↦ λ among rest. rw (pages_locked frames pages locks f are.1 (omega arith) rest) (or-true (list_any test (lock_regions lock))) ]
    (λ same. subst (λ (r : ℕ). list_any (λ region. eqb region r) (lock_regions lock) ≡ true) (eqb-true (region_of page.frame) (region_of f) same) (lock_region lock page.frame covers)) is

-- so a compute and a commit touch nothing of memory but what is locked
pub locked_touched : (frames : ℕ) (command : Command) (standing : Standing) (made : List Deed) (f : ℕ) → IsCommand frames command standing made → length standing.locks ≡ length (pages_of command)
    → touches_frame (command_touches standing command) f ≡ touches_frame (with_locks standing.locks nothing_touched) f
unfolding command_touches
locked_touched frames command standing made f is all =
    let test = λ (region : ℕ). eqb region (region_of f) in
    list_any-append test (pages_regions (pages_of command)) (locks_regions standing.locks)
    ∙ elim (list_any test (pages_regions (pages_of command))) as (λ (b : Bool). (b ≡ true → list_any test (locks_regions standing.locks) ≡ true) → (b || list_any test (locks_regions standing.locks)) ≡ list_any test (locks_regions standing.locks))
    [ true ↦ λ among. sym (among refl) | false ↦ λ among. refl ] (pages_locked frames (pages_of command) standing.locks f is.pages all)
